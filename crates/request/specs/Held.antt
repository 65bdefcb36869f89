-- What a request holds: lists of AVPs where they stand. And what is noted of it: that its places are those of the AVPs that some command uses, and that
-- none of these was met twice.
-- Assumes nothing.
use Rattle.std.specs.Prelude.{◌≡◌, List, [], ℕ, drop, map, Bool, Option}
use Rattle.paper.specs.Layout.{message_header}
use Rattle.paper.specs.Reader.{Avps, avps}
use Rattle.paper.specs.Find.{first_second}
use Rattle.paper.specs.Request.{avps_of, is_there}
use Rattle.avp.specs.Found.{Noted, number}
use Rattle.request.specs.declared.profile.TheConstants.{NOTED_KEYS}
use Rattle.request.specs.Place.{InMessage}

-- `places` has where the AVPs that some command uses stand behind the header of `m`
abbrev pub Places : List ℕ → List (Option ℕ) → Type 0
Places m places = Noted (drop message_header m) NOTED_KEYS places

-- no AVP that some command uses is met twice
abbrev pub second_noted : List ℕ → Bool
second_noted m = is_there (first_second (map number NOTED_KEYS) [] (avps_of m))

-- `l` is the list of AVPs of the bytes `s`, which stand in `m` from `at` on
pub record Frames (m : List ℕ) (l : Avps) (at : ℕ) (s : List ℕ) : Type 0 where
  pub inside : InMessage m at s
  pub same : avps at s ≡ l
