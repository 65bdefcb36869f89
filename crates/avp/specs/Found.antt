-- What a search answers, and the part of the stretch that holds an AVP's data.
-- Assumes nothing.
use Rattle.std.specs.Prelude.{◌≡◌, List, ℕ, ◌-◌, ◌≤◌, ◌<◌, length, get_or, eqb, Option, Some, None}
use Rattle.std.specs.List.{position}
use Rattle.std.proofs.Math.Option.{none, some}
use Rattle.std.proofs.Math.Option as Paper
use Rattle.wire.specs.Put.{part}
use Rattle.dictionary.specs.Rows.{key_of}
use Rattle.dictionary.specs.declared.Key.{Key}
use Rattle.paper.specs.Reader.{Placed, avps}
use Rattle.paper.specs.Find.{first_of}
use Rattle.avp.specs.Step.{avp_at}
use Rattle.avp.specs.declared.cursor.Avp.{Avp}
use Rattle.avp.specs.declared.cursor.Step.{Step}
use Rattle.avp.specs.declared.cursor.Step.TheVariants.{Item, End, Bad}

-- the answer for what the paper finds among the AVPs of `s`, whose places count from its start
abbrev pub found_at : List ℕ → Paper.Option Placed → Option Avp
found_at s none = None
found_at s (some p) = Some (avp_at s p.at)

-- a key's number, which the paper counts it by
abbrev pub number : Key → ℕ
number k = key_of k.vendor k.code

-- the index of the first key with the number `k`
abbrev pub index_of : ℕ → List Key → Option ℕ
index_of k keys = position (λ x. eqb (number x) k) keys

-- the answer that a step comes to
abbrev pub found_by : Step → Option Avp
found_by (Item a next) = Some a
found_by End = None
found_by (Bad p) = None

-- where what was found stands
abbrev pub place_of : Paper.Option Placed → Option ℕ
place_of none = None
place_of (some p) = Some p.at

-- `places` has by the index of each key the place of its first AVP
pub record Noted (s : List ℕ) (keys : List Key) (places : List (Option ℕ)) : Type 0 where
  pub long : length keys ≤ length places
  pub first : (vendor code i : ℕ) → code < 4294967296 → index_of (key_of vendor code) keys ≡ Some i → get_or places i None ≡ place_of (first_of vendor code (avps 0 s))

-- the AVP's data lies inside the stretch, behind its place
pub record Inside (s : List ℕ) (a : Avp) : Type 0 where
  pub place : a.at ≤ a.start
  pub order : a.start ≤ a.end
  pub fits : a.end ≤ length s

abbrev pub data_of : List ℕ → Avp → List ℕ
data_of s a = part a.start (a.end - a.start) s
