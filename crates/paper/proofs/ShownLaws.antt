-- What a view shows, and what the tests of a request look at, goes back to the message's bytes: the AVP or the head at its place, at any depth.
-- Assumes nothing.
use mathlib.Core.Path.{refl}
use mathlib.Core.Option.{Option, none, some}
use mathlib.Core.List.{List, [], ◌∷◌, map}
use Prim.Native.Nat.{ℕ, ◌+◌, ◌-◌, ◌≤◌}
use native.Mathlib.Omega.{arith}
use lib.ListN.{length}
use Rattle.wire.specs.Put.{part}
use Rattle.dictionary.specs.Rows as Rows
use Rattle.dictionary.specs.declared.Kind.{Kind}
use Rattle.paper.specs.Reader.{Placed, Avps, avps, View, most_groups, view}
use Rattle.paper.specs.Find.{first_of, first_second}
use Rattle.paper.specs.Profile.{Key, terminal_information, imei}
use Rattle.paper.specs.Request.{avps_of, view_of, find, inside, has, used, terminal, imei_of, if_used, key_number, earlier, repeated}
use Rattle.paper.specs.ShownIn.{StandsIn, HeadIn, Standing}
use Rattle.paper.proofs.OptionLaws.{earlier-cases}
use Rattle.paper.proofs.AvpsLaws.{first_of-each, first_second-each, cond_cases}
use Rattle.paper.proofs.VisitLaws.{Found, found_none, Shows, Reaches, list-shows}
use Rattle.paper.proofs.StandsIn.{AllIn, stretch-rest, part_all_in, head_in, inside_all_in}

-- ---- a view

-- the fault and the unknown AVP that a view shows stand in `m`
abbrev pub ViewIn : List ℕ → View → Type 0
ViewIn m v = Shows (λ f. HeadIn m f.shown) (StandsIn m) v

module _ (m : List ℕ) (kind : ℕ → ℕ → Kind) (seen : ℕ → ℕ → List ℕ → List ℕ) where
  stands_on : Reaches kind (λ f. HeadIn m f.shown) (StandsIn m) (λ left. StandsIn m) (λ left. HeadIn m)
  stands_on =
      record {
        mandatory = λ left p t k e. t;
        size = λ left p t e. head_in m p t;
        breaks = λ left p t. t;
        deep = λ p t k. head_in m p t;
        enters = λ left p t k. inside_all_in m p t;
      }

  view_in : (left at n : ℕ) → at + n ≤ length m → ViewIn m (view kind seen left at (part at n m))
  unfolding view
  view_in left at n fits =
      list-shows kind seen (λ f. HeadIn m f.shown) (StandsIn m) (λ left. StandsIn m) (λ left. HeadIn m) stands_on left (avps at (part at n m)) (part_all_in m at n fits)

-- ---- what a search finds in a list of the message's AVPs

pub found-earlier : (P : Placed → Type 0) (o q : Option Placed) → Found P o → Found P q → Found P (earlier o q)
unfolding earlier
found-earlier P none q f g = g
found-earlier P (some o) none f g = f
found-earlier P (some o) (some q) f g = earlier-cases (Found P) o q (λ h. g) (λ h. f)

module _ (m : List ℕ) where
  pub none_standing : Standing m none
  none_standing = found_none (StandsIn m)

  inside-standing : (o : Option Placed) → Standing m o → AllIn m (inside o)
  inside-standing none t = tt
  inside-standing (some p) t = inside_all_in m p (t p refl)

  module _ (l : Avps) (all : AllIn m l) where
    found-standing : (vendor code : ℕ) → Standing m (first_of vendor code l)
    found-standing vendor code = first_of-each (StandsIn m) (HeadIn m) vendor code l all

    second-standing : (keys : List ℕ) → Standing m (first_second keys [] l)
    second-standing keys = first_second-each (StandsIn m) (HeadIn m) keys [] l all

-- ---- what the tests of a request look at

module _ (m : List ℕ) (long : 20 ≤ length m) where
  pub all_in_lem : AllIn m (avps_of m)
  unfolding avps_of
  all_in_lem = rw (stretch-rest 20 m) at (part_all_in m 20 (length m - 20) (omega arith))

  pub top-standing : (k : Key) → Standing m (find k (avps_of m))
  top-standing k = found-standing m (avps_of m) all_in_lem k.vendor k.code

  pub used-standing : (k : Key) → Standing m (if_used k m)
  used-standing k = cond_cases (Standing m) (has k (used m)) (λ e. top-standing k) (λ e. none_standing m)

  terminal_in : AllIn m (terminal m)
  unfolding terminal
  terminal_in =
      cond_cases (AllIn m) (has terminal_information (used m))
      (λ e. inside-standing m (find terminal_information (avps_of m)) (top-standing terminal_information)) (λ e. tt)

  pub imei-standing : Standing m (imei_of m)
  imei-standing = found-standing m (terminal m) terminal_in imei.vendor imei.code

  pub repeated-standing : Standing m (repeated m)
  unfolding repeated
  repeated-standing =
      found-earlier (StandsIn m) (first_second (map key_number (used m)) [] (avps_of m)) (first_second (key_number imei ∷ []) [] (terminal m))
      (second-standing m (avps_of m) all_in_lem (map key_number (used m))) (second-standing m (terminal m) terminal_in (key_number imei ∷ []))

  -- the fault and the unknown AVP of a request's visit
  pub view-shows : ViewIn m (view_of m)
  unfolding view_of
  view-shows = rw (stretch-rest 20 m) at (view_in m Rows.kind_of (λ vendor code x. x) most_groups 20 (length m - 20) (omega arith))
