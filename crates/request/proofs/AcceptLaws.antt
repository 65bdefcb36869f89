-- What an accepted request asks, from what was found: numbers and data, and whether they are there.
-- Assumes nothing.
use mathlib.Core.Path.{◌≡◌, refl, sym, ap, ◌∙◌}
use mathlib.Core.Bool.{cond}
use mathlib.Core.Option.{Option, none, some}
use mathlib.Core.List.{List, []}
use Prim.Native.Nat.{ℕ, ◌≤◌}
use native.Mathlib.Omega.{arith}
use lib.ListN.{length}
use Rattle.std.specs.Prelude as Std
use Rattle.std.specs.Prelude.{Some, None, unwrap_or}
use Rattle.std.specs.Option.{option_map}
use Rattle.wire.specs.Number.{num_at}
use Rattle.paper.specs.Reader.{Placed}
use Rattle.paper.specs.Find.{body_found}
use Rattle.paper.specs.Shown.{stretch}
use Rattle.paper.specs.ShownIn.{Standing}
use Rattle.paper.specs.Profile.{Key, user_name, visited_plmn_id}
use Rattle.paper.specs.Request.{is_there, find, avps_of, value_of, imei_of}
use Rattle.paper.specs.Asked.{imei_digits_of, imei_in}
use Rattle.paper.proofs.ShownLaws.{top-standing, imei-standing}
use Rattle.request.specs.declared.accept.Accepted.{Accepted}
use Rattle.request.specs.declared.place.Spot.{Spot}
use Rattle.request.specs.Accepted.{SpanOf, Accepts}
use Rattle.request.specs.Place.{sought_of, data_in, Finds}
use Rattle.request.proofs.PlaceLaws.{data_inside, data_bytes, data_stands}

module _ (m : List ℕ) {A : Type 0} (g : List ℕ → A) where
  -- the data of an AVP, read by `g`
  abbrev read : Spot → A
  read s = g (stretch m s.from s.to)

  as_found : (o : Option Placed) → data_in m (sought_of o) ≡ body_found o → option_map read (sought_of o) ≡ cond (is_there o) (Some (g (body_found o))) None
  as_found none e = refl
  as_found (some p) e = ap (λ (x : List ℕ). Some (g x)) e

  pub found_read : (o : Option Placed) {f : Std.Option Spot} → Finds m o f → option_map read f ≡ cond (is_there o) (Some (g (body_found o))) None
  found_read o d = rw d.sought (as_found o (rw d.sought at d.value))

-- a number that is not there is 0
no_number : (o : Option Placed) → unwrap_or (cond (is_there o) (Some (num_at 4 (body_found o) 0)) None) 0 ≡ num_at 4 (body_found o) 0
unfolding num_at
no_number none = refl
no_number (some p) = refl

pub found_number : (m : List ℕ) (o : Option Placed) {f : Std.Option Spot} → Finds m o f → unwrap_or (option_map (λ (s : Spot). num_at 4 (stretch m s.from s.to) 0) f) 0 ≡ num_at 4 (body_found o) 0
found_number m o d = rw (found_read m (λ (x : List ℕ). num_at 4 x 0) o d) (no_number o)

-- ---- where what is handed on stands

module _ (m : List ℕ) where
  pub sought_span : (o : Option Placed) → Standing m o → SpanOf m (body_found o) (body_found o)
  sought_span none t = record { at = 0; inside = record { fits = omega arith; same = refl }; same = refl }
  sought_span (some p) t =
      record { at = _; inside = data_stands m (data_inside m (some p) t) (sym (data_bytes m (some p) t)); same = refl }

  -- no bytes where there is none
  no_data : (o : Option Placed) → unwrap_or (cond (is_there o) (Some (body_found o)) None) [] ≡ body_found o
  no_data none = refl
  no_data (some p) = refl

  module _ (long : 20 ≤ length m) where
    value_span : (key : Key) {x : List ℕ} → x ≡ value_of key m → SpanOf m (value_of key m) x
    unfolding value_of
    value_span key e = rw e (sought_span (find key (avps_of m)) (top-standing m long key))

    module _ {r : Accepted} (a : Accepts m r) where
      pub user_span : SpanOf m (value_of user_name m) r.user_name.now
      user_span = value_span user_name a.user

      pub plmn_span : SpanOf m (value_of visited_plmn_id m) r.visited_plmn.now
      plmn_span = value_span visited_plmn_id a.plmn

      pub imei_span : SpanOf m (imei_digits_of m) (unwrap_or (option_map (λ x. x.now) r.imei) [])
      unfolding imei_in
      imei_span = rw (ap (λ (x : Std.Option (List ℕ)). unwrap_or x []) a.imei ∙ no_data (imei_of m)) (sought_span (imei_of m) (imei-standing m long))
