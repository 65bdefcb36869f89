-- What a request holds: the AVPs that its command uses, and those inside Terminal-Information.
-- Assumes nothing.
use mathlib.Core.Path.{◌≡◌, refl, sym, ap, ◌∙◌}
use mathlib.Core.Bool.{Bool, true, false, cond}
use mathlib.Core.Option.{Option, none}
use mathlib.Core.List.{List, []}
use Prim.Native.Nat.{ℕ, ◌+◌, ◌-◌, ◌≤◌}
use native.Mathlib.Omega.{arith}
use lib.ListN.{length, drop, length-drop}
use Rattle.std.specs.Prelude as Std
use Rattle.std.specs.Prelude.{Some, None}
use Rattle.paper.specs.Reader.{Placed, Avps, whole, avps}
use Rattle.paper.specs.Find.{first_second}
use Rattle.paper.specs.Profile.{Key, command_of, terminal_information, imei}
use Rattle.paper.specs.Shown.{stretch}
use Rattle.paper.specs.Request.{find, has, used, used_in, avps_of, command_code, inside, terminal, if_used, imei_of}
use Rattle.paper.proofs.StandsIn.{stretch-rest}
use Rattle.paper.proofs.ShownLaws.{none_standing, top-standing, imei-standing}
use Rattle.request.specs.declared.place.Spot.{Spot}
use Rattle.request.specs.declared.profile.Command.{Command}
use Rattle.request.specs.Held.{Frames}
use Rattle.request.specs.Place.{sought_of, Finds}
use Rattle.request.specs.Profile.{row_of}
use Rattle.request.proofs.PlaceLaws.{finds_lem, data_stands, inside-spot, inside_nothing}

-- the AVPs behind the header
pub all_frames : (m : List ℕ) → 20 ≤ length m → {s : List ℕ} → s ≡ drop 20 m → Frames m (avps_of m) 20 s
unfolding avps_of
all_frames m h {s} e =
    let k : length s ≡ length m - 20 = ap length e ∙ length-drop 20 m in
    let z : 20 + length s ≡ length m = omega arith in
    record { inside = record { fits = omega arith; same = e ∙ sym (stretch-rest 20 m) ∙ rw z }; same = rw e }

-- ---- searches in a list that stands in the message

pub found_framed : (m : List ℕ) (key : Key) {l : Avps} {at : ℕ} {s : List ℕ} → Frames m l at s → {f : Std.Option Spot} → f ≡ sought_of (find key (avps at s)) → f ≡ sought_of (find key l)
found_framed m key a e = e ∙ ap (λ (x : Avps). sought_of (find key x)) a.same

pub second-framed : (m : List ℕ) (keys : List ℕ) {l : Avps} {at : ℕ} {s : List ℕ} → Frames m l at s → {f : Std.Option Spot} → f ≡ sought_of (first_second keys [] (avps at s))
    → f ≡ sought_of (first_second keys [] l)
second-framed m keys a e = e ∙ ap (λ (x : Avps). sought_of (first_second keys [] x)) a.same

module _ (m : List ℕ) (key : Key) where
  -- the AVPs behind the header are those of the list that starts there
  pub found_top : 20 ≤ length m → {base : ℕ} {s : List ℕ} → base ≡ 20 → s ≡ drop 20 m → {f : Std.Option Spot} → f ≡ sought_of (find key (avps base s)) → Finds m (find key (avps_of m)) f
  unfolding avps_of
  found_top long b e q = finds_lem m (find key (avps_of m)) (top-standing m long key) (q ∙ rw (b, e))

  -- ---- what the command uses

  pub uses-own : {c d : Std.Option Command} → row_of c ≡ command_of (command_code m) → c ≡ d → {b : Bool} → b ≡ has key (used_in (row_of d)) → b ≡ has key (used m)
  uses-own own e u = u ∙ ap (λ x. has key (used_in x)) (ap row_of (sym e) ∙ own)

  pub uses_nothing : {c : Std.Option Command} → row_of c ≡ command_of (command_code m) → c ≡ None → false ≡ has key (used m)
  unfolding used_in has
  uses_nothing own e = uses-own own e refl

  module _ {b : Bool} (u : b ≡ has key (used m)) where
    pub found-used : b ≡ true → {f : Std.Option Spot} → Finds m (find key (avps_of m)) f → Finds m (if_used key m) f
    found-used t d = rw (sym u ∙ t) d

    pub found_unused : b ≡ false → Finds m (if_used key m) None
    found_unused t = rw (sym u ∙ t) (finds_lem m none (none_standing m) refl)

-- ---- inside Terminal-Information

module _ (m : List ℕ) where
  inside_chosen : (b : Bool) (o : Option Placed) → inside (cond b o none) ≡ cond b (inside o) whole
  inside_chosen true o = refl
  inside_chosen false o = refl

  terminal-inside : inside (if_used terminal_information m) ≡ terminal m
  unfolding terminal
  terminal-inside = inside_chosen (has terminal_information (used m)) (find terminal_information (avps_of m))

  pub terminal-spot : {s : Spot} → Finds m (if_used terminal_information m) (Some s) → {x : List ℕ} → x ≡ stretch m s.from s.to → avps s.from x ≡ terminal m
  terminal-spot d q = inside-spot (if_used terminal_information m) d.sought (q ∙ d.value) ∙ terminal-inside

  pub terminal_nothing : {f : Std.Option Spot} → Finds m (if_used terminal_information m) f → ((s : Spot) → f ≡ Some s → ⊥) → avps 0 [] ≡ terminal m
  terminal_nothing d n = inside_nothing (if_used terminal_information m) d.sought n ∙ terminal-inside

  pub terminal_frames : {s : Spot} → Finds m (if_used terminal_information m) (Some s) → {x : List ℕ} → x ≡ stretch m s.from s.to → Frames m (terminal m) s.from x
  terminal_frames d q = record { inside = data_stands m d.inside q; same = terminal-spot d q }

  pub terminal_frames-nothing : {f : Std.Option Spot} → Finds m (if_used terminal_information m) f → ((s : Spot) → f ≡ Some s → ⊥) → Frames m (terminal m) 0 []
  terminal_frames-nothing d n = record { inside = record { fits = omega arith; same = refl }; same = terminal_nothing d n }

  pub found_imei : 20 ≤ length m → {l : Avps} → l ≡ terminal m → {f : Std.Option Spot} → f ≡ sought_of (find imei l) → Finds m (imei_of m) f
  found_imei long e q = finds_lem m (imei_of m) (imei-standing m long) (q ∙ ap (λ (l : Avps). sought_of (find imei l)) e)
