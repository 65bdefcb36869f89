-- The first AVP of a key, step by step of the cursor; and that what is found lies inside the stretch, with the paper's data, also where the stretch stands in a message.
-- Assumes nothing.
use mathlib.Core.Path.{◌≡◌, refl, sym, ap, ◌∙◌}
use mathlib.Core.Bool.{true, false, ◌&&◌}
use mathlib.Core.Option.{Option, none, some, map}
use mathlib.Core.List.{List, []}
use Prim.Native.Nat.{ℕ, ◌+◌, ◌-◌, ◌<◌}
use native.Mathlib.Nat.{zero-add}
use native.Mathlib.Omega.{arith}
use lib.ListN.{length, take, drop, length-drop, drop_of_length-le}
use lib.Seq.{take-length}
use lib.Dec.{eqb}
use Rattle.std.specs.Prelude.{Some, None}
use Rattle.std.proofs.lemmas.Option.{none-some, same_Some}
use Rattle.paper.specs.Avp.{framed, avp_of}
use Rattle.paper.specs.Reader.{Placed, placed, avps}
use Rattle.paper.specs.Find.{has_key, first_of, first_second, body_found, origin_host}
use Rattle.paper.proofs.AvpsLaws.{Stands, first_of_stands, first_second_stands, avps_empty}
use Rattle.avp.specs.Step.{avp_at, step_at}
use Rattle.avp.specs.Found.{found_at, Inside, data_of}
use Rattle.avp.specs.declared.cursor.Avp.{Avp}
use Rattle.avp.specs.declared.cursor.Cursor.{Cursor}
use Rattle.avp.specs.declared.cursor.Step.TheVariants.{Item, End, Bad}
use Rattle.avp.proofs.StepLaws.{avps-end, avps_bad, avps-item, item-avp, read-place, inside-at, data_at}
use Rattle.avp.proofs.MovedLaws.{move_by, placed_moved, first_of_based, first_second_based, body_anywhere}

-- ---- a search by the cursor

-- it starts with all AVPs of the stretch
pub walk_start : (s : List ℕ) {at : ℕ} → at ≡ 0 → avps 0 s ≡ avps (0 + at) (drop at s)
walk_start s e = rw e

-- the answer that is the AVP of a step
pub found-item : (s : List ℕ) (at : ℕ) {a : Avp} {next : Cursor} → Item a next ≡ step_at s at → found_at s (some (placed (0 + at) (drop at s))) ≡ Some a
unfolding placed
found-item s at e = ap Some (ap (avp_at s) (zero-add at) ∙ sym (item-avp s at e))

module _ (vendor code : ℕ) (s : List ℕ) (at : ℕ) where
  pub find-end : End ≡ step_at s at → first_of vendor code (avps (0 + at) (drop at s)) ≡ none
  unfolding first_of
  find-end e = ap (first_of vendor code) (avps-end 0 s at e)

  pub find_bad : {p : ℕ} → Bad p ≡ step_at s at → first_of vendor code (avps (0 + at) (drop at s)) ≡ none
  unfolding first_of
  find_bad e = ap (first_of vendor code) (avps_bad 0 s at e)

  module _ {a : Avp} {next : Cursor} (e : Item a next ≡ step_at s at) where
    item-key : has_key vendor code (placed (0 + at) (drop at s)).avp ≡ eqb a.vendor vendor && eqb a.code code
    unfolding has_key placed avp_of avp_at
    item-key = ap (λ (b : Avp). eqb b.vendor vendor && eqb b.code code) (sym (item-avp s at e))

    pub find-here : eqb a.vendor vendor && eqb a.code code ≡ true → first_of vendor code (avps (0 + at) (drop at s)) ≡ some (placed (0 + at) (drop at s))
    unfolding first_of
    find-here k = ap (first_of vendor code) (avps-item 0 s at e) ∙ rw (item-key ∙ k)

    pub find-later : eqb a.vendor vendor && eqb a.code code ≡ false
        → first_of vendor code (avps (0 + at) (drop at s)) ≡ first_of vendor code (avps (0 + next.at) (drop next.at s))
    unfolding first_of
    find-later k = ap (first_of vendor code) (avps-item 0 s at e) ∙ rw (item-key ∙ k)

-- ---- what is found

-- `a` is what was found, `f`: the AVP at its place of the stretch, its length right
pub record Lies (s : List ℕ) (a : Avp) (f : Option Placed) : Type 0 where
  pub place : f ≡ some (placed a.at (drop a.at s))
  pub read : a ≡ avp_at s a.at
  pub right : framed (drop a.at s) ≡ true

lies : (s : List ℕ) {a : Avp} (f : Option Placed) → ((p : Placed) → f ≡ some p → Stands 0 s p) → Some a ≡ found_at s f → Lies s a f
lies s {a} none t e = absurd (none-some a (sym e))
lies s {a} (some p) t e =
    let r = same_Some a (avp_at s p.at) e in
    let k : a.at ≡ p.at = read-place s p.at r in
    let z : p.at - 0 ≡ p.at = omega arith in
    let here = t p refl in
    record {
      place = rw k (ap some (rw z at here.read));
      read = r ∙ ap (avp_at s) (sym k);
      right = rw k (rw z at here.right);
    }

module _ {s : List ℕ} {a : Avp} {f : Option Placed} (l : Lies s a f) where
  pub lies-inside : Inside s a
  lies-inside = rw l.read (inside-at s a.at l.right)

  pub lies-body : data_of s a ≡ body_found f
  unfolding placed avp_of
  lies-body = rw l.place (ap (data_of s) l.read ∙ data_at s a.at)

  -- its place where the stretch stands at `base` of the message
  pub lies_at : (base : ℕ) → map (move_by base) f ≡ some (placed (base + a.at) (drop a.at s))
  lies_at base = rw l.place (ap some (sym (placed_moved base a.at (drop a.at s))))

module _ (s : List ℕ) {a : Avp} where
  pub found-lies : (vendor code : ℕ) → Some a ≡ found_at s (first_of vendor code (avps 0 s)) → Lies s a (first_of vendor code (avps 0 s))
  found-lies vendor code e = lies s (first_of vendor code (avps 0 s)) (first_of_stands vendor code 0 s) e

  pub second-lies : (keys : List ℕ) → Some a ≡ found_at s (first_second keys [] (avps 0 s)) → Lies s a (first_second keys [] (avps 0 s))
  second-lies keys e = lies s (first_second keys [] (avps 0 s)) (first_second_stands keys [] 0 s) e

pub found_nothing : (s : List ℕ) (f : Option Placed) → None ≡ found_at s f → f ≡ none
found_nothing s none e = refl
found_nothing s (some p) e = absurd (none-some (avp_at s p.at) e)

-- the data of what was found, and none where nothing was
pub found-body : (s : List ℕ) {a : Avp} (vendor code : ℕ) → Some a ≡ found_at s (first_of vendor code (avps 0 s)) → data_of s a ≡ body_found (first_of vendor code (avps 0 s))
found-body s vendor code e = lies-body (found-lies s vendor code e)

pub no_body : (s : List ℕ) (vendor code : ℕ) → None ≡ found_at s (first_of vendor code (avps 0 s)) → [] ≡ body_found (first_of vendor code (avps 0 s))
no_body s vendor code e = sym (ap body_found (found_nothing s (first_of vendor code (avps 0 s)) e))

-- ---- the same, where the stretch stands at `base` of the message

module _ (base : ℕ) (s : List ℕ) where
  module _ (vendor code : ℕ) where
    pub found-placed : {a : Avp} → Some a ≡ found_at s (first_of vendor code (avps 0 s)) → first_of vendor code (avps base s) ≡ some (placed (base + a.at) (drop a.at s))
    found-placed e = first_of_based base vendor code s ∙ lies_at (found-lies s vendor code e) base

    pub nothing_placed : None ≡ found_at s (first_of vendor code (avps 0 s)) → first_of vendor code (avps base s) ≡ none
    nothing_placed e = first_of_based base vendor code s ∙ rw (found_nothing s (first_of vendor code (avps 0 s)) e)

  module _ (keys : List ℕ) where
    pub second-placed : {a : Avp} → Some a ≡ found_at s (first_second keys [] (avps 0 s)) → first_second keys [] (avps base s) ≡ some (placed (base + a.at) (drop a.at s))
    second-placed e = first_second_based base keys s ∙ lies_at (second-lies s keys e) base

    pub no_second-placed : None ≡ found_at s (first_second keys [] (avps 0 s)) → first_second keys [] (avps base s) ≡ none
    no_second-placed e = first_second_based base keys s ∙ rw (found_nothing s (first_second keys [] (avps 0 s)) e)

-- ---- Origin-Host

-- a message without a whole header has none
pub host_of_short : (m : List ℕ) → length m < 20 → [] ≡ origin_host m
unfolding origin_host first_of
host_of_short m h = rw (drop_of_length-le m {i = 20} (omega arith), avps_empty 20)

pub host-behind-header : (m : List ℕ) → body_found (first_of 0 264 (avps 0 (take (length m - 20) (drop 20 m)))) ≡ origin_host m
unfolding origin_host
host-behind-header m =
    let whole : take (length m - 20) (drop 20 m) ≡ drop 20 m = ap (λ (n : ℕ). take n (drop 20 m)) (sym (length-drop 20 m)) ∙ take-length (drop 20 m) in
    ap (λ (s : List ℕ). body_found (first_of 0 264 (avps 0 s))) whole ∙ sym (body_anywhere 20 0 264 (drop 20 m))
