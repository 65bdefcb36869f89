-- The AVPs of a stretch as a list: the steps of a walk, and that a search in the list is the paper's.
-- Assumes nothing.
use mathlib.Core.Path.{◌≡◌, refl, sym, ap, ◌∙◌}
use mathlib.Core.Bool.{Bool, true, false, cond, ◌&&◌, and_comm}
use mathlib.Core.Option.{some}
use mathlib.Core.List.{List, [], ◌∷◌}
use Prim.Native.Nat.{ℕ, ◌+◌, ◌-◌}
use native.Mathlib.Nat.{zero-add}
use native.Mathlib.Omega.{arith}
use lib.ListN.{drop}
use lib.Dec.{eqb}
use Rattle.std.specs.Prelude.{Option, Some, None}
use Rattle.std.specs.List.{find}
use Rattle.dictionary.specs.Rows.{key_of}
use Rattle.paper.specs.Avp.{avp_of}
use Rattle.paper.specs.Reader.{Placed, Avps, whole, broken, more, placed, avps}
use Rattle.paper.specs.Find.{has_key, first_of, member, first_second}
use Rattle.paper.proofs.AvpsLaws.{Each, Stands, Breaks, stands_avp, avps_stand}
use Rattle.avp.specs.Step.{avp_at, step_at}
use Rattle.avp.specs.Walk.{items}
use Rattle.avp.specs.Found.{found_at}
use Rattle.avp.specs.declared.cursor.Avp.{Avp}
use Rattle.avp.specs.declared.cursor.Cursor.{Cursor}
use Rattle.avp.specs.declared.cursor.Step.{Step}
use Rattle.avp.specs.declared.cursor.Step.TheVariants.{Item}
use Rattle.avp.proofs.StepLaws.{avps-item, avps_over, item-avp}

-- ---- the steps of a walk

module _ (s : List ℕ) (at : ℕ) where
  from_start : avps at (drop at s) ≡ avps (0 + at) (drop at s)
  from_start = ap (λ (k : ℕ). avps k (drop at s)) (sym (zero-add at))

  pub items-item : {a : Avp} {next : Cursor} → Item a next ≡ step_at s at → items s (avps at (drop at s)) ≡ a ∷ items s (avps next.at (drop next.at s))
  unfolding items placed
  items-item {next} e =
      ap (items s) (from_start ∙ avps-item 0 s at e) ∙ rw (zero-add at, zero-add next.at) (ap (λ (x : Avp). x ∷ items s (avps next.at (drop next.at s))) (sym (item-avp s at e)))

  pub items_over : {x : Step} → x ≡ step_at s at → ((a : Avp) (next : Cursor) → x ≡ Item a next → ⊥) → items s (avps at (drop at s)) ≡ []
  unfolding items
  items_over e n = ap (items s) from_start ∙ avps_over 0 s at e n (items s) [] refl (λ p. refl)

-- ---- searches in the list

-- the AVP has the key
abbrev pub keyed : ℕ → ℕ → Avp → Bool
keyed vendor code a = eqb a.code code && eqb a.vendor vendor

-- the paper's first second of a key, in the list that a walk gives
unfoldable pub second_in : List ℕ → List ℕ → List Avp → Option Avp
second_in keys met [] = None
second_in keys met (a ∷ rest) =
    cond (member (key_of a.vendor a.code) keys)
    (cond (member (key_of a.vendor a.code) met) (Some a) (second_in keys (key_of a.vendor a.code ∷ met) rest))
    (second_in keys met rest)

module _ (s : List ℕ) where
  abbrev Standing : Avps → Type 0
  Standing l = Each (Stands 0 s) (Breaks 0 s) l

  module _ (p : Placed) (t : Stands 0 s p) where
    read : p.avp ≡ avp_of (drop p.at s)
    read = let z : p.at - 0 ≡ p.at = omega arith in stands_avp 0 s p t ∙ ap (λ (k : ℕ). avp_of (drop k s)) z

    vendor-read : (avp_at s p.at).vendor ≡ p.avp.vendor
    unfolding avp_at avp_of
    vendor-read = rw read

    code-read : (avp_at s p.at).code ≡ p.avp.code
    unfolding avp_at avp_of
    code-read = rw read

  module _ (vendor code : ℕ) where
    find_items : (l : Avps) → Standing l → find (keyed vendor code) (items s l) ≡ found_at s (first_of vendor code l)
    unfolding items first_of has_key
    find_items whole t = refl
    find_items (broken p) t = refl
    find_items (more p rest) t =
        ap (λ (b : Bool). cond b (Some (avp_at s p.at)) (find (keyed vendor code) (items s rest))) own ∙ go (eqb p.avp.vendor vendor && eqb p.avp.code code) (find_items rest t.1)
      where
        own : keyed vendor code (avp_at s p.at) ≡ eqb p.avp.vendor vendor && eqb p.avp.code code
        own = rw (vendor-read p t.0, code-read p t.0) (and_comm (eqb p.avp.code code) (eqb p.avp.vendor vendor))

        go : (b : Bool) → find (keyed vendor code) (items s rest) ≡ found_at s (first_of vendor code rest)
            → cond b (Some (avp_at s p.at)) (find (keyed vendor code) (items s rest)) ≡ found_at s (cond b (some p) (first_of vendor code rest))
        go true e = refl
        go false e = e

    pub find-first : find (keyed vendor code) (items s (avps 0 s)) ≡ found_at s (first_of vendor code (avps 0 s))
    find-first = find_items (avps 0 s) (avps_stand 0 s)

  module _ (keys : List ℕ) where
    second_items : (met : List ℕ) (l : Avps) → Standing l → second_in keys met (items s l) ≡ found_at s (first_second keys met l)
    unfolding items second_in first_second
    second_items met whole t = refl
    second_items met (broken p) t = refl
    second_items met (more p rest) t =
        ap (λ (k : ℕ). cond (member k keys) (cond (member k met) (Some (avp_at s p.at)) (second_in keys (k ∷ met) (items s rest))) (second_in keys met (items s rest))) own
        ∙ go (member key keys) (member key met) (second_items (key ∷ met) rest t.1) (second_items met rest t.1)
      where
        key : ℕ
        key = key_of p.avp.vendor p.avp.code

        own : key_of (avp_at s p.at).vendor (avp_at s p.at).code ≡ key
        own = rw (vendor-read p t.0, code-read p t.0)

        go : (b c : Bool) → second_in keys (key ∷ met) (items s rest) ≡ found_at s (first_second keys (key ∷ met) rest)
            → second_in keys met (items s rest) ≡ found_at s (first_second keys met rest)
            → cond b (cond c (Some (avp_at s p.at)) (second_in keys (key ∷ met) (items s rest))) (second_in keys met (items s rest))
            ≡ found_at s (cond b (cond c (some p) (first_second keys (key ∷ met) rest)) (first_second keys met rest))
        go true true e f = refl
        go true false e f = e
        go false c e f = f

    pub second-first : second_in keys [] (items s (avps 0 s)) ≡ found_at s (first_second keys [] (avps 0 s))
    second-first = second_items [] (avps 0 s) (avps_stand 0 s)
