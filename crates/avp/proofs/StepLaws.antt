-- Each case of `step_at` from the tests that lead to it, what a step says of the stretch, and the AVPs of a stretch step by step.
-- Assumes nothing.
use mathlib.Core.Path.{◌≡◌, refl, sym, ap, ◌∙◌}
use mathlib.Core.Bool.{Bool, true, false, cond}
use mathlib.Core.List.{List}
use Prim.Native.Nat.{ℕ, ◌+◌, ◌-◌, ◌≤◌, ◌<◌}
use native.Mathlib.Nat.{add_assoc}
use native.Mathlib.Omega.{arith}
use lib.ListN.{length, drop, get_or, length-drop, drop_of_length-le}
use lib.Dec.{leb}
use borrow.Author.Tests.{le-leb, lt-leb, leb-true, leb-false}
use Rattle.wire.specs.Number.{num_at}
use Rattle.paper.specs.Avp.{head_size, padded, flags_of, length_of, has_v, framed, body_of}
use Rattle.paper.specs.Reader.{Placed, Avps, whole, broken, more, placed, stump, avps}
use Rattle.paper.proofs.AvpLaws.{head_size-least, padded-least, framed-sizes, framed_takes, sizes-framed, short_unframed, outside_unframed, stump_unframed, code_at, flags-at, length_at, vendor-at, body_at, after-at, framed_at}
use Rattle.paper.proofs.AvpsLaws.{avps_empty, avps-more, avps-broken}
use Rattle.avp.specs.Step.{avp_at, step_at}
use Rattle.avp.specs.Found.{Inside, data_of}
use Rattle.avp.specs.declared.cursor.Avp.{Avp}
use Rattle.avp.specs.declared.cursor.Cursor.{Cursor}
use Rattle.avp.specs.declared.cursor.Step.{Step}
use Rattle.avp.specs.declared.cursor.Step.TheVariants.{Item, End, Bad}

-- ---- the case that the tests of `Cursor::next` lead to

module _ (s : List ℕ) (at : ℕ) where
  pub step_end : length s ≤ at → End ≡ step_at s at
  unfolding step_at
  step_end h = simp (le-leb _ _ h)

  step_bad : at < length s → framed (drop at s) ≡ false → Bad at ≡ step_at s at
  unfolding step_at
  step_bad h e = simp (lt-leb _ _ h, e)

  -- fewer bytes than any header
  pub step_stump : at < length s → length s - at < 8 → Bad at ≡ step_at s at
  step_stump h k =
      let l = head_size-least (flags_of (drop at s)) in
      step_bad h (stump_unframed (drop at s) (rw length-drop (omega arith)))

  pub step_short : at < length s → num_at 3 s (at + 5) < head_size (get_or s (at + 4) 0) → Bad at ≡ step_at s at
  step_short h k = step_bad h (short_unframed (drop at s) (rw (length_at at s, flags-at at s) k))

  pub step_outside : at < length s → length s - at < padded (num_at 3 s (at + 5)) → Bad at ≡ step_at s at
  step_outside h k = step_bad h (outside_unframed (drop at s) (rw (length_at at s, length-drop) k))

  pub step_item : {code vendor start end next : ℕ} → at < length s → head_size (get_or s (at + 4) 0) ≤ num_at 3 s (at + 5) → padded (num_at 3 s (at + 5)) ≤ length s - at
      → code ≡ num_at 4 s at → vendor ≡ cond (has_v (get_or s (at + 4) 0)) (num_at 4 s (at + 8)) 0
      → start ≡ at + head_size (get_or s (at + 4) 0) → end ≡ at + num_at 3 s (at + 5) → next ≡ at + padded (num_at 3 s (at + 5))
      → Item (record { at = at; code = code; vendor = vendor; flags = get_or s (at + 4) 0; start = start; end = end }) (record { at = next }) ≡ step_at s at
  unfolding step_at avp_at
  step_item h long inside e₁ e₂ e₃ e₄ e₅ =
      let f : framed (drop at s) ≡ true = sizes-framed (drop at s) (rw (length_at at s, flags-at at s) long) (rw (length_at at s, length-drop) inside) in
      simp (lt-leb _ _ h, f, code_at at s, flags-at at s, length_at at s, vendor-at at s, e₁, e₂, e₃, e₄, e₅)

-- ---- the AVP at a place

-- where its length is right, the data of the AVP at a place lies inside the stretch
pub inside-at : (s : List ℕ) (at : ℕ) → framed (drop at s) ≡ true → Inside s (avp_at s at)
unfolding avp_at
inside-at s at e =
    let l = (framed-sizes (drop at s) e).long in
    let f = framed_at at s e in
    let p = padded-least (length_of (drop at s)) in
    record { place = omega arith; order = omega arith; fits = omega arith }

-- the part that holds the data is the paper's data
pub data_at : (s : List ℕ) (at : ℕ) → data_of s (avp_at s at) ≡ body_of (drop at s)
unfolding avp_at
data_at s at =
    let head = head_size (flags_of (drop at s)) in
    let e : at + length_of (drop at s) - (at + head) ≡ length_of (drop at s) - head = omega arith in
    rw e (sym (body_at at s))

pub read-place : (s : List ℕ) (at : ℕ) {a : Avp} → a ≡ avp_at s at → a.at ≡ at
unfolding avp_at
read-place s at e = ap (λ (b : Avp). b.at) e

-- ---- what a step says

-- an AVP is the one at its place, its length right, and the next place is behind its padding; a fault is where something stands that is none
abbrev Sound : List ℕ → ℕ → Step → Type 0
Sound s at (Item a next) = (a ≡ avp_at s at) × (framed (drop at s) ≡ true) × (next.at ≡ at + padded (length_of (drop at s)))
Sound s at (Bad p) = (p ≡ at) × (at < length s) × (framed (drop at s) ≡ false)
Sound s at End = length s ≤ at

sound : (s : List ℕ) (at : ℕ) → Sound s at (step_at s at)
unfolding step_at
sound s at = ends (leb (length s) at) refl
  where
    stands : at < length s → (b : Bool) → framed (drop at s) ≡ b → Sound s at (cond b (Item (avp_at s at) (record { at = at + padded (length_of (drop at s)) })) (Bad at))
    stands h true e = (refl, e, refl)
    stands h false e = (refl, h, e)

    ends : (b : Bool) → leb (length s) at ≡ b
        → Sound s at (cond b End (cond (framed (drop at s)) (Item (avp_at s at) (record { at = at + padded (length_of (drop at s)) })) (Bad at)))
    ends true e = leb-true _ _ e
    ends false e = stands (leb-false _ _ e) (framed (drop at s)) refl

module _ (s : List ℕ) (at : ℕ) where
  sound_of : (x : Step) → x ≡ step_at s at → Sound s at x
  sound_of x e = rw e (sound s at)

  pub end-place : End ≡ step_at s at → length s ≤ at
  end-place e = sound_of End e

  module _ {p : ℕ} (e : Bad p ≡ step_at s at) where
    pub bad_place : p ≡ at
    bad_place = (sound_of (Bad p) e).0

    pub bad_inside : at < length s
    bad_inside = (sound_of (Bad p) e).1

    pub bad_unframed : framed (drop at s) ≡ false
    bad_unframed = (sound_of (Bad p) e).2

  module _ {a : Avp} {next : Cursor} (e : Item a next ≡ step_at s at) where
    pub item-avp : a ≡ avp_at s at
    item-avp = (sound_of (Item a next) e).0

    pub item-place : a.at ≡ at
    item-place = read-place s at item-avp

    pub item-framed : framed (drop at s) ≡ true
    item-framed = (sound_of (Item a next) e).1

    pub item-next : next.at ≡ at + padded (length_of (drop at s))
    item-next = (sound_of (Item a next) e).2

    -- the next place is further on, and inside
    pub item_further : at < next.at
    item_further = let n = item-next in let t = framed_takes (drop at s) item-framed in omega arith

    pub item-fits : next.at ≤ length s
    item-fits = let n = item-next in let f = framed_at at s item-framed in omega arith

    pub item_falls : length s - next.at < length s - at
    item_falls = let f = item_further in let g = item-fits in omega arith

    pub item-inside : Inside s a
    item-inside = rw item-avp (inside-at s at item-framed)

-- ---- the AVPs of a stretch, step by step

-- what a step and all behind it come to, where the stretch `s` stands at `base` of the message
abbrev pub after_step : ℕ → List ℕ → Step → Avps
after_step base s (Item a next) = more (placed (base + a.at) (drop a.at s)) (avps (base + next.at) (drop next.at s))
after_step base s (Bad p) = broken (stump (base + p) (drop p s))
after_step base s End = whole

pub avps-at : (base : ℕ) (s : List ℕ) (at : ℕ) → avps (base + at) (drop at s) ≡ after_step base s (step_at s at)
unfolding step_at avp_at
avps-at base s at = ends (leb (length s) at) refl
  where
    stands : at < length s → (b : Bool) → framed (drop at s) ≡ b
        → avps (base + at) (drop at s) ≡ after_step base s (cond b (Item (avp_at s at) (record { at = at + padded (length_of (drop at s)) })) (Bad at))
    stands h true e =
        avps-more (base + at) (drop at s) e
        ∙ ap (more (placed (base + at) (drop at s))) (rw (after-at at s, add_assoc base at (padded (length_of (drop at s)))))
    stands h false e = avps-broken (base + at) (drop at s) (rw length-drop (omega arith)) e

    ends : (b : Bool) → leb (length s) at ≡ b
        → avps (base + at) (drop at s)
        ≡ after_step base s (cond b End (cond (framed (drop at s)) (Item (avp_at s at) (record { at = at + padded (length_of (drop at s)) })) (Bad at)))
    ends true e = rw (drop_of_length-le s (leb-true _ _ e)) (avps_empty (base + at))
    ends false e = stands (leb-false _ _ e) (framed (drop at s)) refl

-- the same from the step that was taken
pub avps-after : (base : ℕ) (s : List ℕ) (at : ℕ) (x : Step) → x ≡ step_at s at → avps (base + at) (drop at s) ≡ after_step base s x
avps-after base s at x e = rw e (avps-at base s at)

module _ (base : ℕ) (s : List ℕ) (at : ℕ) where
  pub avps-end : End ≡ step_at s at → avps (base + at) (drop at s) ≡ whole
  avps-end e = avps-after base s at End e

  pub avps_bad : {p : ℕ} → Bad p ≡ step_at s at → avps (base + at) (drop at s) ≡ broken (stump (base + at) (drop at s))
  avps_bad {p} e = avps-after base s at (Bad p) e ∙ ap (λ (k : ℕ). broken (stump (base + k) (drop k s))) (bad_place s at e)

  pub avps-item : {a : Avp} {next : Cursor} → Item a next ≡ step_at s at
      → avps (base + at) (drop at s) ≡ more (placed (base + at) (drop at s)) (avps (base + next.at) (drop next.at s))
  avps-item {a} {next} e =
      avps-after base s at (Item a next) e ∙ ap (λ (k : ℕ). more (placed (base + k) (drop k s)) (avps (base + next.at) (drop next.at s))) (item-place s at e)

  -- where no AVP stands the list ends or breaks off
  pub avps_over : {x : Step} → x ≡ step_at s at → ((a : Avp) (next : Cursor) → x ≡ Item a next → ⊥)
      → {A : Type 0} (f : Avps → A) (r : A) → f whole ≡ r → ((p : Placed) → f (broken p) ≡ r) → f (avps (base + at) (drop at s)) ≡ r
  avps_over {x = End} e n f r w b = ap f (avps-end e) ∙ w
  avps_over {x = Bad p} e n f r w b = ap f (avps_bad e) ∙ b (stump (base + at) (drop at s))
  avps_over {x = Item a next} e n f r w b = absurd (n a next refl)
