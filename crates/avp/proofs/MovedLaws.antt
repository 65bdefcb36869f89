-- The AVPs of one stretch at two places of a message: what is found is the same but for its place.
-- Assumes nothing.
use mathlib.Core.Path.{◌≡◌, refl, sym, ap, ◌∙◌}
use mathlib.Core.Bool.{Bool, true, false, cond}
use mathlib.Core.Option.{Option, none, some, map}
use mathlib.Core.List.{List, [], ◌∷◌}
use Prim.Native.Nat.{ℕ, ◌+◌}
use native.Mathlib.Nat.{add_assoc, add-zero}
use Rattle.dictionary.specs.Rows.{key_of}
use Rattle.paper.specs.Avp.{padded, length_of, after}
use Rattle.paper.specs.Reader.{Placed, Avps, whole, broken, more, placed, stump, avps}
use Rattle.paper.specs.Find.{has_key, first_of, body_found, member, first_second}
use Rattle.paper.proofs.AvpsLaws.{avps_empty, avps-more, avps-broken, avps_induction}

-- an AVP `base` bytes further on
abbrev pub move_by : ℕ → Placed → Placed
move_by base p = record { at = base + p.at; end = base + p.end; avp = p.avp }

unfoldable pub moved : ℕ → Avps → Avps
moved base whole = whole
moved base (broken p) = broken (move_by base p)
moved base (more p rest) = more (move_by base p) (moved base rest)

pub placed_moved : (base at : ℕ) (s : List ℕ) → placed (base + at) s ≡ move_by base (placed at s)
unfolding placed
placed_moved base at s = rw add_assoc

stump_moved : (base at : ℕ) (s : List ℕ) → stump (base + at) s ≡ move_by base (stump at s)
unfolding stump
stump_moved base at s = rw add_assoc

pub avps_moved : (base at : ℕ) (s : List ℕ) → avps (base + at) s ≡ moved base (avps at s)
unfolding moved
avps_moved base =
    avps_induction (λ at s l. avps (base + at) s ≡ moved base l) (λ at. avps_empty (base + at))
    (λ at s e h.
    let r = padded (length_of s) in
    let tail : avps (base + at + r) (after s) ≡ moved base (avps (at + r) (after s)) = rw (add_assoc base at r) h in
    avps-more (base + at) s e ∙ rw (placed_moved base at s, tail))
    (λ at s h e. avps-broken (base + at) s h e ∙ ap broken (stump_moved base at s))

-- ---- what is found

-- a choice between two that are moved
choice_moved : (base : ℕ) (b : Bool) (f g : Option Placed) {f' g' : Option Placed} → f' ≡ map (move_by base) f → g' ≡ map (move_by base) g
    → cond b f' g' ≡ map (move_by base) (cond b f g)
choice_moved base true f g d e = d
choice_moved base false f g d e = e

pub first_of_moved : (base vendor code : ℕ) (l : Avps) → first_of vendor code (moved base l) ≡ map (move_by base) (first_of vendor code l)
unfolding moved first_of
first_of_moved base vendor code whole = refl
first_of_moved base vendor code (broken p) = refl
first_of_moved base vendor code (more p rest) =
    choice_moved base (has_key vendor code p.avp) (some p) (first_of vendor code rest) refl (first_of_moved base vendor code rest)

pub first_second_moved : (base : ℕ) (keys met : List ℕ) (l : Avps) → first_second keys met (moved base l) ≡ map (move_by base) (first_second keys met l)
unfolding moved first_second
first_second_moved base keys met whole = refl
first_second_moved base keys met (broken p) = refl
first_second_moved base keys met (more p rest) =
    let key = key_of p.avp.vendor p.avp.code in
    let marked = first_second keys (key ∷ met) rest in
    choice_moved base (member key keys) (cond (member key met) (some p) marked) (first_second keys met rest)
    (choice_moved base (member key met) (some p) marked refl (first_second_moved base keys (key ∷ met) rest))
    (first_second_moved base keys met rest)

module _ (base : ℕ) where
  -- a stretch at `base`, from the stretch by itself
  avps_based : (s : List ℕ) → avps base s ≡ moved base (avps 0 s)
  avps_based s = ap (λ (k : ℕ). avps k s) (sym (add-zero base)) ∙ avps_moved base 0 s

  pub first_of_based : (vendor code : ℕ) (s : List ℕ) → first_of vendor code (avps base s) ≡ map (move_by base) (first_of vendor code (avps 0 s))
  first_of_based vendor code s = ap (first_of vendor code) (avps_based s) ∙ first_of_moved base vendor code (avps 0 s)

  pub first_second_based : (keys s : List ℕ) → first_second keys [] (avps base s) ≡ map (move_by base) (first_second keys [] (avps 0 s))
  first_second_based keys s = ap (first_second keys []) (avps_based s) ∙ first_second_moved base keys [] (avps 0 s)

  body_moved : (f : Option Placed) → body_found (map (move_by base) f) ≡ body_found f
  body_moved none = refl
  body_moved (some p) = refl

  -- the data that is found does not depend on where the stretch stands
  pub body_anywhere : (vendor code : ℕ) (s : List ℕ) → body_found (first_of vendor code (avps base s)) ≡ body_found (first_of vendor code (avps 0 s))
  body_anywhere vendor code s = ap body_found (first_of_based vendor code s) ∙ body_moved (first_of vendor code (avps 0 s))
