-- Laws of the tests of whole stretches.
-- Assumes nothing.
use mathlib.Core.Path.{◌≡◌, refl, sym, ap, ◌∙◌}
use mathlib.Core.Bool.{Bool, true, false, ◌&&◌, and_assoc, and-true, false≢true}
use mathlib.Core.List.{List, [], ◌∷◌, ◌++◌}
use Prim.Native.Nat.{ℕ, zero, suc, ◌+◌, ◌≤◌, ◌<◌}
use native.Mathlib.Nat.{le_of_suc-le-suc, not-suc-le-zero}
use native.Mathlib.Numerals.{add-one}
use native.Mathlib.Omega.{arith}
use lib.Dec.{leb, eqb}
use lib.ListN.{length, take, drop, get_or, replicate, length-drop, length-replicate, take-append-drop}
use lib.Seq.{take-suc, length-take-le}
use borrow.Author.Tests.{leb-true, le-leb}
use Rattle.std.specs.List.{fold, zip}
use Rattle.std.proofs.Common.{Decides, rules}
use Rattle.std.proofs.lemmas.Bool.{and_parts, and_from, both_ways, false_from_ne_true}
use Rattle.std.proofs.lemmas.List.Recursion.{and_at, and_from_places}
use Rattle.std.proofs.lemmas.Slice.Eq.{compares_Decides}
use Rattle.wire.specs.Stretch.{same, all_in, between}

-- what a loop gathers, joined as the definitions join it
gathered : (good a b : Bool) → (good && a) && b ≡ good && ((a && b) && true)
gathered true a b = sym (and-true (a && b))
gathered false a b = refl

-- ---- equal stretches

pub same-decides : (a b : List ℕ) → Decides (same a b) (a ≡ b)
unfolding same
same-decides = compares_Decides same (search rules)

pub same_true : (a b : List ℕ) → same a b ≡ true → a ≡ b
same_true a b = (same-decides a b).0

pub same-equal : (a b : List ℕ) → a ≡ b → same a b ≡ true
same-equal a b = (same-decides a b).1

pub same_refl : (a : List ℕ) → same a a ≡ true
same_refl a = same-equal a a refl

pub same_false : (a b : List ℕ) → same a b ≡ false → a ≡ b → ⊥
same_false a b e h = both_ways (same a b) e (same-equal a b h)

pub same_differ : (a b : List ℕ) → (a ≡ b → ⊥) → same a b ≡ false
same_differ a b h = false_from_ne_true (same a b) (λ e. h (same_true a b e))

pub same-append : (a b c d : List ℕ) → length a ≡ length b → same (a ++ c) (b ++ d) ≡ same a b && same c d
unfolding same
same-append [] [] c d e = refl
same-append [] (y ∷ b) c d e = absurd (omega arith)
same-append (x ∷ a) [] c d e = absurd (omega arith)
same-append (x ∷ a) (y ∷ b) c d e =
    ap (λ (t : Bool). eqb x y && t) (same-append a b c d (omega arith)) ∙ sym (and_assoc (eqb x y) (same a b) (same c d))

-- a turn of a loop that gathers
pub same_more : (a b : List ℕ) (j : ℕ) {good : Bool} → j < length a → length a ≡ length b → good ≡ same (take j a) (take j b)
    → good && eqb (get_or a j 0) (get_or b j 0) ≡ same (take (j + 1) a) (take (j + 1) b)
unfolding same
same_more a b j h e g =
    let hb : j < length b = omega arith in
    let na : length (take j a) ≡ j = length-take-le j a (omega arith) in
    let nb : length (take j b) ≡ j = length-take-le j b (omega arith) in
    rw (g, add-one j, take-suc a j 0 h, take-suc b j 0 hb)
    (ap (λ (t : Bool). same (take j a) (take j b) && t) (sym (and-true (eqb (get_or a j 0) (get_or b j 0))))
    ∙ sym (same-append (take j a) (take j b) (get_or a j 0 ∷ []) (get_or b j 0 ∷ []) (na ∙ sym nb)))

-- ---- stretches within one range

pub all_in-at : (low high : ℕ) (s : List ℕ) → all_in low high s ≡ true → (i : ℕ) → i < length s → (low ≤ get_or s i 0) × (get_or s i 0 ≤ high)
unfolding all_in
all_in-at low high s e i h =
    let x = get_or s i 0 in
    let t = and_parts (leb low x) (leb x high) (and_at (all_in low high) (λ y. leb low y && leb y high) refl (λ _ _. refl) s i 0 h e) in
    (leb-true low x t.0, leb-true x high t.1)

pub all_in_intro : (low high : ℕ) (s : List ℕ) → ((i : ℕ) → i < length s → (low ≤ get_or s i 0) × (get_or s i 0 ≤ high)) → all_in low high s ≡ true
unfolding all_in
all_in_intro low high s h =
    and_from_places (all_in low high) (λ y. leb low y && leb y high) refl (λ _ _. refl) s 0 (λ i k. and_from _ _ (le-leb low _ (h i k).0) (le-leb _ high (h i k).1))

pub all_in-append : (low high : ℕ) (xs ys : List ℕ) → all_in low high (xs ++ ys) ≡ all_in low high xs && all_in low high ys
unfolding all_in
all_in-append low high [] ys = refl
all_in-append low high (x ∷ xs) ys =
    ap (λ (t : Bool). (leb low x && leb x high) && t) (all_in-append low high xs ys)
    ∙ sym (and_assoc (leb low x && leb x high) (all_in low high xs) (all_in low high ys))

pub all_in-split : (low high n : ℕ) (s : List ℕ) → all_in low high s ≡ all_in low high (take n s) && all_in low high (drop n s)
all_in-split low high n s = ap (all_in low high) (sym (take-append-drop n s)) ∙ all_in-append low high (take n s) (drop n s)

pub all_in-take : (low high n : ℕ) (s : List ℕ) → all_in low high s ≡ true → all_in low high (take n s) ≡ true
all_in-take low high n s e = (and_parts (all_in low high (take n s)) (all_in low high (drop n s)) (sym (all_in-split low high n s) ∙ e)).0

pub all_in-drop : (low high n : ℕ) (s : List ℕ) → all_in low high s ≡ true → all_in low high (drop n s) ≡ true
all_in-drop low high n s e = (and_parts (all_in low high (take n s)) (all_in low high (drop n s)) (sym (all_in-split low high n s) ∙ e)).1

pub all_in-replicate : (low high n x : ℕ) → low ≤ x → x ≤ high → all_in low high (replicate n x) ≡ true
unfolding all_in
all_in-replicate low high zero x h k = refl
all_in-replicate low high (suc n) x h k = rw (le-leb low x h, le-leb x high k) (all_in-replicate low high n x h k)

-- a range of one byte
pub all_in-one : (x : ℕ) (s : List ℕ) → all_in x x s ≡ true → s ≡ replicate (length s) x
all_in-one x [] e = refl
all_in-one x (y ∷ s) e =
    let b = all_in-at x x (y ∷ s) e 0 (omega arith) in
    let h : y ≡ x = omega arith in
    let t : s ≡ replicate (length s) x = all_in-one x s (all_in-drop x x 1 (y ∷ s) e) in
    ap (λ (z : ℕ). z ∷ s) h ∙ ap (λ (r : List ℕ). x ∷ r) t

-- a turn of a loop that gathers
pub all_in-more : (low high : ℕ) (s : List ℕ) (j : ℕ) {good : Bool} → j < length s → good ≡ all_in low high (take j s)
    → (good && leb low (get_or s j 0)) && leb (get_or s j 0) high ≡ all_in low high (take (j + 1) s)
unfolding all_in
all_in-more low high s j h g =
    let x = get_or s j 0 in
    rw (g, add-one j, take-suc s j 0 h) (gathered (all_in low high (take j s)) (leb low x) (leb x high) ∙ sym (all_in-append low high (take j s) (x ∷ [])))

-- one answer gathered over all bytes
pub all_in-gathered : (low high : ℕ) (good : Bool) (s : List ℕ) → fold (λ t x. (t && leb low x) && leb x high) good s ≡ good && all_in low high s
unfolding all_in
all_in-gathered low high good [] = sym (and-true good)
all_in-gathered low high good (x ∷ s) = all_in-gathered low high ((good && leb low x) && leb x high) s ∙ simp and_assoc

-- ---- stretches between bounds

pub between-at : (low high s : List ℕ) → between low high s ≡ true → (i : ℕ) → i < length s → (get_or low i 0 ≤ get_or s i 0) × (get_or s i 0 ≤ get_or high i 0)
unfolding between
between-at low high [] e i h = absurd (not-suc-le-zero h)
between-at [] high (x ∷ s) e i h = absurd (false≢true e)
between-at (b ∷ low) [] (x ∷ s) e i h = absurd (false≢true e)
between-at (b ∷ low) (t ∷ high) (x ∷ s) e zero h =
    let w = (and_parts (leb b x && leb x t) (between low high s) e).0 in
    (leb-true b x (and_parts (leb b x) (leb x t) w).0, leb-true x t (and_parts (leb b x) (leb x t) w).1)
between-at (b ∷ low) (t ∷ high) (x ∷ s) e (suc i) h = between-at low high s (and_parts (leb b x && leb x t) (between low high s) e).1 i (le_of_suc-le-suc h)

pub between-append : (low low' high high' s s' : List ℕ) → length s ≡ length low → length s ≡ length high
    → between (low ++ low') (high ++ high') (s ++ s') ≡ between low high s && between low' high' s'
unfolding between
between-append [] low' [] high' [] s' e f = refl
between-append (l ∷ low) low' high high' [] s' e f = absurd (omega arith)
between-append [] low' (h ∷ high) high' [] s' e f = absurd (omega arith)
between-append [] low' high high' (x ∷ s) s' e f = absurd (omega arith)
between-append (l ∷ low) low' [] high' (x ∷ s) s' e f = absurd (omega arith)
between-append (l ∷ low) low' (h ∷ high) high' (x ∷ s) s' e f =
    ap (λ (t : Bool). (leb l x && leb x h) && t) (between-append low low' high high' s s' (omega arith) (omega arith))
    ∙ sym (and_assoc (leb l x && leb x h) (between low high s) (between low' high' s'))

-- the same bounds beside each byte are one range
pub between-replicate : (low high n : ℕ) (s : List ℕ) → length s ≡ n → between (replicate n low) (replicate n high) s ≡ all_in low high s
unfolding between all_in
between-replicate low high zero [] e = refl
between-replicate low high zero (x ∷ s) e = absurd (omega arith)
between-replicate low high (suc n) [] e = absurd (omega arith)
between-replicate low high (suc n) (x ∷ s) e = ap (λ (t : Bool). (leb low x && leb x high) && t) (between-replicate low high n s (omega arith))

-- one range in front and another behind, as a field's name and the zeros that fill it up
pub between_two : (low high low' high' m n : ℕ) (s : List ℕ) → length s ≡ m + n
    → between (replicate m low ++ replicate n low') (replicate m high ++ replicate n high') s ≡ all_in low high (take m s) && all_in low' high' (drop m s)
between_two low high low' high' m n s e =
    let nf : length (take m s) ≡ m = length-take-le m s (omega arith) in
    let nb : length (drop m s) ≡ n = simp length-drop (omega arith) in
    ap (between (replicate m low ++ replicate n low') (replicate m high ++ replicate n high')) (sym (take-append-drop m s))
    ∙ between-append (replicate m low) _ (replicate m high) _ (take m s) (drop m s) (nf ∙ sym (length-replicate m low)) (nf ∙ sym (length-replicate m high))
    ∙ ap (λ (t : Bool). t && between (replicate n low') (replicate n high') (drop m s)) (between-replicate low high m (take m s) nf)
    ∙ ap (λ (t : Bool). all_in low high (take m s) && t) (between-replicate low' high' n (drop m s) nb)

-- a turn of a loop that gathers
pub between_more : (low high s : List ℕ) (j : ℕ) {good : Bool} → j < length s → length s ≡ length low → length s ≡ length high
    → good ≡ between (take j low) (take j high) (take j s)
    → (good && leb (get_or low j 0) (get_or s j 0)) && leb (get_or s j 0) (get_or high j 0) ≡ between (take (j + 1) low) (take (j + 1) high) (take (j + 1) s)
unfolding between
between_more low high s j h e f g =
    let x = get_or s j 0 in
    let l = get_or low j 0 in
    let u = get_or high j 0 in
    let hl : j < length low = omega arith in
    let hh : j < length high = omega arith in
    let ns : length (take j s) ≡ j = length-take-le j s (omega arith) in
    let nl : length (take j low) ≡ j = length-take-le j low (omega arith) in
    let nh : length (take j high) ≡ j = length-take-le j high (omega arith) in
    rw (g, add-one j, take-suc s j 0 h, take-suc low j 0 hl, take-suc high j 0 hh)
    (gathered (between (take j low) (take j high) (take j s)) (leb l x) (leb x u)
    ∙ sym (between-append (take j low) (l ∷ []) (take j high) (u ∷ []) (take j s) (x ∷ []) (ns ∙ sym nl) (ns ∙ sym nh)))

-- one answer gathered over all bytes and their bounds
pub between-gathered : (low high : List ℕ) (good : Bool) (s : List ℕ) → length s ≡ length low → length s ≡ length high
    → fold (λ t p. (t && leb p.0.1 p.0.0) && leb p.0.0 p.1) good (zip (zip s low) high) ≡ good && between low high s
unfolding between
between-gathered [] [] good [] e f = sym (and-true good)
between-gathered (l ∷ low) high good [] e f = absurd (omega arith)
between-gathered [] (h ∷ high) good [] e f = absurd (omega arith)
between-gathered [] high good (x ∷ s) e f = absurd (omega arith)
between-gathered (l ∷ low) [] good (x ∷ s) e f = absurd (omega arith)
between-gathered (l ∷ low) (h ∷ high) good (x ∷ s) e f =
    between-gathered low high ((good && leb l x) && leb x h) s (omega arith) (omega arith) ∙ simp and_assoc
