-- Bytes of one length are ordered as the numbers that they are: the first place at which they differ decides.
-- Assumes nothing.
use mathlib.Core.Path.{◌≡◌, refl}
use mathlib.Core.Bool.{Bool, true, false}
use mathlib.Core.List.{List, [], ◌∷◌}
use Prim.Native.Nat.{ℕ, zero, suc, ◌+◌, ◌*◌, ◌^◌, ◌≤◌, ◌<◌}
use native.Mathlib.Nat.{mul-le-mul_right}
use native.Mathlib.Omega.{arith}
use lib.Dec.{ltb}
use lib.ListN.{length, get_or}
use borrow.Author.Tests.{ltb-true, ltb-false}
use Rattle.wire.specs.Number.{num, Bytes}
use Rattle.wire.proofs.NumberLaws.{num-lt}
use Rattle.paper.specs.TableSaid.{Before}

-- a smaller first byte, and any bytes behind it
first-smaller : (x y p m n : ℕ) → x < y → m < p → x * p + m < y * p + n
first-smaller x y p m n h k = let s : suc x * p ≤ y * p = mul-le-mul_right p h in omega (arith, s)

same_first : (x p m n : ℕ) → m < n → x * p + m < x * p + n
same_first x p m n h = omega arith

pub before-number : (a b : List ℕ) (k : ℕ) → length a ≡ length b → Bytes a → k < length a → ((j : ℕ) → j < k → get_or a j 0 ≡ get_or b j 0) → get_or a k 0 < get_or b k 0 → num a < num b
before-number [] b k e ba i q s = absurd (omega arith)
before-number (x ∷ a) [] k e ba i q s = absurd (omega arith)
before-number (x ∷ a) (y ∷ b) zero e ba i q s =
    let n : length a ≡ length b = omega arith in
    let small = num-lt a (λ j. ba (suc j)) in
    rw (← n) (first-smaller x y (256 ^ length a) (num a) (num b) s small)
before-number (x ∷ a) (y ∷ b) (suc k) e ba i q s =
    let n : length a ≡ length b = omega arith in
    let first : x ≡ y = q 0 (omega arith) in
    let rest = before-number a b k n (λ j. ba (suc j)) (omega arith) (λ j h. q (suc j) (omega arith)) s in
    rw (← n, ← first) (same_first x (256 ^ length a) (num a) (num b) rest)

pub number-before : (a b : List ℕ) → length a ≡ length b → Bytes a → Bytes b → num a < num b → Before (length a) a b
number-before [] [] e ba bb h = absurd (omega arith)
number-before [] (y ∷ b) e ba bb h = absurd (omega arith)
number-before (x ∷ a) [] e ba bb h = absurd (omega arith)
number-before (x ∷ a) (y ∷ b) e ba bb h = go (number-before a b n (λ j. ba (suc j)) (λ j. bb (suc j))) (ltb x y) refl (ltb y x) refl
  where
    n : length a ≡ length b
    n = omega arith

    lesser : x * 256 ^ length b + num a < y * 256 ^ length b + num b
    lesser = rw n at h

    -- the same first byte before both
    later : x ≡ y → Before (length a) a b → Before (suc (length a)) (x ∷ a) (y ∷ b)
    later f m = record { place = suc m.place; inside = let i = m.inside in omega arith; equal = agree; smaller = m.smaller }
      where
        agree : (j : ℕ) → j < suc m.place → get_or (x ∷ a) j 0 ≡ get_or (y ∷ b) j 0
        agree zero k = f
        agree (suc j) k = m.equal j (omega arith)

    go : (num a < num b → Before (length a) a b) → (c : Bool) → ltb x y ≡ c → (d : Bool) → ltb y x ≡ d → Before (suc (length a)) (x ∷ a) (y ∷ b)
    go more true p d q = record { place = 0; inside = omega arith; equal = λ j k. absurd (omega arith); smaller = ltb-true x y p }
    go more false p true q =
        let back = first-smaller y x (256 ^ length b) (num b) (num a) (ltb-true y x q) (num-lt b (λ j. bb (suc j))) in
        let l = lesser in
        absurd (omega arith)
    go more false p false q =
        let u = ltb-false x y p in
        let w = ltb-false y x q in
        let f : x ≡ y = omega arith in
        let l : y * 256 ^ length b + num a < y * 256 ^ length b + num b = rw f at lesser in
        later f (more (omega arith))
