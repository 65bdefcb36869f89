-- Laws of a number with one bit flipped: that bit is the other, and each other bit is as it was.
-- Assumes nothing.
use mathlib.Core.Path.{◌≡◌, refl, sym, ◌∙◌}
use mathlib.Core.Logic.{◌≢◌}
use mathlib.Core.Bool.{Bool, true, false, cond}
use Prim.Native.Nat.{ℕ, suc, ◌+◌, ◌-◌, ◌*◌, ◌/◌, ◌%◌, ◌^◌, ◌≤◌, ◌<◌}
use native.Mathlib.Nat.{one-le-pow, pow-suc, div-div-eq-div-mul, div-eq-sub-div, add-div_right, add-mul-div_left, le-div_iff_mul-le, div-lt_iff_lt-mul}
use native.Mathlib.Omega.{arith}
use lib.Dec.{ltb, lit<}
use lib.Pow.{pow-add}
use borrow.Author.Tests.{ltb-true, ltb-false, eqb-true, eqb-false}
use Rattle.paper.specs.Avp.{bit, has_v, has_m}
use Rattle.paper.specs.Widened.{flipped}

pos : (k : ℕ) → 0 < 2 ^ k
pos k = one-le-pow k 2 (lit< tt)

-- the number from bit `k` up is odd where the bit is set, and even where it is clear
set_odd : (k n : ℕ) → bit k n ≡ true → n / 2 ^ k % 2 ≡ 1
set_odd k n e = eqb-true (n / 2 ^ k % 2) 1 e

clear-even : (k n : ℕ) → bit k n ≡ false → n / 2 ^ k % 2 ≡ 0
clear-even k n e = let h = eqb-false (n / 2 ^ k % 2) 1 e in omega arith

-- one less, where the bit is set, and one more, where it is clear
down : (k n : ℕ) → bit k n ≡ true → n / 2 ^ k ≡ (n - 2 ^ k) / 2 ^ k + 1
down k n e =
    let o = set_odd k n e in
    let q : 1 ≤ n / 2 ^ k = omega arith in
    let l = (le-div_iff_mul-le (pos k)).0 q in
    div-eq-sub-div (pos k) (omega arith)

up : (k n : ℕ) → (n + 2 ^ k) / 2 ^ k ≡ n / 2 ^ k + 1
up k n = add-div_right n (pos k)

flipped-cases : (P : ℕ → Type 0) (k n : ℕ) → (bit k n ≡ true → P (n - 2 ^ k)) → (bit k n ≡ false → P (n + 2 ^ k)) → P (flipped k n)
unfolding flipped
flipped-cases P k n f g = go (bit k n) f g
  where
    go : (b : Bool) → (b ≡ true → P (n - 2 ^ k)) → (b ≡ false → P (n + 2 ^ k)) → P (cond b (n - 2 ^ k) (n + 2 ^ k))
    go true f g = f refl
    go false f g = g refl

half_kept : (k n : ℕ) → flipped k n / 2 ^ k / 2 ≡ n / 2 ^ k / 2
half_kept k n =
    flipped-cases (λ m. m / 2 ^ k / 2 ≡ n / 2 ^ k / 2) k n
    (λ e. let o = set_odd k n e in let d = down k n e in omega arith)
    (λ e. let o = clear-even k n e in let d = up k n in omega arith)

above : (k i n : ℕ) → n / 2 ^ (suc k + i) ≡ n / 2 ^ k / 2 / 2 ^ i
above k i n = rw (pow-add 2 (suc k) i, pow-suc 2 k, div-div-eq-div-mul n (2 ^ k) 2, div-div-eq-div-mul n (2 ^ k * 2) (2 ^ i))

pub flip_above : (k i n : ℕ) → bit (suc k + i) (flipped k n) ≡ bit (suc k + i) n
flip_above k i n = rw (above k i (flipped k n), above k i n, half_kept k n)

pub has_m-flipped : (k n : ℕ) → k < 6 → has_m (flipped k n) ≡ has_m n
has_m-flipped k n h = let e : suc k + (5 - k) ≡ 6 = omega arith in rw e at (flip_above k (5 - k) n)

pub has_v-flipped : (k n : ℕ) → k < 7 → has_v (flipped k n) ≡ has_v n
has_v-flipped k n h = let e : suc k + (6 - k) ≡ 7 = omega arith in rw e at (flip_above k (6 - k) n)

-- ---- the other bits

add_above : (j d n : ℕ) → (n + 2 ^ (j + suc d)) / 2 ^ j % 2 ≡ n / 2 ^ j % 2
add_above j d n = rw (pow-add 2 j (suc d), add-mul-div_left n (2 ^ suc d) (pos j), pow-suc 2 d) (omega arith)

least-set : (k n : ℕ) → bit k n ≡ true → 2 ^ k ≤ n
least-set k n e =
    let o = set_odd k n e in
    let q : 1 ≤ n / 2 ^ k = omega arith in
    let l = (le-div_iff_mul-le (pos k)).0 q in
    omega arith

flip_below : (j d n : ℕ) → bit j (flipped (j + suc d) n) ≡ bit j n
flip_below j d n =
    flipped-cases (λ m. bit j m ≡ bit j n) (j + suc d) n
    (λ e. let l = least-set (j + suc d) n e in let q : n - 2 ^ (j + suc d) + 2 ^ (j + suc d) ≡ n = omega arith in let a = rw q at (add_above j d (n - 2 ^ (j + suc d))) in rw (sym a))
    (λ e. rw (add_above j d n))

pub flip_other : (j k n : ℕ) → j ≢ k → bit j (flipped k n) ≡ bit j n
flip_other j k n h = go (ltb j k) refl
  where
    go : (b : Bool) → ltb j k ≡ b → bit j (flipped k n) ≡ bit j n
    go true e = let l = ltb-true j k e in let q : j + suc (k - j - 1) ≡ k = omega arith in rw q at (flip_below j (k - j - 1) n)
    go false e = let l = ltb-false j k e in let q : suc k + (j - k - 1) ≡ j = omega arith in rw q at (flip_above k (j - k - 1) n)

-- a number below a power of 2 stays below it
less_kept : (k d w : ℕ) → w < 2 ^ (d + suc k) → flipped k w < 2 ^ (d + suc k)
less_kept k d w l =
    let e : 2 ^ (d + suc k) ≡ 2 ^ d * (2 ^ k * 2) = rw (pow-add 2 d (suc k), pow-suc 2 k) in
    let p : 0 < 2 ^ k * 2 = let z = pos k in omega arith in
    let q : flipped k w / (2 ^ k * 2) ≡ w / (2 ^ k * 2) = sym (div-div-eq-div-mul (flipped k w) (2 ^ k) 2) ∙ half_kept k w ∙ div-div-eq-div-mul w (2 ^ k) 2 in
    rw e ((div-lt_iff_lt-mul p).0 (rw q ((div-lt_iff_lt-mul p).1 (rw e at l))))

pub flipped_less : (k n w : ℕ) → k < n → w < 2 ^ n → flipped k w < 2 ^ n
flipped_less k n w h l =
    let e : n - suc k + suc k ≡ n = omega arith in
    rw e at (less_kept k (n - suc k) w (rw e l))
