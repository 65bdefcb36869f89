-- Bits 0 and 1 of a byte: what a shift by their number comes to.
-- Assumes nothing.
use mathlib.Core.Path.{◌≡◌, refl}
use Prim.Native.Nat.{ℕ, zero, suc, ◌*◌, ◌/◌, ◌%◌, ◌^◌, ◌≤◌, ◌<◌}
use native.Mathlib.Omega.{arith}

below_two : (P : ℕ → Type 0) → P 0 → P 1 → (k : ℕ) → k < 2 → P k
below_two P p₀ p₁ zero h = p₀
below_two P p₀ p₁ (suc zero) h = p₁
below_two P p₀ p₁ (suc (suc k)) h = absurd (omega arith)

-- 1 shifted in a byte loses nothing
pub shifted : (k : ℕ) → k < 2 → 1 * 2 ^ k % 256 ≡ 2 ^ k
shifted zero h = refl
shifted (suc zero) h = refl
shifted (suc (suc k)) h = absurd (omega arith)

pub bit_small : (k : ℕ) → k < 2 → 2 ^ k ≤ 2
bit_small = below_two (λ k. 2 ^ k ≤ 2) (omega arith) (omega arith)

-- a byte with a bit is at least that bit
pub bit_held : (b k : ℕ) → k < 2 → b / 2 ^ k % 2 ≡ 1 → 2 ^ k ≤ b
bit_held b = below_two (λ k. b / 2 ^ k % 2 ≡ 1 → 2 ^ k ≤ b) (λ e. omega arith) (λ e. omega arith)
