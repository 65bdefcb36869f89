-- Numbers as bytes, the most significant first, at any width; and the number that stands at a place of a stretch.
-- Assumes nothing.
use Rattle.std.specs.Prelude.{List, [], ◌∷◌, ℕ, zero, suc, ◌+◌, ◌*◌, ◌/◌, ◌%◌, ◌^◌, ◌<◌, length, get_or}

-- the last `n` base-256 digits of `v`, the most significant first
abbrev pub be : ℕ → ℕ → List ℕ
be zero v = []
be (suc n) v = (v / 256 ^ n % 256) ∷ be n v

-- the number that bytes are, the most significant first
abbrev pub num : List ℕ → ℕ
num [] = 0
num (x ∷ xs) = x * 256 ^ length xs + num xs

-- `num_at width s at`: the number that `width` bytes of `s` from place `at` are; a byte past the end of `s` reads as 0
unfoldable pub num_at : ℕ → List ℕ → ℕ → ℕ
num_at zero s at = 0
num_at (suc n) s at = get_or s at 0 * 256 ^ n + num_at n s (suc at)

-- every element is a byte
abbrev pub Bytes : List ℕ → Type 0
Bytes s = (i : ℕ) → get_or s i 0 < 256
