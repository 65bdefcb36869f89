-- Bounds for the bytes of a field that is filled from its start: `n` bytes within a range, and zeros behind them.
-- One list serves every field and every n: the window that starts `n` before its middle.
-- Assumes nothing.
use Rattle.std.specs.Prelude.{List, [], ◌∷◌, ◌++◌, ℕ, replicate, get_or}

-- the longest field, and as many zeros
abbrev pub half : ℕ
half = 64

unfoldable pub bound : ℕ → List ℕ
bound v = replicate half v ++ replicate half 0

-- the same, its halves one by one
abbrev pub halves : ℕ → List (List ℕ)
halves v = replicate half v ∷ (replicate half 0 ∷ [])

abbrev pub first_of : List (List ℕ) → ℕ
first_of b = get_or (get_or b 0 []) 0 0
