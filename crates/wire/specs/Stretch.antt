-- Tests of whole stretches of bytes: equal, within one range, within bounds that stand beside each byte.
-- Assumes nothing.
use Rattle.std.specs.Prelude.{Bool, true, false, ◌&&◌, List, [], ◌∷◌, ℕ, leb, eqb}

-- the two are equal, length and bytes
unfoldable pub same : List ℕ → List ℕ → Bool
same [] [] = true
same [] (y ∷ ys) = false
same (x ∷ xs) [] = false
same (x ∷ xs) (y ∷ ys) = eqb x y && same xs ys

-- `all_in low high s`: every byte of `s` is at least `low` and at most `high`
unfoldable pub all_in : ℕ → ℕ → List ℕ → Bool
all_in low high [] = true
all_in low high (x ∷ xs) = (leb low x && leb x high) && all_in low high xs

-- `between low high s`: every byte of `s` lies between the two bounds that stand at its place; a byte without bounds does not
unfoldable pub between : List ℕ → List ℕ → List ℕ → Bool
between low high [] = true
between (l ∷ low) (h ∷ high) (x ∷ s) = (leb l x && leb x h) && between low high s
between [] high (x ∷ s) = false
between (l ∷ low) [] (x ∷ s) = false

-- every byte may stand in a name: printable ASCII without the space
abbrev pub name_bytes : List ℕ → Bool
name_bytes = all_in 0x21 0x7E

-- every byte is a decimal digit of ASCII
abbrev pub digits : List ℕ → Bool
digits = all_in 48 57

-- every byte is 0
abbrev pub zeros : List ℕ → Bool
zeros = all_in 0 0
