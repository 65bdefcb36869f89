-- A part of a list, a list with other elements at a place, and the one contract of every writer.
-- Assumes nothing.
use Rattle.std.specs.Prelude.{◌≡◌, List, ◌++◌, ℕ, ◌+◌, length, take, drop}

-- the `n` elements of `s` from place `at`, or as many as there are
abbrev pub part : ℕ → ℕ → List ℕ → List ℕ
part at n s = take n (drop at s)

-- `l` with `xs` instead of as many elements from place `at`
unfoldable pub put : ℕ → List ℕ → List ℕ → List ℕ
put at xs l = take at l ++ (xs ++ drop (at + length xs) l)

-- a writer put `xs` at `at` into `l`, which made it `l'`, and answers the place after them
pub record Wrote (l : List ℕ) (at : ℕ) (xs l' : List ℕ) (r : ℕ) : Type 0 where
  pub next : r ≡ at + length xs
  pub made : l' ≡ put at xs l
