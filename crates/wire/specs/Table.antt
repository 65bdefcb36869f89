-- One test over a whole table, which antt computes.
-- Assumes nothing.
use Rattle.std.specs.Prelude.{Bool, true, ◌&&◌, List, [], ◌∷◌, ℕ, suc}

-- `every f i xs`: the test `f` passes at each entry of the table and its place, counted from `i`
abbrev pub every : {A : Type 0} → (ℕ → A → Bool) → ℕ → List A → Bool
every f i [] = true
every f i (x ∷ xs) = f i x && every f (suc i) xs
