-- A rule of a table, proved at all of its entries by one test that antt computes.
-- Assumes nothing.
use mathlib.Core.Path.{◌≡◌, ◌∙◌, ap, sym}
use mathlib.Core.Bool.{Bool, true}
use mathlib.Core.List.{List, [], ◌∷◌}
use Prim.Native.Nat.{ℕ, zero, suc, ◌+◌, ◌<◌}
use native.Mathlib.Nat.{add-zero, zero-add, add-suc, suc-add, le_of_suc-le-suc, not-suc-le-zero}
use lib.ListN.{length, get_or}
use Rattle.std.proofs.lemmas.Bool.{and_parts}
use Rattle.wire.specs.Table.{every}

module _ {A : Type 0} (d : A) (f : ℕ → A → Bool) where
  at-each_from : (i : ℕ) (xs : List A) → every f i xs ≡ true → (k : ℕ) → k < length xs → f (i + k) (get_or xs k d) ≡ true
  at-each_from i [] e k h = absurd (not-suc-le-zero h)
  at-each_from i (x ∷ xs) e zero h = rw add-zero (and_parts (f i x) (every f (suc i) xs) e).0
  at-each_from i (x ∷ xs) e (suc k) h =
      ap (λ (m : ℕ). f m (get_or xs k d)) (add-suc i k ∙ sym (suc-add i k))
      ∙ at-each_from (suc i) xs (and_parts (f i x) (every f (suc i) xs) e).1 k (le_of_suc-le-suc h)

  -- a test that passes over a whole table passes at each entry
  pub at_each : (xs : List A) → every f 0 xs ≡ true → (k : ℕ) → k < length xs → f k (get_or xs k d) ≡ true
  at_each xs e k h = ap (λ (m : ℕ). f m (get_or xs k d)) (sym (zero-add k)) ∙ at-each_from 0 xs e k h
