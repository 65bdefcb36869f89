-- Parts of the table as the code lends them, from a start to an end.
-- Assumes nothing.
use mathlib.Core.Path.{◌≡◌, sym, ap, ◌∙◌}
use mathlib.Core.List.{List}
use Prim.Native.Nat.{ℕ, ◌+◌, ◌-◌, ◌≤◌}
use native.Mathlib.Omega.{arith}
use lib.ListN.{take, drop}
use Rattle.wire.specs.Put.{part}
use Rattle.paper.specs.Layout.{record_size}
use Rattle.paper.specs.Table.{record_at, record_of}
use Rattle.paper.proofs.TableLaws.{part_of_record}

-- a part lent by its start and its end
pub lent : (from n : ℕ) (s : List ℕ) → take (from + n - from) (drop from s) ≡ part from n s
lent from n s = let e : from + n - from ≡ n = omega arith in rw e

-- a part of record `i`, lent off the table
pub lent-part : (t : List ℕ) (start i at n : ℕ) → start ≡ record_at i → at + n ≤ record_size
    → take (start + at + n - (start + at)) (drop (start + at) t) ≡ part at n (record_of t i)
lent-part t start i at n e h = lent (start + at) n t ∙ ap (λ (k : ℕ). part (k + at) n t) e ∙ sym (part_of_record t i at n h)

-- record `i`, lent off the table
pub record_lent : (t : List ℕ) (from i : ℕ) → from ≡ record_at i → take (from + record_size - from) (drop from t) ≡ record_of t i
unfolding record_of
record_lent t from i e = lent from record_size t ∙ ap (λ (k : ℕ). part k record_size t) e
