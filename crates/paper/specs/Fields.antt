-- What 01 stores in the fields of a record: a name or an IMEI with its count, a purge bit.
-- Assumes nothing.
use Rattle.std.specs.Prelude.{cond, List, [], ◌∷◌, ◌++◌, ℕ, ◌+◌, ◌-◌, ◌/◌, ◌%◌, ◌^◌, length, get_or, replicate, eqb}
use Rattle.paper.specs.Layout.{purged_at, most_name, imei_at, most_digits}
use Rattle.paper.specs.Table.{record_of, store}

-- a field of a count and as many bytes, `most` at most; "unused ends of fields are zero"
unfoldable pub filled : ℕ → List ℕ → List ℕ
filled most xs = length xs ∷ (xs ++ replicate (most - length xs) 0)

-- the byte `b` with its bit `k` set, and with it cleared
unfoldable pub with_bit : ℕ → ℕ → ℕ
with_bit k b = cond (eqb (b / 2 ^ k % 2) 1) b (b + 2 ^ k)

unfoldable pub without_bit : ℕ → ℕ → ℕ
without_bit k b = cond (eqb (b / 2 ^ k % 2) 1) (b - 2 ^ k) b

-- the byte of the purge bits of record `i`
abbrev pub purged_of : List ℕ → ℕ → ℕ
purged_of t i = get_or (record_of t i) purged_at 0

-- "the name becomes Origin-Host; its purge bit is cleared", of the node whose name stands at `at` and whose purge bit is `bit`;
-- with no bytes for a name: "name and purge bit are cleared"
unfoldable pub store_node : ℕ → ℕ → ℕ → List ℕ → List ℕ → List ℕ
store_node at bit i name t = store i at (filled most_name name) (store i purged_at (without_bit bit (purged_of t i) ∷ []) t)

-- "gets its purge bit"
unfoldable pub store_purged : ℕ → ℕ → List ℕ → List ℕ
store_purged bit i t = store i purged_at (with_bit bit (purged_of t i) ∷ []) t

-- "IMEI, if there, is stored."
unfoldable pub store_imei : ℕ → List ℕ → List ℕ → List ℕ
store_imei i imei t = store i imei_at (filled most_digits imei) t
