-- `key_less` meets its contract: two words in order are one number in order.
-- Assumes nothing.
use native.Mathlib.Omega.{arith}
use Rattle.table.specs.Found.{key_num}
use Rattle.table.proofs.KeyLaws.{less_low, less_high}
use Rattle.table.proofs.lookup.key_less.Goals as goal

pub returns-then-a-b : goal.returns-then-a-b
unfolding key_num
returns-then-a-b c = less_low _ _ _ _ c.if-a-b.true

pub returns-else-a-b : goal.returns-else-a-b
unfolding key_num
returns-else-a-b c = less_high _ _ _ _ c.if-a-b.false (omega arith) (omega arith)
