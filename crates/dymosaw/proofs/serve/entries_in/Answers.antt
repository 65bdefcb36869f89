-- `entries_in` meets its contract: the two entries counted.
-- Assumes nothing.
use Rattle.dymosaw.proofs.CountLaws.{few_added, entries_added}
use Rattle.std.proofs.Common.{arith}
use Rattle.dymosaw.proofs.serve.entries_in.Goals as goal

pub overflow_add-result : goal.overflow_add-result
overflow_add-result c = omega (arith, few_added _ 0 68 c.entry_at.ensures c.entry_at-2.ensures)

pub returns : goal.returns
returns c = entries_added _ c.entry_at.ensures c.entry_at-2.ensures
