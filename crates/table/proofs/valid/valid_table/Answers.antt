-- `valid_table` meets its contract: the header, then all records.
-- Assumes nothing.
use Rattle.std.proofs.Common.{refl}
use Rattle.paper.specs.Table.{valid}
use Rattle.table.proofs.RecordLaws.{not_asked}
use Rattle.table.proofs.valid.valid_table.Goals as goal

pub returns-else-right_header : goal.returns-else-right_header
unfolding valid
returns-else-right_header c = not_asked _ c.right_header.ensures c.if-right_header.false refl
