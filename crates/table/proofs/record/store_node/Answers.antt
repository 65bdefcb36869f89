-- `store_node` meets its contract: the purge bits first, then the filled field of the name.
-- Assumes nothing.
use Rattle.std.proofs.Common.{refl}
use Rattle.paper.specs.Fields.{store_node}
use Rattle.table.proofs.record.store_node.Goals as goal

pub returns : goal.returns
unfolding store_node
returns c = rw (c.store_counted.ensures, c.store_byte.ensures, c.without_bit-b.ensures, c.purged.ensures, c.at.ensures) refl
