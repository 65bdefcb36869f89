-- `store_purged` meets its contract: one byte stored.
-- Assumes nothing.
use Rattle.std.proofs.Common.{refl}
use Rattle.paper.specs.Fields.{store_purged}
use Rattle.table.proofs.record.store_purged.Goals as goal

pub returns : goal.returns
unfolding store_purged
returns c = rw (c.store_byte.ensures, c.with_bit-b.ensures, c.purged.ensures, c.at.ensures) refl
