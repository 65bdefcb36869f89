-- `store_bytes` meets its contract: one put at the place of the record.
-- Assumes nothing.
use Rattle.std.proofs.Common.{refl}
use Rattle.paper.specs.Table.{store}
use Rattle.table.proofs.record.store_bytes.Goals as goal

pub returns : goal.returns
unfolding store
returns c = rw (c.put_bytes.ensures.made, c.record_at-start.ensures) refl
