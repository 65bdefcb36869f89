-- `store_byte` meets its contract: a store is a put of one byte.
-- Assumes nothing.
use Rattle.std.proofs.Common.{rules}
use Rattle.wire.proofs.PutLaws.{put_one}
use Rattle.paper.specs.Table.{store}
use Rattle.table.proofs.record.store_byte.Goals as goal

pub returns : goal.returns
unfolding store
returns c = rw c.record_at-start.ensures (put_one _ c.args.b c.args.t.now (search rules))
