-- `count_of` meets its contract: its two bytes are `count_of`.
-- Assumes nothing.
use Rattle.paper.specs.Table.{count_of}
use Rattle.table.proofs.lookup.count_of.Goals as goal

pub returns : goal.returns
unfolding count_of
returns c = c.get.ensures.value
