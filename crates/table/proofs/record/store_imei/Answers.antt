-- `store_imei` meets its contract: the filled field of the IMEI.
-- Assumes nothing.
use Rattle.paper.specs.Fields.{store_imei}
use Rattle.table.proofs.record.store_imei.Goals as goal

pub returns : goal.returns
unfolding store_imei
returns c = c.store_counted.ensures
