-- `right_imsi` meets its contract: the least count, then the counted field.
-- Assumes nothing.
use borrow.Author.Tests.{le-leb, lt-leb}
use Rattle.std.proofs.Common.{refl}
use Rattle.paper.specs.Table.{counted, imsi_right}
use Rattle.table.proofs.valid.right_imsi.Goals as goal

pub returns-then-r-ge-LEAST_IMSI : goal.returns-then-r-ge-LEAST_IMSI
unfolding imsi_right counted
returns-then-r-ge-LEAST_IMSI c = rw (le-leb 6 _ c.if-r-ge-LEAST_IMSI.true) c.right_counted.ensures

pub returns-else-r-ge-LEAST_IMSI : goal.returns-else-r-ge-LEAST_IMSI
unfolding imsi_right counted
returns-else-r-ge-LEAST_IMSI c = rw (lt-leb 6 _ c.if-r-ge-LEAST_IMSI.false) refl
