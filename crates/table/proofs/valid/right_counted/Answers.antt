-- `right_counted` meets its contract: the count, then the filled field.
-- Assumes nothing.
use borrow.Author.Tests.{le-leb, lt-leb}
use Rattle.std.proofs.Common.{refl}
use Rattle.paper.specs.Table.{counted}
use Rattle.table.proofs.valid.right_counted.Goals as goal

pub returns-then-n-most : goal.returns-then-n-most
unfolding counted
returns-then-n-most c = rw (le-leb _ _ c.if-n-most.true) c.filled_part.ensures

pub returns-else-n-most : goal.returns-else-n-most
unfolding counted
returns-else-n-most c = rw (lt-leb _ _ c.if-n-most.false) refl
