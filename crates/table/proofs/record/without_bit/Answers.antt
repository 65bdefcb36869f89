-- `without_bit` meets its contract: a bit that is set is taken off.
-- Assumes nothing.
use borrow.Author.Tests.{eq-eqb, ne_eqb}
use Rattle.paper.specs.Fields.{without_bit}
use Rattle.table.proofs.BitLaws.{shifted}
use Rattle.table.proofs.record.without_bit.Goals as goal

pub returns-then-b-k-eq1 : goal.returns-then-b-k-eq1
unfolding without_bit
returns-then-b-k-eq1 c = rw (eq-eqb _ _ c.if-b-k-eq1.true, shifted c.args.k c.requires.0)

pub returns-else-b-k-eq1 : goal.returns-else-b-k-eq1
unfolding without_bit
returns-else-b-k-eq1 c = rw (ne_eqb _ _ c.if-b-k-eq1.false)
