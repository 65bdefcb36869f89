-- `with_bit` meets its contract: a bit that is clear is added.
-- Assumes nothing.
use borrow.Author.Tests.{eq-eqb, ne_eqb}
use Rattle.paper.specs.Fields.{with_bit}
use Rattle.table.proofs.BitLaws.{shifted}
use Rattle.table.proofs.record.with_bit.Goals as goal

pub returns-then-b-k-eq1 : goal.returns-then-b-k-eq1
unfolding with_bit
returns-then-b-k-eq1 c = rw (eq-eqb _ _ c.if-b-k-eq1.true)

pub returns-else-b-k-eq1 : goal.returns-else-b-k-eq1
unfolding with_bit
returns-else-b-k-eq1 c = rw (ne_eqb _ _ c.if-b-k-eq1.false, shifted c.args.k c.requires.0)
