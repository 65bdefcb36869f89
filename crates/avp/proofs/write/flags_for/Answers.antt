-- `avp::write::flags_for` meets its contract. Assumes nothing.
use borrow.Author.Tests.{eq-eqb, ne_eqb}
use Rattle.paper.specs.Avp.{flags_for}
use Rattle.avp.proofs.write.flags_for.Goals as goal

pub returns-then-mandatory : goal.returns-then-mandatory
unfolding flags_for
returns-then-mandatory c = rw (eq-eqb _ 0 c.if-vendor-eq0.true, c.if-mandatory.true)

pub returns-else-mandatory : goal.returns-else-mandatory
unfolding flags_for
returns-else-mandatory c = rw (eq-eqb _ 0 c.if-vendor-eq0.true, c.if-mandatory.false)

pub returns-then-mandatory-2 : goal.returns-then-mandatory-2
unfolding flags_for
returns-then-mandatory-2 c = rw (ne_eqb _ 0 c.if-vendor-eq0.false, c.if-mandatory-2.true)

pub returns-else-mandatory-2 : goal.returns-else-mandatory-2
unfolding flags_for
returns-else-mandatory-2 c = rw (ne_eqb _ 0 c.if-vendor-eq0.false, c.if-mandatory-2.false)
