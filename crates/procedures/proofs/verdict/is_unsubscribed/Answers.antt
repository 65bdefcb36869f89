-- `procedures::verdict::is_unsubscribed` meets its contract. Bits 0 and 1 of the subscription.
-- Assumes nothing.
use Rattle.paper.specs.Procedures.{unsubscribed}
use Rattle.procedures.proofs.verdict.is_unsubscribed.Goals as goal

pub returns-then-on_s6a : goal.returns-then-on_s6a
unfolding unsubscribed
returns-then-on_s6a c = rw (c.if-on_s6a.true, c.bit_of-eps.ensures, c.subscription-subscription.ensures)

pub returns-else-on_s6a : goal.returns-else-on_s6a
unfolding unsubscribed
returns-else-on_s6a c = rw (c.if-on_s6a.false, c.bit_of-eps.ensures, c.bit_of-gprs.ensures, c.subscription-subscription.ensures)
