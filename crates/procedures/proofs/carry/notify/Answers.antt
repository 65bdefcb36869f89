-- `procedures::carry::notify` meets its contract. The list is written before the node is cleared.
-- Assumes nothing.
use Rattle.paper.specs.Avp.{bit}
use Rattle.paper.specs.Procedures.{code_if}
use Rattle.procedures.proofs.NodeLaws.{notified-did}
use Rattle.procedures.proofs.carry.notify.Goals as goal

pub returns : goal.returns
returns c =
    notified-did c.args.t.now c.args.i c.args.cancel.now _ _ c.notified_type-how.result (code_if (bit 0 c.args.flags.0) 1) c.args.host.now c.notified_type-how.ensures c.at-subscriber.ensures
    c.is_cleared-gone.ensures c.clear_if.ensures c.list_notified.ensures
