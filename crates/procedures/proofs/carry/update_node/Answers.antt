-- `procedures::carry::update_node` meets its contract. The table stays valid once the sender is registered, so that the other node can be cleared.
-- Assumes nothing.
use Rattle.paper.proofs.ProcedureLaws.{name_parts}
use Rattle.procedures.proofs.NodeLaws.{held_node, updated-did}
use Rattle.procedures.proofs.carry.update_node.Goals as goal

pub register-requires : goal.register-requires
register-requires c = (c.requires.0, (name_parts c.args.host.now c.requires.1).few)

pub clear_if-requires : goal.clear_if-requires
clear_if-requires c = held_node c.args.t.now c.args.i c.requires.0 _ c.args.own c.args.host.now c.requires.1 c.register.ensures

pub returns : goal.returns
returns c =
    updated-did c.args.t.now c.args.i c.args.cancel.now _ _ c.args.own c.args.how c.args.host.now c.other-other.ensures c.at-subscriber.ensures c.is_cleared-gone.ensures c.register.ensures
    c.clear_if.ensures c.list_updated.ensures
