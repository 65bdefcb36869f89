-- `procedures::cancel::list_notified` meets its contract. One entry at most, and zeros up to the end of the list.
-- Assumes nothing.
use native.Mathlib.Omega.{arith}
use Rattle.procedures.specs.Values.{type_of}
use Rattle.procedures.proofs.ListLaws.{cancel_list-size, one-listed}
use Rattle.procedures.proofs.cancel.list_notified.Goals as goal

pub overflow_sub-end : goal.overflow_sub-end
overflow_sub-end c =
    let k = cancel_list-size c.args.subscriber c.args.host.now c.args.node (type_of c.args.how) in
    omega (arith, c.list_cancelled-end.ensures.next)

pub put_zeros-requires : goal.put_zeros-requires
put_zeros-requires c =
    let k = cancel_list-size c.args.subscriber c.args.host.now c.args.node (type_of c.args.how) in
    omega (arith, c.list_cancelled-end.ensures.next, c.requires)

pub returns : goal.returns
returns c = one-listed c.args.subscriber c.args.host.now c.args.node (type_of c.args.how) c.list_cancelled-end.ensures c.put_zeros.ensures
