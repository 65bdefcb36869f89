-- `procedures::cancel::list_updated` meets its contract. Two entries at most, and zeros up to the end of the list.
-- Assumes nothing.
use native.Mathlib.Omega.{arith}
use Rattle.procedures.specs.Values.{type_number, type_of}
use Rattle.procedures.proofs.ListLaws.{listed-size, cancel_list-size, two_listed}
use Rattle.procedures.proofs.cancel.list_updated.Goals as goal

pub list_cancelled-end-requires : goal.list_cancelled-end-requires
list_cancelled-end-requires c =
    let j = listed-size c.args.subscriber c.args.host.now c.args.own (type_number c.of_update-displaced.result) in
    omega (arith, c.list_node-behind.ensures.next, c.requires)

pub overflow_sub-end : goal.overflow_sub-end
overflow_sub-end c =
    let j = listed-size c.args.subscriber c.args.host.now c.args.own (type_number c.of_update-displaced.result) in
    let k = cancel_list-size c.args.subscriber c.args.host.now c.other.result (type_of c.args.how) in
    omega (arith, c.list_cancelled-end.ensures.next, c.list_node-behind.ensures.next)

pub put_zeros-requires : goal.put_zeros-requires
put_zeros-requires c =
    let j = listed-size c.args.subscriber c.args.host.now c.args.own (type_number c.of_update-displaced.result) in
    let k = cancel_list-size c.args.subscriber c.args.host.now c.other.result (type_of c.args.how) in
    omega (arith, c.list_cancelled-end.ensures.next, c.list_node-behind.ensures.next, c.requires)

pub returns : goal.returns
returns c =
    rw (← c.of_update-displaced.ensures, ← c.other.ensures)
    (two_listed c.args.subscriber c.args.host.now c.args.own c.other.result (type_number c.of_update-displaced.result) (type_of c.args.how) c.list_node-behind.ensures c.list_cancelled-end.ensures
    c.put_zeros.ensures)
