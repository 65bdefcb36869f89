-- `procedures::carry::store_imei_if` meets its contract. An IMEI of 14 or 15 digits fits its field.
-- Assumes nothing.
use Rattle.paper.proofs.FieldLaws.{imei-size}
use Rattle.paper.proofs.ProcedureLaws.{imei-sizes}
use Rattle.procedures.proofs.NodeLaws.{held_inside}
use Rattle.procedures.proofs.carry.store_imei_if.Goals as goal

pub store_imei-requires : goal.store_imei-requires
store_imei-requires c =
    let digits = rw c.in-Some.is at c.requires.1 in
    (held_inside c.args.t.now c.args.i c.requires.0, imei-size c.in-Some.digits.now (imei-sizes c.in-Some.digits.now digits))
