-- `procedures::carry::carry_out` meets its contract. The values are those of the request, by command: what each comes to is what the request comes to.
-- Assumes nothing.
use Rattle.std.specs.Prelude.{option_copied}
use Rattle.std.proofs.Common.{rules}
use Rattle.paper.specs.Avp.{bit}
use Rattle.paper.specs.Procedures.{code_if, other_type}
use Rattle.procedures.proofs.NodeLaws.{held_located, held_notified}
use Rattle.procedures.proofs.AskedLaws.{carried_update, carried_purge, carried_notify}
use Rattle.procedures.proofs.carry.carry_out.Goals as goal

pub store_imei_if-requires : goal.store_imei_if-requires
store_imei_if-requires c =
    let f = c.of.result.0 in
    (held_located c.args.t.now c.args.i c.args.cancel.now _ _ c.requires.0 (bit 1 f) (other_type (bit 1 f) (bit 0 f) (bit 5 f)) c.args.host.now c.requires.1 c.update_location.ensures, c.requires.2)

pub returns-in-316 : goal.returns-in-316
returns-in-316 c =
    λ m e q x.
    carried_update m c.args.asked e c.args.host.now (option_copied c.args.imei) q x c.args.i c.args.t.now c.args.cancel.now _ _ _ c.of.ensures c.in-316.is c.update_location.ensures c.store_imei_if.ensures

pub returns-in-321 : goal.returns-in-321
returns-in-321 c =
    λ m e q x.
    carried_purge m c.args.asked e c.args.host.now (option_copied c.args.imei) q x c.args.i c.args.t.now c.args.cancel.now _ _ c.args.t.now _ c.in-321.is c.purge_ue.ensures c.no_entries.ensures

pub store_imei_if-requires-in_default : goal.store_imei_if-requires-in_default
store_imei_if-requires-in_default c =
    (held_notified c.args.t.now c.args.i c.args.cancel.now _ _ c.requires.0 (code_if (bit 0 c.of-in_default.result.0) 1) c.args.host.now c.notify.ensures, c.requires.2)

pub returns-in_default : goal.returns-in_default
returns-in_default c =
    λ m e q x.
    carried_notify m c.args.asked e c.args.host.now (option_copied c.args.imei) q x c.args.i c.args.t.now c.args.cancel.now _ _ _ c.of-in_default.ensures (search rules) (search rules) c.notify.ensures
    c.store_imei_if-in_default.ensures
