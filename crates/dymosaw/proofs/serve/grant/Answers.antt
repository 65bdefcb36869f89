-- `grant` meets its contract: the procedures carried out, then the answer of success.
-- Assumes nothing.
use Rattle.std.proofs.Common.{arith}
use Rattle.paper.specs.Table.{record_of}
use Rattle.paper.specs.Procedures.{carried_out}
use Rattle.dymosaw.specs.Serve.{lent}
use Rattle.dymosaw.proofs.ReplyLaws.{named-sender, imei-told, ask-success, granted}
use Rattle.dymosaw.proofs.serve.grant.Goals as goal

pub subscription_of-subscription-requires : goal.subscription_of-subscription-requires
subscription_of-subscription-requires c = c.requires.1

pub carry_out-purges-requires : goal.carry_out-purges-requires
carry_out-purges-requires c =
    let n = c.requires.0.fine in
    (c.requires.1, named-sender _ (c.requires.3) n, imei-told _ c.requires.2.imei n, c.requires.0.passed.cancel_room)

pub put_answer-length-requires : goal.put_answer-length-requires
put_answer-length-requires c =
    let m = c.args.request.now in
    let t = c.args.table.now in
    let did = c.carry_out-purges.ensures _ c.requires.2.asked c.requires.3 c.requires.2.imei in
    let s = c.subscription_of-subscription.ensures in
    let told = c.extra_of.ensures m (record_of t c.args.i) (carried_out m c.args.i t) c.requires.2.asked s.restriction s.uplink s.downlink did.flags in
    ask-success (lent c.args.table.now c.args.request.now c.args.own.host.now c.args.own.realm.now c.args.answer.now c.args.cancel.now) c.requires.0.passed c.requires.0.fine _ c.args.i _ told

pub entries_in-requires : goal.entries_in-requires
entries_in-requires c =
    omega (arith, c.requires.0.passed.cancel_room, c.carry_out-purges.auto)

pub returns : goal.returns
returns c =
    let m = c.args.request.now in
    let t = c.args.table.now in
    let did = c.carry_out-purges.ensures _ c.requires.2.asked c.requires.3 c.requires.2.imei in
    let s = c.subscription_of-subscription.ensures in
    let told = c.extra_of.ensures m (record_of t c.args.i) (carried_out m c.args.i t) c.requires.2.asked s.restriction s.uplink s.downlink did.flags in
    granted (lent c.args.table.now c.args.request.now c.args.own.host.now c.args.own.realm.now c.args.answer.now c.args.cancel.now) c.args.i _ c.requires.1 did told c.put_answer-length.ensures c.entries_in.ensures
