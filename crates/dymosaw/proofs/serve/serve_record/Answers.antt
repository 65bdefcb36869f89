-- `serve_record` meets its contract: the Experimental-Result of the record, or success.
-- Assumes nothing.
use Rattle.dymosaw.specs.Serve.{lent}
use Rattle.dymosaw.proofs.ReplyLaws.{ask-experimental, ruled-outcome, fine-outcome}
use Rattle.dymosaw.proofs.serve.serve_record.Goals as goal

pub verdict-requires : goal.verdict-requires
verdict-requires c = c.requires.1

pub put_refusal-requires : goal.put_refusal-requires
put_refusal-requires c = (ask-experimental (lent c.args.table.now c.args.request.now c.args.own.host.now c.args.own.realm.now c.args.answer.now c.args.cancel.now) c.requires.0.passed c.requires.0.fine _ c.experimental.ensures, c.requires.0.passed.cancel_room)

pub grant-requires : goal.grant-requires
grant-requires c = c.requires

pub returns-in-Err : goal.returns-in-Err
returns-in-Err c =
    let ruling = c.verdict.ensures _ c.requires.2.asked c.requires.3 c.requires.2.plmn in
    ruled-outcome (lent c.args.table.now c.args.request.now c.args.own.host.now c.args.own.realm.now c.args.answer.now c.args.cancel.now) c.args.i ruling _ c.in-Err.is c.experimental.ensures (c.put_refusal.ensures _)

pub returns-in-Ok : goal.returns-in-Ok
returns-in-Ok c =
    let ruling = c.verdict.ensures _ c.requires.2.asked c.requires.3 c.requires.2.plmn in
    fine-outcome (lent c.args.table.now c.args.request.now c.args.own.host.now c.args.own.realm.now c.args.answer.now c.args.cancel.now) c.args.i ruling c.in-Ok.is c.grant.ensures
