-- `serve_accepted` meets its contract: the record of the request's IMSI, or Experimental 5001.
-- Assumes nothing.
use Rattle.std.proofs.Common.{ℕ, List, ap, ◌∙◌}
use Rattle.dymosaw.specs.Serve.{lent}
use Rattle.paper.specs.Table.{lookup}
use Rattle.paper.proofs.SaidLaws.{host_handed}
use Rattle.dymosaw.proofs.ReplyLaws.{few-digits, imsi-stored, imsi-long, ask-experimental, unknown-outcome, found_held, found-outcome}
use Rattle.dymosaw.proofs.serve.serve_accepted.Goals as goal

pub imsi_field-imsi-requires : goal.imsi_field-imsi-requires
imsi_field-imsi-requires c = few-digits _ c.accept-accepted.ensures.user c.requires.fine

pub find_record-requires : goal.find_record-requires
find_record-requires c = (c.requires.passed.table_valid, imsi-long _ (imsi-stored _ c.imsi_field-imsi.ensures c.accept-accepted.ensures.user) c.requires.fine)

pub serve_record-requires : goal.serve_record-requires
serve_record-requires c =
    (c.requires, found_held (lent c.args.table.now c.args.noted.now.request.now c.args.own.host.now c.args.own.realm.now c.args.answer.now c.args.cancel.now) ((c.find_record.ensures ∙ ap (λ (x : List ℕ). lookup x c.args.table.now) (imsi-stored _ c.imsi_field-imsi.ensures c.accept-accepted.ensures.user))) _ c.in-Some.is c.requires.passed.table_valid, c.accept-accepted.ensures, (c.origin_host-sender.ensures ∙ host_handed _))

pub put_refusal-requires : goal.put_refusal-requires
put_refusal-requires c = (ask-experimental (lent c.args.table.now c.args.noted.now.request.now c.args.own.host.now c.args.own.realm.now c.args.answer.now c.args.cancel.now) c.requires.passed c.requires.fine _ c.experimental.ensures, c.requires.passed.cancel_room)

pub returns-in-Some : goal.returns-in-Some
returns-in-Some c = found-outcome (lent c.args.table.now c.args.noted.now.request.now c.args.own.host.now c.args.own.realm.now c.args.answer.now c.args.cancel.now) ((c.find_record.ensures ∙ ap (λ (x : List ℕ). lookup x c.args.table.now) (imsi-stored _ c.imsi_field-imsi.ensures c.accept-accepted.ensures.user))) _ c.in-Some.is c.serve_record.ensures

pub returns-in-None : goal.returns-in-None
returns-in-None c = unknown-outcome (lent c.args.table.now c.args.noted.now.request.now c.args.own.host.now c.args.own.realm.now c.args.answer.now c.args.cancel.now) ((c.find_record.ensures ∙ ap (λ (x : List ℕ). lookup x c.args.table.now) (imsi-stored _ c.imsi_field-imsi.ensures c.accept-accepted.ensures.user))) c.in-None.is c.experimental.ensures (c.put_refusal.ensures _)
