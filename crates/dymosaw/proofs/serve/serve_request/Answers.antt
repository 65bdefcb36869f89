-- `serve_request` meets its contract: the refusal that applies first, or the request accepted. What was noted is of the request.
-- Assumes nothing.
use Rattle.std.proofs.Common.{ℕ, List, sym, subst, ◌≡◌}
use Rattle.paper.specs.Request.{refusal}
use Rattle.paper.specs.Outcome.{by_record}
use Rattle.paper.specs.Procedures.{imsi_field}
use Rattle.paper.specs.Table.{lookup}
use Rattle.request.specs.Test.{Answers}
use Rattle.dymosaw.specs.Serve.{lent, came_to, Ready}
use Rattle.std.specs.Prelude.{Ok}
use Rattle.dymosaw.proofs.ReplyLaws.{ask-refusal, none_fails, refused-outcome, accepted-outcome}
use Rattle.dymosaw.proofs.serve.serve_request.Goals as goal

pub note-noted-requires : goal.note-noted-requires
note-noted-requires c = c.requires.least

pub put_refusal-requires : goal.put_refusal-requires
put_refusal-requires c =
    let told = subst (λ (m : List ℕ). Answers m (refusal m) c.judge.result) c.note-noted.ensures c.judge.ensures in
    (ask-refusal (lent c.args.table.now c.args.request.now c.args.own.host.now c.args.own.realm.now c.args.answer.now c.args.cancel.now) told _ c.in-Err.is c.requires, c.requires.cancel_room)

pub serve_accepted-requires : goal.serve_accepted-requires
serve_accepted-requires c =
    let told = subst (λ (m : List ℕ). Answers m (refusal m) c.judge.result) c.note-noted.ensures c.judge.ensures in
    subst (λ (m : List ℕ). Ready (lent c.args.table.now m c.args.own.host.now c.args.own.realm.now c.args.answer.now c.args.cancel.now)) (sym c.note-noted.ensures)
    (record { passed = c.requires; fine = none_fails (lent c.args.table.now c.args.request.now c.args.own.host.now c.args.own.realm.now c.args.answer.now c.args.cancel.now) told c.in-Ok.is })

pub returns-in-Err : goal.returns-in-Err
returns-in-Err c =
    let told = subst (λ (m : List ℕ). Answers m (refusal m) c.judge.result) c.note-noted.ensures c.judge.ensures in
    refused-outcome (lent c.args.table.now c.args.request.now c.args.own.host.now c.args.own.realm.now c.args.answer.now c.args.cancel.now) told _ c.in-Err.is (c.put_refusal.ensures _)

pub returns-in-Ok : goal.returns-in-Ok
returns-in-Ok c =
    let told = subst (λ (m : List ℕ). Answers m (refusal m) c.judge.result) c.note-noted.ensures c.judge.ensures in
    let l = λ (m : List ℕ). lent c.args.table.now m c.args.own.host.now c.args.own.realm.now c.args.answer.now c.args.cancel.now in
    accepted-outcome (lent c.args.table.now c.args.request.now c.args.own.host.now c.args.own.realm.now c.args.answer.now c.args.cancel.now) told c.in-Ok.is
    (subst (λ (m : List ℕ). came_to (Ok c.serve_accepted.result) c.serve_accepted.new.table c.serve_accepted.new.answer c.serve_accepted.new.cancel ≡ by_record (l m) (lookup (imsi_field m) c.args.table.now)) c.note-noted.ensures c.serve_accepted.ensures)
