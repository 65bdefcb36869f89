-- `judge` meets its contract: the first test that fails refuses, and past all of them the record decides.
-- Assumes nothing.
use Rattle.std.proofs.Common.{sym, ◌∙◌}
use Rattle.std.proofs.lemmas.Result.{err_from_is_err_and}
use Rattle.correction.proofs.JudgeLaws.{table-not-valid, record_decides}
use Rattle.correction.proofs.judge.judge.Goals as goal

pub returns-then-not-valid_table : goal.returns-then-not-valid_table
returns-then-not-valid_table c = record { outcome = sym (table-not-valid _ c.args.frame.now (sym c.valid_table.ensures ∙ c.if-not-valid_table.true)); ready = tt }

pub returns-in_err-record : goal.returns-in_err-record
returns-in_err-record c =
    let p = err_from_is_err_and c.from_residual-in_err-record.result c.from_residual-in_err-record.ensures.1 in
    let decides = record_decides c.in_ok-kind.ensures c.in_ok-judge_value.ensures c.args.table.now (sym c.valid_table.ensures ∙ c.if-not-valid_table.false) in
    rw (p.1, p.2) (record { outcome = sym (decides ∙ c.in_err-record.ensures); ready = tt })

pub returns : goal.returns
returns c =
    let head = c.in_ok-kind.ensures in
    let value = c.in_ok-judge_value.ensures in
    let found = c.in_ok-record.ensures in
    let decides = record_decides head value c.args.table.now (sym c.valid_table.ensures ∙ c.if-not-valid_table.false) in
    record { outcome = sym (decides ∙ found.accepts); ready = record { inside = found.inside; sized = value.sized; kind = head.kind } }
