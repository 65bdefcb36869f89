-- `judge_record` meets its contract: each return is one law over what the lookup found.
-- Assumes nothing.
use Rattle.std.proofs.Common.{◌≡◌, Some, None, sym, ap, ◌∙◌, arith}
use Rattle.std.proofs.lemmas.Result.{err_from_is_err_and}
use Rattle.table.specs.Found.{place_of}
use Rattle.paper.specs.Table.{change_of}
use Rattle.paper.specs.Correction.{frame_imsi}
use Rattle.paper.proofs.TableLaws.{valid_parts, lookup-inside}
use Rattle.correction.specs.declared.refusal.Refusal.TheVariants.{NoSuchImsi}
use Rattle.correction.proofs.JudgeLaws.{no_such_imsi, change_differs, accepts_record}
use Rattle.correction.proofs.judge.judge_record.Goals as goal

pub returns-in_err-i : goal.returns-in_err-i
returns-in_err-i c =
    let p = err_from_is_err_and c.from_residual.result c.from_residual.ensures.1 in
    let none : c.find_record.result ≡ None = grind arith in
    let reason : c.in_err-i.field-0.0 ≡ NoSuchImsi = grind arith in
    rw (p.1, p.2, reason) (no_such_imsi c.args.table.now c.args.frame.now (sym c.find_record.ensures ∙ ap place_of none))

pub at-requires : goal.at-requires
at-requires c =
    let some : c.find_record.result ≡ Some c.in_ok-i.i = grind arith in
    lookup-inside (frame_imsi c.args.frame.now) c.args.table.now _ (valid_parts c.args.table.now c.requires.0) (sym c.find_record.ensures ∙ ap place_of some)

pub returns-then-change-seen : goal.returns-then-change-seen
returns-then-change-seen c =
    let some : c.find_record.result ≡ Some c.in_ok-i.i = grind arith in
    change_differs c.args.table.now c.args.frame.now _ (sym c.find_record.ensures ∙ ap place_of some) (λ e. c.if-change-seen.true (c.change_number-change.ensures ∙ ap change_of c.at.ensures ∙ e ∙ sym c.get-seen.ensures.value))

pub returns : goal.returns
returns c =
    let some : c.find_record.result ≡ Some c.in_ok-i.i = grind arith in
    accepts_record c.args.table.now c.args.frame.now _ (sym c.find_record.ensures ∙ ap place_of some) c.requires.0 (sym (c.change_number-change.ensures ∙ ap change_of c.at.ensures) ∙ c.if-change-seen.false ∙ c.get-seen.ensures.value)
