-- `take_turn` meets its contract: a frame of no kind ends the run, a request and a correction leave the table where it stands.
-- Assumes nothing.
use Rattle.std.proofs.Common.{take, ◌∙◌, arith, length-take-le, rules}
use Rattle.dymosaw.specs.declared.desk.Kind.TheVariants.{Request, Correction}
use Rattle.dymosaw.proofs.DeskLaws.{made-there, made-ended-at, last_plain, kind_taken}
use Rattle.dymosaw.proofs.desk.take_turn.Goals as goal

pub returns-in_default : goal.returns-in_default
returns-in_default c =
    let t = take c.args.used c.args.buffer.now in
    made-ended-at (search rules) (last_plain t c.plain.ensures ∙ c.in_default.ensures t) (omega arith)

pub returns-in-Request : goal.returns-in-Request
returns-in-Request c =
    let b = c.args.buffer.now in
    let n = c.args.used in
    made-there (c.request_line-line.auto.table ∙ length-take-le n b (search rules)) (c.request_line-line.ensures ∙ kind_taken c.args.frame.now (take n b) Request c.in-Request.is c.in-Some.ensures)

pub returns-in-Correction : goal.returns-in-Correction
returns-in-Correction c =
    let b = c.args.buffer.now in
    let n = c.args.used in
    made-there (c.correction_line-line.auto.table ∙ length-take-le n b (search rules)) (c.correction_line-line.ensures ∙ kind_taken c.args.frame.now (take n b) Correction c.in-Correction.is c.in-Some.ensures)
