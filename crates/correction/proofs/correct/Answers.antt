-- `correct` meets its contract: what was judged is carried out.
-- Assumes nothing.
use Rattle.std.proofs.Common.{Ok, ap, ◌∙◌}
use Rattle.std.proofs.lemmas.Result.{err_from_is_err_and}
use Rattle.paper.specs.Correction.{accepted, refused}
use Rattle.correction.specs.Refusal.{came_to}
use Rattle.correction.proofs.correct.Goals as goal

pub returns-in_err-accepted : goal.returns-in_err-accepted
unfolding refused
returns-in_err-accepted c =
    let p = err_from_is_err_and c.from_residual.result c.from_residual.ensures.1 in
    rw (p.1, p.2) c.in_err-accepted.ensures.outcome

pub returns : goal.returns
unfolding accepted
returns c = ap (came_to (Ok tt)) c.store_correction.ensures ∙ c.in_ok-accepted.ensures.outcome
