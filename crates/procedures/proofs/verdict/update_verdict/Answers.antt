-- `procedures::verdict::update_verdict` meets its contract. Test by test, in the order of 01.
-- Assumes nothing.
use mathlib.Core.Path.{ap, ◌∙◌}
use mathlib.Core.Bool.{Bool}
use Rattle.std.proofs.lemmas.Result.{err_from_is_err_and}
use Rattle.paper.specs.Procedures.{unsubscribed, rat_refused}
use Rattle.procedures.specs.Values.{bytes_of, refused_update}
use Rattle.procedures.proofs.VerdictLaws.{first_refuses, first_passes}
use Rattle.procedures.proofs.verdict.update_verdict.Goals as goal

pub returns-in_err-refuse_if : goal.returns-in_err-refuse_if
unfolding refused_update
returns-in_err-refuse_if c =
    let p = err_from_is_err_and c.from_residual.result c.from_residual.ensures.1 in
    let subscribed = c.is_unsubscribed.ensures ∙ ap (λ (b : Bool). unsubscribed b (bytes_of c.args.subscriber)) c.on_s6a.ensures in
    rw (p.1, p.2) (first_refuses _ subscribed _ c.in_err-refuse_if.ensures)

pub returns-in_err-refuse_if-2 : goal.returns-in_err-refuse_if-2
unfolding refused_update
returns-in_err-refuse_if-2 c =
    let p = err_from_is_err_and c.from_residual-in_err-refuse_if-2.result c.from_residual-in_err-refuse_if-2.ensures.1 in
    let subscribed = c.is_unsubscribed.ensures ∙ ap (λ (b : Bool). unsubscribed b (bytes_of c.args.subscriber)) c.on_s6a.ensures in
    let rat = c.rat_refused.ensures ∙ ap (rat_refused c.args.rat) c.restriction.ensures in
    rw (p.1, p.2) (first_passes _ subscribed c.in_ok-refuse_if.ensures (first_refuses _ rat _ c.in_err-refuse_if-2.ensures))

pub returns : goal.returns
unfolding refused_update
returns c =
    let subscribed = c.is_unsubscribed.ensures ∙ ap (λ (b : Bool). unsubscribed b (bytes_of c.args.subscriber)) c.on_s6a.ensures in
    let rat = c.rat_refused.ensures ∙ ap (rat_refused c.args.rat) c.restriction.ensures in
    first_passes _ subscribed c.in_ok-refuse_if.ensures (first_passes _ rat c.in_ok-refuse_if-2.ensures (c.refuse_if-3.ensures ∙ rw c.plmn_refused.ensures))
