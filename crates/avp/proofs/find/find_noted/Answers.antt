-- `avp::find::find_noted` meets its contract: the place that is noted leads to the AVP, and no place says that there is none. Assumes nothing.
use mathlib.Core.Path.{sym, ◌∙◌}
use Rattle.avp.proofs.NotedLaws.{noted_found, noted_nothing}
use Rattle.avp.proofs.find.find_noted.Goals as goal

pub returns-in_err-places : goal.returns-in_err-places
returns-in_err-places c =
    let p = c.requires.first _ _ c.in-Some.i c.in-Some.ensures.code_bound (sym c.in-Some.ensures.index) in
    c.from_residual.ensures ∙ noted_nothing _ _ (sym c.in_err-places.was ∙ p)

pub returns : goal.returns
returns c =
    let p = c.requires.first _ _ c.in-Some.i c.in-Some.ensures.code_bound (sym c.in-Some.ensures.index) in
    c.found_at.ensures ∙ noted_found _ _ _ (sym c.in_ok-places.was ∙ p)
