-- `request::tests::first_absent` meets its contract. Assumes nothing.
use mathlib.Core.Path.{◌∙◌}
use Rattle.request.proofs.PlaceLaws.{there-found}
use Rattle.request.proofs.TestLaws.{fine, absent-next, absent-here, absent_none}
use Rattle.request.proofs.tests.first_absent.Goals as goal

pub loop-key-preserved : goal.loop-key-preserved
loop-key-preserved c =
    absent-next _ c.args.required.now c.loop-key.key-index c.loop-key-test.true c.loop-key.invariant (there-found _ c.find_top.ensures.sought ∙ c.if-is_none.ensures)

pub returns-then-is_none : goal.returns-then-is_none
returns-then-is_none c =
    let e = absent-here _ c.args.required.now c.loop-key.key-index c.loop-key-test.true c.loop-key.invariant (there-found _ c.find_top.ensures.sought ∙ c.if-is_none.ensures) in
    rw e (c.missing.ensures _)

pub returns : goal.returns
returns c = fine _ (absent_none _ c.args.required.now c.loop-key.key-index c.loop-key-test.false c.loop-key.invariant)
