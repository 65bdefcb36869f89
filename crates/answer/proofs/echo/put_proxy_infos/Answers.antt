-- `answer::echo::put_proxy_infos` meets its contract. The loop's invariant: what was written and the Proxy-Infos that the walk has left are all of them.
-- Assumes nothing.
use mathlib.Core.Path.{ap, ◌∙◌}
use Rattle.avp.specs.Walk.{left}
use Rattle.answer.proofs.EchoLaws.{copied_none, copied_more, all_copies, all_inside, first_copied, inside}
use Rattle.answer.proofs.echo.put_proxy_infos.Goals as goal

pub loop-a-init : goal.loop-a-init
loop-a-init c =
    let e = ap left c.into_iter-a-iterator.ensures.into_iter_gives ∙ c.new-a-items.ensures in
    (copied_none _ c.requires.1 (all_copies _ e), all_inside _ e)

pub loop-a-preserved : goal.loop-a-preserved
loop-a-preserved c =
    let e = c.in-Some.ensures.steps in
    (copied_more (first_copied _ e) c.loop-a.invariant.0 c.put_if_proxy_info.ensures, (inside _ e c.loop-a.invariant.1).1)
