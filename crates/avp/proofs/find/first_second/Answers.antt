-- `avp::find::first_second` meets its contract. The loop's invariant: the search goes on in what the walk has left, the flags saying which keys were met.
-- Assumes nothing.
use mathlib.Core.Path.{refl, sym, ap, ◌∙◌}
use lib.ListN.{length-set}
use native.Mathlib.Omega.{arith}
use Rattle.avp.specs.Walk.{left}
use Rattle.avp.proofs.WalkLaws.{second-first}
use Rattle.avp.proofs.SecondLaws.{walked_start, second_over, second-other, second-here, second_mark}
use Rattle.avp.proofs.find.first_second.Goals as goal

pub loop-avp-init : goal.loop-avp-init
loop-avp-init c = (walked_start _ 16 (ap left c.into_iter-avp-iterator.ensures.into_iter_gives ∙ c.new-avp-items.ensures), refl)

pub returns-then-met-i : goal.returns-then-met-i
returns-then-met-i c =
    let i = c.in-Some-index_of.ensures.index in
    sym (second-here _ _ _ c.loop-avp.invariant.0 c.in-Some.ensures.steps c.key.ensures i c.if-met-i.true) ∙ second-first _ _

pub loop-avp-preserved-in-Some-index_of : goal.loop-avp-preserved-in-Some-index_of
loop-avp-preserved-in-Some-index_of c =
    let w = c.loop-avp.invariant in
    let i = c.in-Some-index_of.ensures.index in
    (second_mark _ _ _ w.0 c.in-Some.ensures.steps c.key.ensures i (omega arith) c.if-met-i.false, simp length-set w.1)

pub loop-avp-preserved : goal.loop-avp-preserved
loop-avp-preserved c =
    let w = c.loop-avp.invariant in
    (second-other _ _ _ w.0 c.in-Some.ensures.steps c.key.ensures c.in_default.ensures.index, w.1)

pub returns : goal.returns
returns c = sym (second_over _ _ _ c.loop-avp.invariant.0 c.in-None.ensures.steps.0) ∙ second-first _ _
