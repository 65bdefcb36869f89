-- `avp::find::first_places` meets its contract. The loop's invariant: the places say of each key what was found before what the walk has left, and as long
-- as no key was met twice the search for a second goes on there too. Assumes nothing.
use mathlib.Core.Path.{refl, sym, ap, ◌∙◌}
use mathlib.Core.Bool.{false≢true}
use lib.ListN.{length-set}
use native.Mathlib.Omega.{arith}
use Rattle.avp.specs.Walk.{left}
use Rattle.avp.proofs.NotedLaws.{noting_start, noting_over, noting_other, noting_again, noting_mark, once_start, once_over, once_other, once_mark}
use Rattle.avp.proofs.find.first_places.Goals as goal

pub loop-avp-init : goal.loop-avp-init
loop-avp-init c =
    let e = ap left c.into_iter-avp-iterator.ensures.into_iter_gives ∙ c.new-avp-items.ensures in
    (noting_start _ 16 e (omega arith), (λ o. once_start _ 16 e), refl)

pub loop-avp-preserved-in-None-places : goal.loop-avp-preserved-in-None-places
loop-avp-preserved-in-None-places c =
    let w = c.loop-avp.invariant in
    let e = c.in-Some.ensures.steps in
    let k = c.key.ensures in
    let i = c.in-Some-index_of.ensures in
    let free = c.in-None-places.is in
    (noting_mark _ _ _ w.0 e k i.index (rw k at i.code_bound) free, (λ o. once_mark _ _ _ (w.1 o) e k i.index (omega arith) free _), simp length-set w.2)

pub loop-avp-preserved-in-Some-places : goal.loop-avp-preserved-in-Some-places
loop-avp-preserved-in-Some-places c =
    let w = c.loop-avp.invariant in
    let k = c.key.ensures in
    let i = c.in-Some-index_of.ensures in
    (noting_again _ _ _ w.0 c.in-Some.ensures.steps k i.index (rw k at i.code_bound) c.in-Some-places.is, (λ o. absurd (false≢true (sym o))), w.2)

pub loop-avp-preserved : goal.loop-avp-preserved
loop-avp-preserved c =
    let w = c.loop-avp.invariant in
    let e = c.in-Some.ensures.steps in
    let k = c.key.ensures in
    let n = c.in_default.ensures.index in
    (noting_other _ _ _ w.0 e k n, (λ o. once_other _ _ _ (w.1 o) e k n), w.2)

pub returns-clause-noted : goal.returns-clause-noted
returns-clause-noted c = noting_over _ _ _ c.loop-avp.invariant.0 _ refl c.in-None.ensures.steps.0

pub returns-clause-unrepeated : goal.returns-clause-unrepeated
returns-clause-unrepeated c = λ o. once_over _ _ _ (c.loop-avp.invariant.1 o) _ refl c.in-None.ensures.steps.0
