-- `next` of `avp::cursor::Avps` gives the AVP at its place and goes on behind it. Assumes nothing.
use mathlib.Core.Path.{ap}
use native.Mathlib.Omega.{arith}
use lib.ListN.{length}
use Rattle.std.proofs.lemmas.Grind.{common_steps}
use Rattle.avp.proofs.WalkLaws.{items-item, items_over}
use Rattle.avp.proofs.cursor.AvpsIterator.next.Goals as goal

pub returns-clause-steps : goal.returns-clause-steps
returns-clause-steps c = items-item _ _ c.in-Item.ensures

pub returns-clause-goes : goal.returns-clause-goes
returns-clause-goes c = let e = ap length (items-item _ _ c.in-Item.ensures) in grind (arith, common_steps)

pub returns-in_default : goal.returns-in_default
returns-in_default c =
    let e = items_over _ _ c.next.ensures c.in_default.not-Item in
    record { steps = (e, e); goes = grind (arith, common_steps) }
