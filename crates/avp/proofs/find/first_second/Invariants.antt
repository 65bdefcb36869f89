-- `avp::find::first_second` meets its contract. The loop's invariant: the search goes on in what the walk has left, the flags saying which keys were met.
-- Assumes nothing.
use mathlib.Core.Path.{◌≡◌}
use lib.ListN.{length}
use Rattle.paper.specs.Reader.{avps}
use Rattle.avp.specs.Walk.{items, left}
use Rattle.avp.proofs.SecondLaws.{Walked}
use Rattle.avp.proofs.find.first_second.Given as goal

abbrev pub invariant-loop-avp : goal.invariant-loop-avp
invariant-loop-avp l = Walked l.keys (items l.s (avps 0 l.s)) l.met (left l.avp-iterator) × (length l.met ≡ 16)
