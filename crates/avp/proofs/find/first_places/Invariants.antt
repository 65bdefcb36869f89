-- `avp::find::first_places` meets its contract. The loop's invariant: the places say of each key what was found before what the walk has left, and as long
-- as no key was met twice the search for a second goes on there too. Assumes nothing.
use mathlib.Core.Path.{◌≡◌}
use mathlib.Core.Bool.{false}
use lib.ListN.{length}
use Rattle.paper.specs.Reader.{avps}
use Rattle.avp.specs.Walk.{items, left}
use Rattle.avp.proofs.NotedLaws.{Noting, Once}
use Rattle.avp.proofs.find.first_places.Given as goal

abbrev pub invariant-loop-avp : goal.invariant-loop-avp
invariant-loop-avp l =
    let all = items l.s (avps 0 l.s) in
    let rest = left l.avp-iterator in
    Noting l.keys all l.places rest × (l.again ≡ false → Once l.keys all l.places rest) × (length l.places ≡ 16)
