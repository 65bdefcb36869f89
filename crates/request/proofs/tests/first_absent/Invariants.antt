-- `request::tests::first_absent` meets its contract. The loop's invariant: the first of all that is absent is the first from here on. Assumes nothing.
use mathlib.Core.Path.{◌≡◌}
use mathlib.Core.List.{map}
use Rattle.paper.specs.Request.{avps_of, first_absent}
use Rattle.request.specs.Profile.{key_at}
use Rattle.request.proofs.TestLaws.{absent_from}
use Rattle.request.proofs.tests.first_absent.Given as goal

abbrev pub invariant-loop-key : goal.invariant-loop-key
invariant-loop-key l =
    first_absent (map key_at l.required) (avps_of l.noted.request.now) ≡ absent_from (avps_of l.noted.request.now) l.required l.key-index
