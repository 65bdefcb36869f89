-- `request::tests::fault_test` meets its contract. Assumes nothing.
use mathlib.Core.Path.{sym, ◌∙◌}
use Rattle.request.proofs.TestLaws.{fault_answers, fault-fine}
use Rattle.request.proofs.tests.fault_test.Goals as goal

pub returns-in-Fault : goal.returns-in-Fault
returns-in-Fault c = λ m l e. rw c.mute.ensures (fault_answers m l (sym c.in-Fault.is ∙ e))

pub returns-in_default : goal.returns-in_default
returns-in_default c = λ m l e. fault-fine m e c.in_default.not-Fault
