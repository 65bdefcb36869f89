-- `request::tests::unsupported_test` meets its contract. Assumes nothing.
use mathlib.Core.Path.{sym, ◌∙◌}
use Rattle.request.proofs.TestLaws.{unsupported_answers, unsupported-fine}
use Rattle.request.proofs.tests.unsupported_test.Goals as goal

pub returns-in-Unsupported : goal.returns-in-Unsupported
returns-in-Unsupported c = λ m l e q. rw c.refuse.ensures (unsupported_answers m l (sym c.in-Unsupported.is ∙ e))

pub returns-in_default : goal.returns-in_default
returns-in_default c = λ m l e q. unsupported-fine m e q c.in_default.not-Unsupported
