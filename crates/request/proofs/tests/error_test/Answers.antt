-- `request::tests::error_test` meets its contract. Assumes nothing.
use Rattle.request.proofs.TestLaws.{error-clear, error-set}
use Rattle.request.proofs.tests.error_test.Goals as goal

pub returns-then-header-eq1 : goal.returns-then-header-eq1
returns-then-header-eq1 c = λ m e. rw c.mute.ensures (error-set m e c.if-header-eq1.true)

pub returns : goal.returns
returns c = λ m e. error-clear m e c.if-header-eq1.false
