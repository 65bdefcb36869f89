-- `request::tests::application_test` meets its contract. Assumes nothing.
use Rattle.request.proofs.TestLaws.{application-right, application-wrong}
use Rattle.request.proofs.tests.application_test.Goals as goal

pub returns-then-header-eq-APPLICATION : goal.returns-then-header-eq-APPLICATION
returns-then-header-eq-APPLICATION c = λ m e. application-right m e c.if-header-eq-APPLICATION.true

pub returns : goal.returns
returns c = λ m e. rw c.refuse.ensures (application-wrong m e c.if-header-eq-APPLICATION.false)
