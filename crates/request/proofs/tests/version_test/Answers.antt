-- `request::tests::version_test` meets its contract. Assumes nothing.
use Rattle.request.proofs.TestLaws.{version-right, version-wrong}
use Rattle.request.proofs.tests.version_test.Goals as goal

pub returns-then-header-eq1 : goal.returns-then-header-eq1
returns-then-header-eq1 c = λ m e. version-right m e c.if-header-eq1.true

pub returns : goal.returns
returns c = λ m e. rw c.mute.ensures (version-wrong m e c.if-header-eq1.false)
