-- `request::tests::length_test` meets its contract. Assumes nothing.
use Rattle.request.proofs.TestLaws.{length-right, length-wrong}
use Rattle.request.proofs.tests.length_test.Goals as goal

pub returns-then-header-n : goal.returns-then-header-n
returns-then-header-n c = λ m e f. length-right m e f c.if-header-n.true

pub returns : goal.returns
returns c = λ m e f. rw c.mute.ensures (length-wrong m e f c.if-header-n.false)
