-- `request::tests::command_test` meets its contract. Assumes nothing.
use Rattle.request.proofs.TestLaws.{command-right, command-wrong}
use Rattle.request.proofs.tests.command_test.Goals as goal

pub returns-in-Some : goal.returns-in-Some
returns-in-Some c = λ m e. command-right m e c.in-Some.is

pub returns-in-None : goal.returns-in-None
returns-in-None c = λ m e. rw c.refuse.ensures (command-wrong m e c.in-None.is)
