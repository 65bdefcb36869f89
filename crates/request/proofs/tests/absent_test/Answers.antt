-- `request::tests::absent_test` meets its contract. Assumes nothing.
use Rattle.request.proofs.JudgeLaws.{absent_answers, absent_nothing}
use Rattle.request.proofs.tests.absent_test.Goals as goal

pub returns-in-Some : goal.returns-in-Some
returns-in-Some c = absent_answers _ c.args.noted.now.own c.in-Some.is _ c.required.ensures c.first_absent.ensures

pub returns-in-None : goal.returns-in-None
returns-in-None c = absent_nothing _ c.args.noted.now.own c.in-None.is
