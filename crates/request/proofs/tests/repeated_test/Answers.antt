-- `request::tests::repeated_test` meets its contract. Assumes nothing.
use Rattle.request.proofs.JudgeLaws.{repeated_answers}
use Rattle.request.proofs.tests.repeated_test.Goals as goal

pub returns : goal.returns
returns c =
    repeated_answers _ c.args.noted.now.whole c.second_used.ensures c.terminal_avps.ensures.same c.second-imei.ensures c.earlier.ensures c.shown.ensures
