-- `request::tests::second_used` meets its contract. Assumes nothing.
use Rattle.request.proofs.JudgeLaws.{second_of_used, second_of_none}
use Rattle.request.proofs.NotedLaws.{no_second-used}
use Rattle.request.proofs.tests.second_used.Goals as goal

pub returns-then-not-noted : goal.returns-then-not-noted
returns-then-not-noted c = no_second-used _ _ c.args.noted.now.own (c.args.noted.now.unrepeated c.if-not-noted.true)

pub returns-in_err-command : goal.returns-in_err-command
returns-in_err-command c = rw c.from_residual.ensures (second_of_none _ c.args.noted.now.own c.in_err-command.was)

pub returns : goal.returns
returns c =
    let l = c.avps_of.ensures in
    second_of_used _ c.args.noted.now.own c.in_ok-command.was _ c.used.ensures.listed l.at l.bytes c.second.ensures
