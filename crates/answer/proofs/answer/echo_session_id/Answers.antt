-- `answer::answer::echo_session_id` meets its contract. Assumes nothing.
use mathlib.Core.Path.{ap}
use native.Mathlib.Omega.{arith}
use lib.ListN.{length}
use Rattle.avp.proofs.WriteLaws.{appended-same, appended_nothing}
use Rattle.answer.proofs.EchoLaws.{length-behind-header, no_session, with_session}
use Rattle.answer.proofs.answer.echo_session_id.Goals as goal

pub put_session_id-requires : goal.put_session_id-requires
put_session_id-requires c =
    let n = length-behind-header c.args.m.now in
    let e = ap length (with_session c.args.m.now c.args.echo c.if-echo.true) in
    (omega arith, omega (arith, c.requires.2))

pub returns-then-echo : goal.returns-then-echo
returns-then-echo c = let x = c.args in appended-same (with_session x.m.now x.echo c.if-echo.true) c.put_session_id.ensures

pub returns-else-echo : goal.returns-else-echo
returns-else-echo c = let x = c.args in appended-same (no_session x.m.now x.echo c.if-echo.false) (appended_nothing _ (omega (arith, c.requires.2)))
