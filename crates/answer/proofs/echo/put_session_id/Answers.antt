-- `answer::echo::put_session_id` meets its contract. Assumes nothing.
use mathlib.Core.Path.{ap}
use native.Mathlib.Omega.{arith}
use lib.ListN.{length}
use Rattle.avp.proofs.FindLaws.{lies-inside, found-lies}
use Rattle.avp.proofs.WriteLaws.{length-written, appended-same, appended_nothing}
use Rattle.answer.proofs.EchoLaws.{echo-found, echo-nothing, data_most}
use Rattle.answer.proofs.echo.put_session_id.Goals as goal

pub data-requires : goal.data-requires
data-requires c = lies-inside (found-lies _ _ _ c.in-Some.ensures)

pub put_avp-requires : goal.put_avp-requires
put_avp-requires c =
    let d = c.data.ensures in
    let e = ap length (echo-found c.args.s.now c.in-Some.ensures d) in
    let f = rw length-written at e in
    let n = ap length d in
    let m = data_most c.args.s.now c.in-Some.a in
    (omega arith, rw length-written (omega arith))

pub returns-in-Some : goal.returns-in-Some
returns-in-Some c =
    appended-same (echo-found _ c.in-Some.ensures c.data.ensures) c.put_avp.ensures

pub returns-in_default : goal.returns-in_default
returns-in_default c = appended-same (echo-nothing _ c.in_default.ensures) (appended_nothing _ (omega (arith, c.requires.1)))
