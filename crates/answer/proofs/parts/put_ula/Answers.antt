-- `answer::parts::put_ula` meets its contract. Assumes nothing.
use native.Mathlib.Omega.{arith}
use Rattle.avp.proofs.WriteLaws.{appended_then, appended-same}
use Rattle.answer.proofs.PartLaws.{number_3gpp, ula_whole, ula_room}
use Rattle.answer.proofs.parts.put_ula.Goals as goal

pub put_subscription-requires : goal.put_subscription-requires
put_subscription-requires c =
    let r = ula_room c.in-Some.is in
    let n = rw number_3gpp at c.put_number.ensures.wrote.next in
    omega (arith, n, c.put_number.ensures.size)

pub returns-in-Some : goal.returns-in-Some
returns-in-Some c = appended-same (ula_whole c.in-Some.is) (appended_then c.put_number.ensures c.put_subscription.ensures)
