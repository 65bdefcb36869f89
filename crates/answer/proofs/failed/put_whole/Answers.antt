-- `answer::failed::put_whole` meets its contract: the cursor reads the AVP at the front, whose length is right. Assumes nothing.
use mathlib.Core.Path.{ap}
use native.Mathlib.Omega.{arith}
use lib.ListN.{length}
use Rattle.avp.proofs.WriteLaws.{appended-same}
use Rattle.answer.proofs.EchoLaws.{data_most}
use Rattle.answer.proofs.FailedLaws.{front_inside, front_received, front_item}
use Rattle.answer.proofs.failed.put_whole.Goals as goal

pub unreachable-requires : goal.unreachable-requires
unreachable-requires c = front_item _ c.new.ensures c.requires.1 c.next.ensures c.in_default.not-Item

pub data-requires : goal.data-requires
data-requires c = front_inside _ c.new.ensures c.in-Item.ensures

pub put_as_received-requires : goal.put_as_received-requires
put_as_received-requires c =
    let e = ap length (front_received c.args.s.now c.new.ensures c.in-Item.ensures c.key.ensures c.data.ensures) in
    let d = ap length c.data.ensures in
    let m = data_most c.args.s.now c.in-Item.avp in
    (omega arith, omega arith)

pub returns : goal.returns
returns c =
    appended-same (front_received _ c.new.ensures c.in-Item.ensures c.key.ensures c.data.ensures) c.put_as_received.ensures
