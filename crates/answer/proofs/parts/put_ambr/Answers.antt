-- `answer::parts::put_ambr` meets its contract. Assumes nothing.
use mathlib.Core.Bool.{true}
use native.Mathlib.Omega.{arith}
use Rattle.paper.specs.Profile.{bandwidth_uplink, bandwidth_downlink}
use Rattle.avp.proofs.WriteLaws.{head_size_for, appended_then, group_ask, appended_group}
use Rattle.answer.proofs.PartLaws.{number_3gpp, pair-fours}
use Rattle.answer.proofs.parts.put_ambr.Goals as goal

pub open_group-start-requires : goal.open_group-start-requires
open_group-start-requires c = let h = head_size_for 10415 true in omega arith

pub put_number-requires : goal.put_number-requires
put_number-requires c =
    let h = head_size_for 10415 true in
    let o = c.open_group-start.ensures.opened in
    rw number_3gpp (omega (arith, o.at, o.size))

pub put_number-requires-2 : goal.put_number-requires-2
put_number-requires-2 c =
    let h = head_size_for 10415 true in
    let o = c.open_group-start.ensures.opened in
    let n = rw number_3gpp at c.put_number.ensures.wrote.next in
    rw number_3gpp (omega (arith, o.at, o.size, n, c.put_number.ensures.size))

pub close_group-requires : goal.close_group-requires
close_group-requires c =
    let h = head_size_for 10415 true in
    let o = c.open_group-start.ensures in
    let n = rw number_3gpp at c.put_number.ensures.wrote.next in
    let k = rw number_3gpp at c.put_number-2.ensures.wrote.next in
    group_ask 10415 o.start o.opened (appended_then c.put_number.ensures c.put_number-2.ensures) (omega (arith, o.start, o.opened.at, n, k))

pub returns : goal.returns
returns c =
    let o = c.open_group-start.ensures in
    appended_group 10415 1435 _ (pair-fours bandwidth_uplink bandwidth_downlink c.args.uplink c.args.downlink) o.start o.opened (appended_then c.put_number.ensures c.put_number-2.ensures) c.close_group.ensures
