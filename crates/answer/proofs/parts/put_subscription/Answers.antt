-- `answer::parts::put_subscription` meets its contract. Assumes nothing.
use mathlib.Core.Bool.{true}
use native.Mathlib.Omega.{arith}
use Rattle.avp.proofs.WriteLaws.{head_size_for, appended_then, appended-same, group_ask, appended_group}
use Rattle.answer.proofs.PartLaws.{number_3gpp, restriction_most, length-ambr, subscription-fours, subscription-item}
use Rattle.answer.proofs.parts.put_subscription.Goals as goal

pub open_group-start-requires : goal.open_group-start-requires
open_group-start-requires c = let h = head_size_for 10415 true in omega arith

pub put_number-requires : goal.put_number-requires
put_number-requires c =
    let h = head_size_for 10415 true in
    let o = c.open_group-start.ensures.opened in
    rw number_3gpp (omega (arith, o.at, o.size))

pub put_restriction-requires : goal.put_restriction-requires
put_restriction-requires c =
    let h = head_size_for 10415 true in
    let o = c.open_group-start.ensures.opened in
    let n = rw number_3gpp at c.put_number.ensures.wrote.next in
    omega (arith, o.at, o.size, n, c.put_number.ensures.size)

pub put_ambr-requires : goal.put_ambr-requires
put_ambr-requires c =
    let h = head_size_for 10415 true in
    let o = c.open_group-start.ensures.opened in
    let n = rw number_3gpp at c.put_number.ensures.wrote.next in
    let r = restriction_most c.args.subscription.restriction in
    omega (arith, o.at, o.size, n, c.put_number.ensures.size, c.put_restriction.ensures.wrote.next, c.put_restriction.ensures.size)

pub close_group-requires : goal.close_group-requires
close_group-requires c =
    let h = head_size_for 10415 true in
    let o = c.open_group-start.ensures in
    let x = c.args.subscription in
    let n = rw number_3gpp at c.put_number.ensures.wrote.next in
    let r = restriction_most x.restriction in
    let m = length-ambr x.uplink x.downlink in
    group_ask 10415 o.start o.opened (appended_then c.put_number.ensures (appended_then c.put_restriction.ensures c.put_ambr.ensures))
    (omega (arith, o.start, o.opened.at, n, c.put_restriction.ensures.wrote.next, c.put_ambr.ensures.wrote.next))

pub returns : goal.returns
returns c =
    let o = c.open_group-start.ensures in
    let x = c.args.subscription in
    appended-same (subscription-item x.restriction x.uplink x.downlink)
    (appended_group 10415 1400 _ (subscription-fours x.restriction x.uplink x.downlink) o.start o.opened
    (appended_then c.put_number.ensures (appended_then c.put_restriction.ensures c.put_ambr.ensures)) c.close_group.ensures)
