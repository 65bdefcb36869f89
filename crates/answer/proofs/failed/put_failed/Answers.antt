-- `answer::failed::put_failed` meets its contract. Assumes nothing.
use mathlib.Core.Bool.{true}
use native.Mathlib.Omega.{arith}
use Rattle.std.specs.Prelude.{Some}
use Rattle.paper.specs.Shown.{failed_in}
use Rattle.avp.proofs.WriteLaws.{head_size_for, appended-same, appended_nothing, group_ask, appended_group}
use Rattle.answer.proofs.FailedLaws.{shown-fours, shown-most, failed_none, failed_some}
use Rattle.answer.proofs.failed.put_failed.Goals as goal

pub returns-in_default : goal.returns-in_default
returns-in_default c = appended-same (failed_none c.args.m.now c.in_default.is) (appended_nothing _ (omega (arith, c.requires.2)))

pub open_group-start-requires : goal.open_group-start-requires
open_group-start-requires c = let h = head_size_for 0 true in omega (arith, c.requires.2)

pub put_shown-requires : goal.put_shown-requires
put_shown-requires c =
    let r = rw c.in-Some.is at c.requires in
    let h = head_size_for 0 true in
    let o = c.open_group-start.ensures.opened in
    (r.0, r.1, omega (arith, r.2, o.at, o.size))

pub close_group-requires : goal.close_group-requires
close_group-requires c =
    let r = rw c.in-Some.is at c.requires.1 in
    let m = shown-most c.args.m.now c.in-Some.failed c.requires.0 r in
    let h = head_size_for 0 true in
    let o = c.open_group-start.ensures in
    group_ask 0 o.start o.opened c.put_shown.ensures (omega (arith, o.start, o.opened.at, c.put_shown.ensures.wrote.next))

pub returns-in-Some : goal.returns-in-Some
returns-in-Some c =
    let o = c.open_group-start.ensures in
    appended-same (failed_some c.args.m.now c.in-Some.is)
    (appended_group 0 279 _ (shown-fours (failed_in c.args.m.now (Some c.in-Some.failed))) o.start o.opened c.put_shown.ensures c.close_group.ensures)
