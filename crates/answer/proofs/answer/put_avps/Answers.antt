-- `answer::answer::put_avps` meets its contract: the parts one after another. Assumes nothing.
use mathlib.Core.Bool.{Bool}
use mathlib.Core.List.{List}
use Prim.Native.Nat.{ℕ, ◌+◌, ◌≤◌}
use native.Mathlib.Omega.{arith}
use lib.ListN.{length}
use Rattle.std.specs.Prelude.{Option}
use Rattle.avp.proofs.WriteLaws.{appended_then, appended-same}
use Rattle.paper.specs.Answer.{result_item, failed_item, reply_avps}
use Rattle.paper.specs.Shown.{verdict_of, failed_in, extra_of, reply_of}
use Rattle.paper.specs.declared.Verdict.{Verdict}
use Rattle.paper.specs.declared.Failed.{Failed}
use Rattle.paper.specs.declared.Extra.{Extra}
use Rattle.answer.specs.Parts.{session_echo, proxy_echo, own_items}
use Rattle.answer.proofs.FailedLaws.{shown-within}
use Rattle.answer.proofs.AnswerLaws.{reply_parts, length_parts}
use Rattle.answer.proofs.answer.put_avps.Goals as goal

-- the `requires`, part by part
room : (m host realm : List ℕ) (v : Verdict) (f : Option Failed) (x : Option Extra) (echo : Bool) (at : ℕ) {n : ℕ}
    → at + (length (reply_avps m host realm (reply_of m v f x echo)) + 60) ≤ n
    → at + (length (session_echo m echo) + (length (result_item (verdict_of v)) + (length (own_items host realm) + (length (failed_item (failed_in m f)) + (length (extra_of x) + length (proxy_echo m echo))))) + 60) ≤ n
room m host realm v f x echo at h = let l = length_parts m host realm v f x echo in omega arith

pub echo_session_id-requires : goal.echo_session_id-requires
echo_session_id-requires c =
    let g = c.requires.given in
    (g.least, g.most, omega (arith, room _ _ _ _ _ _ _ _ c.requires.room))

pub put_result-requires : goal.put_result-requires
put_result-requires c =
    let p = c.echo_session_id.ensures in
    omega (arith, room _ _ _ _ _ _ _ _ c.requires.room, p.wrote.next, p.size)

pub put_own-requires : goal.put_own-requires
put_own-requires c =
    let g = c.requires.given in
    let p = c.echo_session_id.ensures in
    let q = c.put_result.ensures in
    (g.named, g.ruled, omega (arith, room _ _ _ _ _ _ _ _ c.requires.room, p.wrote.next, p.size, q.wrote.next, q.size))

pub put_failed-requires : goal.put_failed-requires
put_failed-requires c =
    let g = c.requires.given in
    let w = shown-within (failed_in c.args.m.now c.args.reply.failed) in
    let p = c.echo_session_id.ensures in
    let q = c.put_result.ensures in
    let r = c.put_own.ensures in
    (g.most, g.readable, omega (arith, room _ _ _ _ _ _ _ _ c.requires.room, p.wrote.next, p.size, q.wrote.next, q.size, r.wrote.next, r.size))

pub put_extra-requires : goal.put_extra-requires
put_extra-requires c =
    let p = c.echo_session_id.ensures in
    let q = c.put_result.ensures in
    let r = c.put_own.ensures in
    let t = c.put_failed.ensures in
    omega (arith, room _ _ _ _ _ _ _ _ c.requires.room, p.wrote.next, p.size, q.wrote.next, q.size, r.wrote.next, r.size, t.wrote.next, t.size)

pub echo_proxy_infos-requires : goal.echo_proxy_infos-requires
echo_proxy_infos-requires c =
    let g = c.requires.given in
    let p = c.echo_session_id.ensures in
    let q = c.put_result.ensures in
    let r = c.put_own.ensures in
    let t = c.put_failed.ensures in
    let u = c.put_extra.ensures in
    (g.least, g.most, omega (arith, room _ _ _ _ _ _ _ _ c.requires.room, p.wrote.next, p.size, q.wrote.next, q.size, r.wrote.next, r.size, t.wrote.next, t.size, u.wrote.next, u.size))

pub returns : goal.returns
returns c =
    let x = c.args in
    appended-same (reply_parts x.m.now x.own.host.now x.own.realm.now x.reply.verdict x.reply.failed x.reply.extra x.reply.echo)
    (appended_then c.echo_session_id.ensures
    (appended_then c.put_result.ensures
    (appended_then c.put_own.ensures
    (appended_then c.put_failed.ensures (appended_then c.put_extra.ensures c.echo_proxy_infos.ensures)))))
