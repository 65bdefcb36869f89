-- `answer::answer::put_answer` meets its contract: the AVPs behind 20 bytes, then the header in front of them. Assumes nothing.
use mathlib.Core.List.{List}
use Prim.Native.Nat.{ℕ, ◌+◌, ◌≤◌}
use native.Mathlib.Omega.{arith}
use borrow.Author.Rules.{rules}
use lib.ListN.{length}
use Rattle.paper.specs.Layout.{least_request, least_answer, longest_answer}
use Rattle.paper.specs.Answer.{Reply, reply_avps, answer}
use Rattle.paper.specs.Shown.{reply_of}
use Rattle.wire.specs.Put.{Wrote}
use Rattle.answer.specs.Ask.{said}
use Rattle.answer.specs.Parts.{header_bytes}
use Rattle.paper.proofs.AnswerParts.{length-answer}
use Rattle.answer.proofs.AnswerLaws.{wrote-answer}
use Rattle.answer.proofs.answer.put_answer.Goals as goal

-- its AVPs leave room for the header and 60 bytes more
room : (m host realm : List ℕ) (y : Reply) {n : ℕ} → least_request ≤ length m → least_answer ≤ n → length (answer m host realm y) ≤ longest_answer
    → 20 + (length (reply_avps m host realm y) + 60) ≤ n
room m host realm y h b p = let l = length-answer m host realm y h in omega arith

pub put_avps-requires : goal.put_avps-requires
put_avps-requires c = record { given = c.requires.given; room = room _ _ _ _ c.requires.given.least c.requires.buffer c.requires.short }

pub flags-requires : goal.flags-requires
flags-requires c = c.requires.given.least

pub put_header-requires : goal.put_header-requires
put_header-requires c =
    let b = c.requires.buffer in
    let p = c.requires.short in
    let l = length-answer c.args.m.now c.args.own.host.now c.args.own.realm.now (said c.args.m.now c.args.reply) c.requires.given.least in
    (omega arith, c.requires.given.least, omega (arith, c.put_avps.ensures.wrote.next))

pub returns : goal.returns
unfolding reply_of
returns c =
    let x = c.args in
    let b = c.requires.buffer in
    let s = c.put_avps.ensures.same in
    let h = c.put_header.ensures in
    let u : Wrote c.put_avps.new.out.out.now 0 (header_bytes c.put_avps.new.out.at c.flags.result x.m.now) c.put_header.new.out c.put_header.result = search (rules, s, h) in
    wrote-answer x.m.now x.own.host.now x.own.realm.now (said x.m.now x.reply) c.requires.given.least (omega arith) c.flags.ensures c.put_avps.ensures.wrote u
