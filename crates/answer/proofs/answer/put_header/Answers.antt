-- `answer::answer::put_header` meets its contract. Assumes nothing.
use native.Mathlib.Omega.{arith}
use Rattle.wire.proofs.PutLaws.{wrote_then, wrote-same}
use Rattle.answer.proofs.AnswerLaws.{header_parts}
use Rattle.answer.proofs.answer.put_header.Goals as goal

pub returns : goal.returns
returns c =
    let p = c.requires in
    wrote-same (header_parts c.args.n c.args.flags c.args.m.now p.2 (omega arith))
    (wrote_then (omega arith) c.put-a.ensures (wrote_then (omega arith) c.put-b.ensures c.put_bytes.ensures))
