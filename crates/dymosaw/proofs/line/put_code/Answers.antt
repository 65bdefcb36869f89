-- `put_code` meets its contract: the code behind a space, with E where it is an Experimental one.
-- Assumes nothing.
use Rattle.std.proofs.Common.{length, sym, ap, arith}
use Rattle.wire.proofs.PutLaws.{wrote_then, wrote-same}
use Rattle.dymosaw.proofs.DecimalLaws.{code-plain, code_marked, marked_length}
use Rattle.dymosaw.proofs.line.put_code.Goals as goal

pub put_spaced-requires : goal.put_spaced-requires
put_spaced-requires c = let l = ap length (code-plain _ c.args.code c.if-not-experimental.true) in omega arith

pub returns-then-not-experimental : goal.returns-then-not-experimental
returns-then-not-experimental c = wrote-same (sym (code-plain _ c.args.code c.if-not-experimental.true)) c.put_spaced.ensures

pub put_bytes-next-requires : goal.put_bytes-next-requires
put_bytes-next-requires c = let l = marked_length _ c.args.code c.if-not-experimental.false in omega arith

pub put_decimal-requires : goal.put_decimal-requires
put_decimal-requires c =
    let l = marked_length _ c.args.code c.if-not-experimental.false in
    omega (arith, c.put_bytes-next.ensures.next)

pub returns : goal.returns
returns c =
    let l = marked_length _ c.args.code c.if-not-experimental.false in
    wrote-same (sym (code_marked _ c.args.code c.if-not-experimental.false)) (wrote_then (omega arith) c.put_bytes-next.ensures c.put_decimal.ensures)
