-- The proof of the cycle of calls {put_decimal}: the digits before the last, then the last.
-- Assumes nothing.
use Rattle.std.proofs.Common.{sym, arith}
use Rattle.wire.proofs.PutLaws.{wrote_then, wrote-same}
use Rattle.dymosaw.proofs.DecimalLaws.{decimal-one, decimal-more, one_digit, more-digits}
use Rattle.dymosaw.proofs.line.+put_decimal.Goals as goal

pub put_bytes-requires : goal.put_bytes-requires
put_bytes-requires t c =
    let d = one_digit c.args.n c.if-n-lt10.true in
    omega arith

pub returns-then-n-lt10 : goal.returns-then-n-lt10
returns-then-n-lt10 t c = wrote-same (sym (decimal-one c.args.n c.if-n-lt10.true)) c.put_bytes.ensures

pub put_decimal-last-requires : goal.put_decimal-last-requires
put_decimal-last-requires t c =
    let d = more-digits c.args.n c.if-n-lt10.false in
    (omega arith, omega arith)

pub put_bytes-requires-2 : goal.put_bytes-requires-2
put_bytes-requires-2 t c =
    let d = more-digits c.args.n c.if-n-lt10.false in
    omega (arith, c.put_decimal-last.ensures.next)

pub returns : goal.returns
returns t c = wrote-same (sym (decimal-more c.args.n c.if-n-lt10.false)) (wrote_then (omega arith) c.put_decimal-last.ensures c.put_bytes-2.ensures)
