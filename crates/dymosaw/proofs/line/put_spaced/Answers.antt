-- `put_spaced` meets its contract: a space, then the number.
-- Assumes nothing.
use Rattle.std.proofs.Common.{arith}
use Rattle.paper.specs.Desk.{spaced}
use Rattle.wire.proofs.PutLaws.{wrote_then}
use Rattle.dymosaw.proofs.DecimalLaws.{spaced-length}
use Rattle.dymosaw.proofs.line.put_spaced.Goals as goal

pub put_bytes-next-requires : goal.put_bytes-next-requires
put_bytes-next-requires c = let l = spaced-length c.args.n in omega arith

pub put_decimal-requires : goal.put_decimal-requires
put_decimal-requires c = let l = spaced-length c.args.n in omega (arith, c.put_bytes-next.ensures.next)

pub returns : goal.returns
unfolding spaced
returns c =
    let l = spaced-length c.args.n in
    wrote_then (omega arith) c.put_bytes-next.ensures c.put_decimal.ensures
