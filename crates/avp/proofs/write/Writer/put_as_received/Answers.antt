-- `avp::write::Writer::put_as_received` meets its contract. Assumes nothing.
use mathlib.Core.Path.{sym, ap}
use Prim.Native.Nat.{ℕ, ◌-◌}
use native.Mathlib.Omega.{arith}
use lib.ListN.{length, replicate}
use Rattle.paper.proofs.AvpLaws.{padded-least}
use Rattle.paper.proofs.WrittenLaws.{length_head}
use Rattle.avp.proofs.WriteLaws.{length-received, received_parts, appended_then, appended-same}
use Rattle.avp.proofs.write.Writer.put_as_received.Goals as goal

pub put_head-requires : goal.put_head-requires
put_head-requires c =
    (c.requires.0, rw length_head (omega (arith, (rw length-received at c.requires.1))))

pub put_bytes-requires : goal.put_bytes-requires
put_bytes-requires c =
    let p = padded-least (length c.args.body.now) in
    omega (arith, (rw length-received at c.requires.1), (length_head c.args.key.code c.args.flags c.args.key.vendor (length c.args.body.now)), c.put_head.ensures.size, c.put_head.ensures.wrote.next)

pub overflow_sub-with_padding : goal.overflow_sub-with_padding
overflow_sub-with_padding c = let p = padded-least (length c.args.body.now) in omega arith

pub put_zeros-requires : goal.put_zeros-requires
put_zeros-requires c =
    let p = padded-least (length c.args.body.now) in
    omega (arith, (rw length-received at c.requires.1), (length_head c.args.key.code c.args.flags c.args.key.vendor (length c.args.body.now)), c.put_head.ensures.size, c.put_head.ensures.wrote.next, c.put_bytes.ensures.size, c.put_bytes.ensures.wrote.next)

pub returns : goal.returns
returns c =
    let a = c.args in
    let e = ap (λ (k : ℕ). replicate {A = ℕ} (k - length a.body.now) 0) c.with_padding.ensures in
    appended-same (sym (received_parts a.key.code a.flags a.key.vendor a.body.now))
    (appended_then c.put_head.ensures (appended_then c.put_bytes.ensures (appended-same e c.put_zeros.ensures)))
