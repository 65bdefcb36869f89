-- `avp::write::Writer::put_number` meets its contract: a number is written as a group of its four bytes. Assumes nothing.
use mathlib.Core.Path.{refl}
use native.Mathlib.Omega.{arith}
use Rattle.wire.specs.Number.{be}
use Rattle.avp.proofs.WriteLaws.{length-group, group_parts, appended_then, appended-same}
use Rattle.avp.proofs.write.Writer.put_number.Goals as goal

pub put_group_head-requires : goal.put_group_head-requires
put_group_head-requires c = (omega arith, omega (arith, (rw (length-group c.args.key.vendor c.args.key.code (be 4 c.args.v) refl) at c.requires)))

pub put_u32-requires : goal.put_u32-requires
put_u32-requires c =
    omega (arith, (rw (length-group c.args.key.vendor c.args.key.code (be 4 c.args.v) refl) at c.requires), c.put_group_head.ensures.size, c.put_group_head.ensures.wrote.next)

pub returns : goal.returns
returns c =
    appended-same (group_parts c.args.key.vendor c.args.key.code (be 4 c.args.v) refl) (appended_then c.put_group_head.ensures c.put_u32.ensures)
