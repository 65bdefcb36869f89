-- `avp::write::Writer::close_group` meets its contract. Assumes nothing.
use mathlib.Core.Path.{ap, ◌∙◌}
use mathlib.Core.Bool.{true}
use Prim.Native.Nat.{◌-◌}
use native.Mathlib.Omega.{arith}
use Rattle.paper.specs.Avp.{head_size, flags_for}
use Rattle.paper.proofs.WrittenLaws.{length_head}
use Rattle.avp.proofs.write.Writer.close_group.Goals as goal

pub put_group_head-requires : goal.put_group_head-requires
put_group_head-requires c =
    let x = c.args in
    let e = c.head_size.ensures ∙ ap head_size c.flags_for.ensures in
    let l = length_head x.key.code (flags_for x.key.vendor true) x.key.vendor (x.self.now.at - x.start - c.head_size.result) in
    (omega arith, omega arith)
