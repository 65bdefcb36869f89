-- `avp::write::written_size` meets its contract. Assumes nothing.
use native.Mathlib.Omega.{arith}
use Rattle.paper.proofs.AvpLaws.{head_size-most}
use Rattle.avp.proofs.write.written_size.Goals as goal

pub overflow_add-head_size : goal.overflow_add-head_size
overflow_add-head_size c = let m = head_size-most c.flags_for.result in omega arith

pub with_padding-requires : goal.with_padding-requires
with_padding-requires c = let m = head_size-most c.flags_for.result in omega arith
