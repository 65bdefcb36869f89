-- `avp::write::Writer::put_head` meets its contract. Assumes nothing.
use mathlib.Core.Path.{ap, ◌∙◌}
use Prim.Native.Nat.{ℕ, ◌+◌, ◌*◌}
use native.Mathlib.Omega.{arith}
use Rattle.wire.specs.Number.{be}
use Rattle.paper.specs.Avp.{head_size}
use Rattle.paper.proofs.AvpLaws.{head_size-least, head_size-most}
use Rattle.paper.proofs.WrittenLaws.{head_bytes, length_head}
use Rattle.avp.proofs.WriteLaws.{flags-and-length, length_field, appended_then, appended-same}
use Rattle.avp.proofs.write.Writer.put_head.Goals as goal

pub put_u32-requires : goal.put_u32-requires
put_u32-requires c = let l = head_size-least c.args.flags in omega (arith, (rw length_head at c.requires.1))

pub overflow_add-head_size : goal.overflow_add-head_size
overflow_add-head_size c = let m = head_size-most c.args.flags in omega arith

pub overflow_cast-head_size : goal.overflow_cast-head_size
overflow_cast-head_size c = let m = head_size-most c.args.flags in omega arith

pub overflow_add-flags : goal.overflow_add-flags
overflow_add-flags c = let m = head_size-most c.args.flags in omega arith

pub put_u32-requires-2 : goal.put_u32-requires-2
put_u32-requires-2 c =
    let l = head_size-least c.args.flags in
    omega (arith, (rw length_head at c.requires.1), c.put_u32.ensures.size, c.put_u32.ensures.wrote.next)

pub put_vendor-requires : goal.put_vendor-requires
put_vendor-requires c =
    let f = length_field c.args.flags c.args.key.vendor in
    omega (arith, (rw length_head at c.requires.1), c.put_u32.ensures.size, c.put_u32.ensures.wrote.next, c.put_u32-2.ensures.size, c.put_u32-2.ensures.wrote.next)

pub returns : goal.returns
unfolding head_bytes
returns c =
    let a = c.args in
    let m = head_size-most a.flags in
    let e = ap (λ (k : ℕ). be 4 (a.flags * 16777216 + (k + a.n))) c.head_size.ensures ∙ flags-and-length a.flags (head_size a.flags + a.n) (omega arith) (omega arith) in
    appended_then c.put_u32.ensures (appended_then (appended-same e c.put_u32-2.ensures) c.put_vendor.ensures)
