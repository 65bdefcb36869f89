-- `put_bytes` meets its contract. The loop's invariant: the first `j` bytes of `src` stand at `at`.
-- Assumes nothing.
use mathlib.Core.Path.{◌≡◌, refl, sym}
use native.Mathlib.Omega.{arith}
use lib.ListN.{length}
use lib.Seq.{take-length}
use Rattle.wire.proofs.PutLaws.{put-nil, copy_step}
use Rattle.wire.proofs.put.put_bytes.Goals as goal

pub loop-j-init : goal.loop-j-init
loop-j-init c = sym (put-nil _ _)

pub loop-j-preserved : goal.loop-j-preserved
loop-j-preserved c = copy_step _ _ _ _ _ c.loop-j-test.true c.requires c.loop-j.invariant

pub returns : goal.returns
returns c =
    let e : c.loop-j.j ≡ length c.args.src.now = omega arith in
    record { next = refl; made = rw (e, take-length) at c.loop-j.invariant }
