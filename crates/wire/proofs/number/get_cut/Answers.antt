-- `get_cut` meets its contract. The loop's invariant: `v` is the number that the bytes read so far are.
-- Assumes nothing.
use native.Mathlib.Omega.{arith}
use Rattle.wire.specs.Number.{num_at}
use Rattle.wire.proofs.NumberLaws.{read_turn, num-room}
use borrow.Author.Rules.{rules}
use Rattle.wire.proofs.number.get_cut.Goals as goal

pub loop-k-init : goal.loop-k-init
unfolding num_at
loop-k-init c = search rules

pub overflow_mul-v : goal.overflow_mul-v
overflow_mul-v c = omega (arith, num-room c.loop-k.k _ (omega arith) c.loop-k.invariant.1)

pub overflow_add-v : goal.overflow_add-v
overflow_add-v c = omega (arith, num-room c.loop-k.k _ (omega arith) c.loop-k.invariant.1)

pub loop-k-preserved : goal.loop-k-preserved
loop-k-preserved c =
    read_turn c.loop-k.k _ c.args.at _ c.byte_or_zero.ensures (omega arith) c.loop-k.invariant.0 c.loop-k.invariant.1
