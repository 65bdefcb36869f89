-- `get_cut` meets its contract. The loop's invariant: `v` is the number that the bytes read so far are.
-- Assumes nothing.
use mathlib.Core.Path.{◌≡◌}
use Prim.Native.Nat.{◌^◌, ◌<◌}
use Rattle.wire.specs.Number.{num_at}
use Rattle.wire.proofs.number.get_cut.Given as goal

abbrev pub invariant-loop-k : goal.invariant-loop-k
invariant-loop-k l = (l.v ≡ num_at l.k l.s l.at) × (l.v < 256 ^ l.k)
