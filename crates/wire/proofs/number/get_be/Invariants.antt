-- `get_be` meets its contract. The loop's invariant: `v` is the number that the bytes read so far are.
-- Assumes nothing.
use mathlib.Core.Path.{◌≡◌}
use Prim.Native.Nat.{◌^◌, ◌<◌, ◌≤◌}
use Rattle.wire.specs.Number.{num_at}
use Rattle.wire.proofs.number.get_be.Given as goal

abbrev pub invariant-loop-b : goal.invariant-loop-b
invariant-loop-b l = (l.b-index ≤ l.width) × (l.v ≡ num_at l.b-index l.s l.at) × (l.v < 256 ^ l.b-index)
