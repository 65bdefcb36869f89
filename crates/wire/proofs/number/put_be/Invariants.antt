-- `put_be` meets its contract. The loop's invariant: the bytes from place `k` on stand, and `w` is what is left of `v`.
-- Assumes nothing.
use mathlib.Core.Path.{◌≡◌}
use Prim.Native.Nat.{◌+◌, ◌-◌, ◌/◌, ◌^◌}
use Rattle.wire.specs.Number.{be}
use Rattle.wire.specs.Put.{put}
use Rattle.wire.proofs.number.put_be.Given as goal

abbrev pub invariant-loop-k : goal.invariant-loop-k
invariant-loop-k l = (l.out ≡ put (l.at + l.k) (be (l.width - l.k) l.v) l.initial.out) × (l.w ≡ l.v / 256 ^ (l.width - l.k))
