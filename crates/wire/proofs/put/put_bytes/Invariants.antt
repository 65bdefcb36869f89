-- `put_bytes` meets its contract. The loop's invariant: the first `j` bytes of `src` stand at `at`.
-- Assumes nothing.
use mathlib.Core.Path.{◌≡◌}
use lib.ListN.{take}
use Rattle.wire.specs.Put.{put}
use Rattle.wire.proofs.put.put_bytes.Given as goal

abbrev pub invariant-loop-j : goal.invariant-loop-j
invariant-loop-j l = l.out ≡ put l.at (take l.j l.src) l.initial.out
