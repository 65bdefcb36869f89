-- `read_full`: what was read lies in the buffer, whose length stays.
use Rattle.std.proofs.Common.{length, ◌-◌, ◌≤◌}
use Rattle.desk.proofs.read_full.Given as goal

abbrev pub invariant-loop-got : goal.invariant-loop-got
invariant-loop-got l = l.got ≤ length l.buffer

abbrev pub decreases-loop-got : goal.decreases-loop-got
decreases-loop-got l = length l.initial.buffer - l.got
