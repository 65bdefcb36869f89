-- `right_purged` meets its contract: the three tests of the rule, joined otherwise.
-- Assumes nothing.
use mathlib.Core.Bool.{and_assoc}
use native.Mathlib.Nat.{div-one}
use Rattle.paper.specs.Table.{two_bits, purged_right}
use Rattle.table.proofs.valid.right_purged.Goals as goal

pub returns : goal.returns
unfolding purged_right two_bits
returns c = rw (and_assoc, div-one)
