-- `procedures::verdict::rat_bit` meets its contract. The array is the one of 01.
-- Assumes nothing.
use mathlib.Core.Path.{◌∙◌}
use borrow.Author.Tests.{lt-leb, le-leb}
use native.Mathlib.Omega.{arith}
use Rattle.paper.specs.Procedures.{rat_bits}
use Rattle.procedures.specs.Values.{bit_of_rat}
use Rattle.procedures.proofs.VerdictLaws.{got_at}
use Rattle.procedures.proofs.verdict.rat_bit.Goals as goal

pub returns-in_err-place : goal.returns-in_err-place
unfolding bit_of_rat
returns-in_err-place c =
    let below = c.in_err-place.ensures in
    c.from_residual.ensures ∙ rw (lt-leb 1000 c.args.rat (omega arith))

pub returns : goal.returns
unfolding bit_of_rat rat_bits
returns c =
    let place = c.in_ok-place.ensures in
    c.copied.ensures ∙ rw (le-leb 1000 c.args.rat place.0, ← place.1) (got_at rat_bits c.in_ok-place.place c.get.result c.get.ensures.lookup)
