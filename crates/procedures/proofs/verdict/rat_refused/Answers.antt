-- `procedures::verdict::rat_refused` meets its contract. By the bit of the RAT-Type, if it has one.
-- Assumes nothing.
use mathlib.Core.Path.{sym, ◌∙◌}
use Rattle.procedures.proofs.VerdictLaws.{rat_bit_small, refused-by_bit, refused_without_bit}
use Rattle.procedures.proofs.verdict.rat_refused.Goals as goal

pub bit_of-requires : goal.bit_of-requires
bit_of-requires c = rat_bit_small c.args.rat c.args.restriction c.in-Some.bit (sym c.rat_bit.ensures ∙ c.in-Some.is)

pub returns-in-Some : goal.returns-in-Some
returns-in-Some c = c.bit_of.ensures ∙ refused-by_bit c.args.rat c.args.restriction c.in-Some.bit (sym c.rat_bit.ensures ∙ c.in-Some.is)

pub returns-in-None : goal.returns-in-None
returns-in-None c = refused_without_bit c.args.rat c.args.restriction (sym c.rat_bit.ensures ∙ c.in-None.is)
