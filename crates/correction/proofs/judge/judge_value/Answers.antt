-- `judge_value` meets its contract: each refusal is one law over the tests that were passed and the one that failed.
-- Assumes nothing.
use Rattle.std.proofs.Common.{◌∙◌}
use Rattle.correction.proofs.JudgeLaws.{sized_as, value_tested, size_differs, value_not-valid}
use Rattle.correction.proofs.judge.judge_value.Goals as goal

pub returns-then-not-sized : goal.returns-then-not-sized
returns-then-not-sized c = size_differs c.requires c.value_size.ensures c.if-not-sized.true

pub returns-then-not-right : goal.returns-then-not-right
returns-then-not-right c =
    value_not-valid c.requires (sized_as c.requires c.value_size.ensures c.if-not-sized.false) (value_tested c.requires c.value_right-right.ensures ∙ c.if-not-right.true)
