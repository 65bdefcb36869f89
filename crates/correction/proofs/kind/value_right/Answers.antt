-- `value_right` meets its contract: a number of no kind.
-- Assumes nothing.
use Rattle.std.proofs.Common.{sym}
use Rattle.correction.proofs.KindLaws.{right_of_no_kind}
use Rattle.correction.proofs.kind.value_right.Goals as goal

pub returns-in-Err : goal.returns-in-Err
returns-in-Err c = sym (right_of_no_kind c.args.code c.args.value.now c.in-Err.ensures.1)
