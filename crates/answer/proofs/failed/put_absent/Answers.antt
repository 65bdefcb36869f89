-- `answer::failed::put_absent` meets its contract. Assumes nothing.
use mathlib.Core.Bool.{true}
use native.Mathlib.Omega.{arith}
use Rattle.paper.specs.Avp.{flags_for}
use Rattle.paper.proofs.AvpLaws.{head_size-most}
use Rattle.avp.proofs.WriteLaws.{appended-same}
use Rattle.answer.proofs.PartLaws.{number_size, empty_most}
use Rattle.answer.proofs.FailedLaws.{absent_four, absent_empty}
use Rattle.answer.proofs.failed.put_absent.Goals as goal

pub put_number-requires : goal.put_number-requires
put_number-requires c = let x = c.args in let h = head_size-most (flags_for x.key.vendor true) in rw number_size (omega arith)

pub put_avp-requires : goal.put_avp-requires
put_avp-requires c = let x = c.args in let n = empty_most x.key.vendor x.key.code in (omega arith, omega arith)

pub returns-then-four : goal.returns-then-four
returns-then-four c = appended-same (absent_four _ _ c.if-four.true) c.put_number.ensures

pub returns-else-four : goal.returns-else-four
returns-else-four c = appended-same (absent_empty _ _ c.if-four.false) c.put_avp.ensures
