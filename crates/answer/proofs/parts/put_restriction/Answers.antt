-- `answer::parts::put_restriction` meets its contract. Assumes nothing.
use native.Mathlib.Omega.{arith}
use Rattle.avp.proofs.WriteLaws.{appended-same, appended_nothing}
use Rattle.answer.proofs.PartLaws.{number_3gpp, no_restriction, some_restriction}
use Rattle.answer.proofs.parts.put_restriction.Goals as goal

pub put_number-requires : goal.put_number-requires
put_number-requires c = rw number_3gpp (omega arith)

pub returns-then-restriction-ne0 : goal.returns-then-restriction-ne0
returns-then-restriction-ne0 c = appended-same (some_restriction c.if-restriction-ne0.true) c.put_number.ensures

pub returns-else-restriction-ne0 : goal.returns-else-restriction-ne0
returns-else-restriction-ne0 c = appended-same (no_restriction c.if-restriction-ne0.false) (appended_nothing _ (omega arith))
