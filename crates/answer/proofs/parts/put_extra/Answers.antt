-- `answer::parts::put_extra` meets its contract. Assumes nothing.
use mathlib.Core.Path.{ap}
use native.Mathlib.Omega.{arith}
use lib.ListN.{length}
use Rattle.avp.proofs.WriteLaws.{appended-same, appended_nothing}
use Rattle.answer.proofs.PartLaws.{extra-nothing, extra_ula, extra_pua}
use Rattle.answer.proofs.parts.put_extra.Goals as goal

pub put_ula-requires : goal.put_ula-requires
put_ula-requires c = let e = ap length (extra_ula c.in-Some-Ula.is (rw c.in-Some-Ula.is at c.in-Some-Ula.field-0-is)) in omega arith

pub put_number-requires : goal.put_number-requires
put_number-requires c = let e = ap length (extra_pua c.in-Some-Pua.is (rw c.in-Some-Pua.is at c.in-Some-Pua.field-0-is)) in omega arith

pub returns-in-None : goal.returns-in-None
returns-in-None c = appended-same (extra-nothing c.in-None.is) (appended_nothing _ (omega arith))

pub returns-in-Some-Ula : goal.returns-in-Some-Ula
returns-in-Some-Ula c = appended-same (extra_ula c.in-Some-Ula.is (rw c.in-Some-Ula.is at c.in-Some-Ula.field-0-is)) c.put_ula.ensures

pub returns-in-Some-Pua : goal.returns-in-Some-Pua
returns-in-Some-Pua c = appended-same (extra_pua c.in-Some-Pua.is (rw c.in-Some-Pua.is at c.in-Some-Pua.field-0-is)) c.put_number.ensures
