-- `answer::parts::put_result` meets its contract. Assumes nothing.
use native.Mathlib.Omega.{arith}
use Rattle.avp.proofs.WriteLaws.{appended-same}
use Rattle.answer.proofs.PartLaws.{number-base, result-base}
use Rattle.answer.proofs.parts.put_result.Goals as goal

pub put_number-requires : goal.put_number-requires
put_number-requires c = rw number-base (omega arith)

pub returns-in-Base : goal.returns-in-Base
returns-in-Base c = appended-same (result-base c.in-Base.is) c.put_number.ensures
