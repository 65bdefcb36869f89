-- `answer::parts::put_own` meets its contract. Assumes nothing.
use Rattle.avp.proofs.WriteLaws.{appended_then}
use Rattle.answer.proofs.parts.put_own.Goals as goal

pub returns : goal.returns
returns c = appended_then c.put_number.ensures (appended_then c.put_avp.ensures c.put_avp-2.ensures)
