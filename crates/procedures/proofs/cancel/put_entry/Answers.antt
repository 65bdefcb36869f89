-- `procedures::cancel::put_entry` meets its contract. The head, the name and the zeros behind it, one write after another.
-- Assumes nothing.
use native.Mathlib.Omega.{arith}
use Rattle.wire.proofs.PutLaws.{wrote_then}
use Rattle.paper.specs.Procedures.{entry_bytes}
use Rattle.procedures.proofs.cancel.put_entry.Goals as goal

pub returns : goal.returns
unfolding entry_bytes
returns c =
    rw (← c.number.ensures, ← c.number-2.ensures)
    (wrote_then (omega arith) c.put_bytes-first.ensures
    (wrote_then (omega arith) c.put_bytes-behind.ensures c.put_zeros.ensures))
