-- `Record::at` meets its contract: the record of that number behind the header.
-- Assumes nothing.
use native.Mathlib.Omega.{arith}
use Rattle.std.proofs.Common.{length, ap, ◌∙◌}
use Rattle.table.proofs.RecordLaws.{length-records, records-at}
use Rattle.table.proofs.record.Record.at.Goals as goal

pub bounds-records-i : goal.bounds-records-i
bounds-records-i c =
    let n = ap length c.records.ensures ∙ length-records c.args.t.now in
    omega (arith, c.requires)

pub returns : goal.returns
returns c = rw c.records.ensures (records-at c.args.t.now c.args.i _ (omega (arith, c.requires)))
