-- `correction_line` meets its contract: the table is corrected, and the line has the number.
-- Assumes nothing.
use Rattle.dymosaw.proofs.DeskLaws.{corrected-turn}
use Rattle.dymosaw.proofs.desk.correction_line.Goals as goal

pub returns : goal.returns
returns c = corrected-turn c.args.table.now c.args.frame.now c.dymosaw_correct-code.ensures c.plain.ensures
