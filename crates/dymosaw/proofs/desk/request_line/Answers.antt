-- `request_line` meets its contract: 01's outcome with the desk's own names and buffers.
-- Assumes nothing.
use Rattle.dymosaw.proofs.DeskLaws.{answered-turn}
use Rattle.dymosaw.proofs.desk.request_line.Goals as goal

pub returns : goal.returns
returns c =
    let x = c.args in
    answered-turn x.table.now x.request.now c.serve-served.result c.serve-served.ensures.comes_to c.answer_line.ensures
