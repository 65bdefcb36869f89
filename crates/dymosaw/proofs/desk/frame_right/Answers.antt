-- `frame_right` meets its contract: a frame without its head is not right.
-- Assumes nothing.
use Rattle.dymosaw.proofs.DeskLaws.{frame-short}
use Rattle.dymosaw.proofs.desk.frame_right.Goals as goal

pub returns-then-frame-lt-DESK_HEAD : goal.returns-then-frame-lt-DESK_HEAD
returns-then-frame-lt-DESK_HEAD c = frame-short c.args.frame.now c.if-frame-lt-DESK_HEAD.true
