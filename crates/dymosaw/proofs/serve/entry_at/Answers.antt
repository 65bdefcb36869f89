-- `entry_at` meets its contract: an entry begins with the node's number.
-- Assumes nothing.
use Rattle.dymosaw.proofs.CountLaws.{entry_there, entry_unused}
use Rattle.dymosaw.proofs.serve.entry_at.Goals as goal

pub returns-then-cancel-at-gt0 : goal.returns-then-cancel-at-gt0
returns-then-cancel-at-gt0 c = entry_there _ _ c.if-cancel-at-gt0.true

pub returns-else-cancel-at-gt0 : goal.returns-else-cancel-at-gt0
returns-else-cancel-at-gt0 c = entry_unused _ _ c.if-cancel-at-gt0.false
