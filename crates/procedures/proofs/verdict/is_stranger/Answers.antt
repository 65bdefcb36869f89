-- `procedures::verdict::is_stranger` meets its contract. The sender is neither of the two nodes.
-- Assumes nothing.
use Rattle.paper.specs.Procedures.{stranger}
use Rattle.procedures.proofs.verdict.is_stranger.Goals as goal

pub returns : goal.returns
unfolding stranger
returns c = rw (c.is_sender.ensures, c.is_sender-2.ensures)
