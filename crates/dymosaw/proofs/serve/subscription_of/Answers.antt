-- `subscription_of` meets its contract: the record lies in the table.
-- Assumes nothing.
use Rattle.dymosaw.proofs.ReplyLaws.{held_inside}
use Rattle.dymosaw.proofs.serve.subscription_of.Goals as goal

pub at-r-requires : goal.at-r-requires
at-r-requires c = held_inside c.requires
