-- `procedures::cancel::no_entries` meets its contract. The list of no entries is zeros.
-- Assumes nothing.
use Rattle.paper.specs.Procedures.{cancel_bytes}
use Rattle.procedures.proofs.cancel.no_entries.Goals as goal

pub returns : goal.returns
unfolding cancel_bytes
returns c = c.put_zeros.ensures.made
