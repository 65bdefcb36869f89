-- `procedures::carry::is_cleared` meets its contract. By how the node is cancelled.
-- Assumes nothing.
use Rattle.procedures.specs.Values.{slot_of, bytes_of}
use Rattle.procedures.proofs.NodeLaws.{cleared-is}
use Rattle.procedures.proofs.carry.is_cleared.Goals as goal

pub returns : goal.returns
returns c = rw (c.is_some.ensures, c.is_registered.ensures) (cleared-is (slot_of c.args.node) c.args.how (bytes_of c.args.subscriber))
