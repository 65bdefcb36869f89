-- `procedures::nodes::same_name` meets its contract. Names are equal when their bytes are.
-- Assumes nothing.
use Rattle.paper.specs.Procedures.{same_name}
use Rattle.procedures.proofs.nodes.same_name.Goals as goal

pub returns : goal.returns
unfolding same_name
returns c = c.same_bytes.ensures
