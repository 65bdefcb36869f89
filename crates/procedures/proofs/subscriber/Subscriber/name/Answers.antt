-- `Subscriber::name` meets its contract. The name lies inside the record.
-- Assumes nothing.
use mathlib.Core.Path.{◌∙◌}
use Rattle.paper.specs.Table.{name_of}
use Rattle.procedures.specs.Values.{bytes_of}
use Rattle.procedures.proofs.NodeLaws.{name-inside}
use Rattle.procedures.proofs.subscriber.Subscriber.name.Goals as goal

pub counted-requires : goal.counted-requires
counted-requires c = rw c.name_at.ensures (name-inside c.args.node (bytes_of c.args.self) c.args.self.right)

pub returns : goal.returns
unfolding name_of
returns c = c.counted.ensures ∙ rw c.name_at.ensures
