-- `Subscriber::at` meets its contract. A record of a valid table is right, and a whole one.
-- Assumes nothing.
use Rattle.procedures.proofs.NodeLaws.{held_inside, held_right, held_long}
use Rattle.procedures.proofs.subscriber.Subscriber.at.Goals as goal

pub at-requires : goal.at-requires
at-requires c = held_inside c.args.t.now c.args.i c.requires

pub invariant_of-result : goal.invariant_of-result
invariant_of-result c =
    record {
      long = rw c.at.ensures (held_long c.args.t.now c.args.i c.requires);
      right = rw c.at.ensures (held_right c.args.t.now c.args.i c.requires);
    }
