-- `procedures::carry::register` meets its contract. The node's field and its purge bit lie in the record.
-- Assumes nothing.
use Rattle.procedures.proofs.NodeLaws.{storable}
use Rattle.procedures.proofs.carry.register.Goals as goal

pub store_node-requires : goal.store_node-requires
store_node-requires c =
    let k = storable c.args.t.now c.args.i c.requires.0 c.args.node in
    (k.inside, k.bits, rw c.name_at.ensures k.field, rw c.purge_bit.ensures k.bit, c.requires.1)
