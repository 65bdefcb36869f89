-- `procedures::carry::purge_if` meets its contract. The purge bits lie in the record.
-- Assumes nothing.
use Rattle.procedures.proofs.NodeLaws.{storable}
use Rattle.procedures.proofs.carry.purge_if.Goals as goal

pub store_purged-requires : goal.store_purged-requires
store_purged-requires c =
    let k = storable c.args.t.now c.args.i c.requires c.args.node in
    (k.inside, k.bits, rw c.purge_bit.ensures k.bit)
