-- `procedures::carry::purge_ue` meets its contract. The table stays valid once the first purge bit is set.
-- Assumes nothing.
use mathlib.Core.Path.{◌∙◌}
use Rattle.std.specs.Prelude.{is_some, unwrap_or}
use Rattle.procedures.specs.declared.nodes.Node.TheVariants.{Mme}
use Rattle.procedures.proofs.NodeLaws.{held_purged}
use Rattle.procedures.proofs.carry.purge_ue.Goals as goal

pub purge_if-requires-2 : goal.purge_if-requires-2
purge_if-requires-2 c =
    held_purged c.args.t.now c.args.i c.requires _ Mme c.args.host.now (is_some c.args.flags) (unwrap_or c.args.flags 0) (c.is_purged-in_mme.ensures ∙ rw c.at-subscriber.ensures) c.purge_if.ensures
