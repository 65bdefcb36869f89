-- `procedures::carry::is_purged` meets its contract. The sender's name, and the node's bit of PUR-Flags.
-- Assumes nothing.
use mathlib.Core.Path.{◌≡◌}
use mathlib.Core.Bool.{true}
use Rattle.std.proofs.Common.{rules}
use Rattle.std.specs.Prelude.{MatchOption}
use Rattle.paper.specs.Avp.{bit}
use Rattle.paper.specs.Procedures.{purges}
use Rattle.procedures.proofs.NodeLaws.{told-is}
use Rattle.procedures.proofs.carry.is_purged.Goals as goal

pub returns : goal.returns
unfolding purges
returns c =
    let told : MatchOption c.args.flags (c.is_none_or-told.result ≡ true) (λ word. c.is_none_or-told.result ≡ bit c.purge_bit.result word) = search rules in
    rw (c.is_sender.ensures, ← c.purge_bit.ensures, told-is c.args.flags c.purge_bit.result told)
