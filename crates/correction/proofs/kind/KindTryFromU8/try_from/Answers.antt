-- `Kind::try_from` meets its contract: a number that no kind has.
-- Assumes nothing.
use Rattle.std.proofs.Common.{refl, rules}
use Rattle.correction.proofs.KindLaws.{no_kind}
use Rattle.correction.proofs.kind.KindTryFromU8.try_from.Goals as goal

pub returns-in_default : goal.returns-in_default
returns-in_default c = (refl, search (rules, no_kind))
