-- `request::noted::Noted::find_used` meets its contract. Assumes nothing.
use Rattle.request.specs.Profile.{key_at}
use Rattle.request.proofs.HeldLaws.{found-used, found_unused}
use Rattle.request.proofs.noted.Noted.find_used.Goals as goal

pub returns-then-uses : goal.returns-then-uses
returns-then-uses c = found-used _ (key_at c.args.key) c.uses.ensures c.if-uses.true c.find_top.ensures

pub returns-else-uses : goal.returns-else-uses
returns-else-uses c = found_unused _ (key_at c.args.key) c.uses.ensures c.if-uses.false
