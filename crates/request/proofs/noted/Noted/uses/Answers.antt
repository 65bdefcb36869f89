-- `request::noted::Noted::uses` meets its contract. Assumes nothing.
use Rattle.request.specs.Profile.{key_at}
use Rattle.request.proofs.HeldLaws.{uses-own, uses_nothing}
use Rattle.request.proofs.noted.Noted.uses.Goals as goal

pub returns-in-Some : goal.returns-in-Some
returns-in-Some c = uses-own _ (key_at c.args.key) c.args.self.now.own c.in-Some.is c.uses.ensures

pub returns-in-None : goal.returns-in-None
returns-in-None c = uses_nothing _ (key_at c.args.key) c.args.self.now.own c.in-None.is
