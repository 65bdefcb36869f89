-- `request::noted::avps_of` meets its contract. Assumes nothing.
use Rattle.paper.proofs.StandsIn.{stretch-rest}
use Rattle.request.proofs.HeldLaws.{all_frames}
use Rattle.request.proofs.noted.avps_of.Goals as goal

pub returns-clause-framed : goal.returns-clause-framed
returns-clause-framed c = let m = c.args.m.now in all_frames m c.requires (stretch-rest 20 m)
