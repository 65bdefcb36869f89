-- `request::place::AvpList::find` meets its contract. Assumes nothing.
use Rattle.request.proofs.PlaceLaws.{found-fits, found_spot, found_no_spot}
use Rattle.request.proofs.place.AvpList.find.Goals as goal

pub returns-in_err-a : goal.returns-in_err-a
returns-in_err-a c = rw c.from_residual.ensures (found_no_spot _ _ _ _ c.in_err-a.ensures)

pub spot_of-requires : goal.spot_of-requires
spot_of-requires c = found-fits _ _ _ _ c.in_ok-a.ensures c.args.self.now.fits

pub returns : goal.returns
returns c = found_spot _ _ _ _ c.in_ok-a.ensures c.spot_of.ensures
