-- `request::noted::Noted::find_top` meets its contract. Assumes nothing.
use Rattle.request.specs.Profile.{key_at}
use Rattle.request.proofs.PlaceLaws.{found-fits, found_spot, found_no_spot}
use Rattle.request.proofs.HeldLaws.{found_top}
use Rattle.request.proofs.noted.Noted.find_top.Goals as goal

pub find_noted-requires : goal.find_noted-requires
find_noted-requires c = rw c.avps_of-list.ensures.bytes c.args.self.now.noted

pub returns-in_err-a : goal.returns-in_err-a
returns-in_err-a c =
    let l = c.avps_of-list.ensures in
    rw c.from_residual.ensures (found_top _ (key_at c.args.key) c.args.self.now.whole l.at l.bytes (found_no_spot _ _ _ _ c.in_err-a.ensures))

pub spot_of-requires : goal.spot_of-requires
spot_of-requires c = found-fits _ _ _ _ c.in_ok-a.ensures c.avps_of-list.result.fits

pub returns : goal.returns
returns c =
    let l = c.avps_of-list.ensures in
    found_top _ (key_at c.args.key) c.args.self.now.whole l.at l.bytes (found_spot _ _ _ _ c.in_ok-a.ensures c.spot_of.ensures)
