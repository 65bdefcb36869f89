-- `request::noted::Noted::find_imei` meets its contract. Assumes nothing.
use Rattle.request.proofs.HeldLaws.{found_imei}
use Rattle.request.proofs.noted.Noted.find_imei.Goals as goal

pub returns : goal.returns
returns c = found_imei _ c.args.self.now.whole c.terminal_avps.ensures.same c.find.ensures
