-- `request::noted::Noted::terminal_avps` meets its contract. Assumes nothing.
use Rattle.request.proofs.HeldLaws.{terminal_frames, terminal_frames-nothing}
use Rattle.request.proofs.noted.Noted.terminal_avps.Goals as goal

pub returns : goal.returns
returns c = terminal_frames _ c.in-Some.ensures c.data.ensures

pub returns-in_default : goal.returns-in_default
returns-in_default c = terminal_frames-nothing _ c.find_used.ensures c.in_default.not-Some
