-- `avp::find::origin_host` meets its contract. Assumes nothing.
use mathlib.Core.Path.{◌∙◌}
use native.Mathlib.Omega.{arith}
use Rattle.avp.proofs.FindLaws.{host_of_short, host-behind-header}
use Rattle.avp.proofs.find.origin_host.Goals as goal

pub returns-then-m-lt-MESSAGE_HEADER : goal.returns-then-m-lt-MESSAGE_HEADER
returns-then-m-lt-MESSAGE_HEADER c = host_of_short _ (omega arith)

pub returns : goal.returns
returns c = c.found_data.ensures ∙ host-behind-header c.args.m.now
