-- `avp::cursor::with_padding` meets its contract. Assumes nothing.
use native.Mathlib.Omega.{arith}
use Rattle.paper.specs.Avp.{padded}
use Rattle.avp.proofs.cursor.with_padding.Goals as goal

pub returns : goal.returns
unfolding padded
returns c = omega arith
