-- 01's "Worked by hand (P: proved)": one claim over the table of cases, which antt computes.
-- Assumes nothing.
use mathlib.Core.Path.{refl}
use Rattle.paper.specs.Worked.{AsWorked}
use Rattle.paper.proofs.Everything.{everything}

pub as_worked : AsWorked
unfolding everything
as_worked = refl
