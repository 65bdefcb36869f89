-- What the C entries come to: their result and the buffers that they leave, as 01's outcome.
-- Assumes nothing.
use Rattle.std.specs.Prelude.{ℕ, List}
use Rattle.paper.specs.Correction.{Corrected}

-- the result and the table of `dymosaw_correct`
abbrev pub came_to : ℕ → List ℕ → Corrected
came_to n t = record { number = n; table = t }
