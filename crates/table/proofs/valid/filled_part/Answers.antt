-- `filled_part` meets its contract: between the windows is within the range, then zero.
-- Assumes nothing.
use Rattle.std.proofs.Common.{arith}
use Rattle.table.specs.Bounds.{first_of}
use Rattle.table.proofs.BoundLaws.{lent_window}
use Rattle.table.proofs.valid.filled_part.Goals as goal

pub returns : goal.returns
returns c =
    let a = c.args in
    let p = c.requires in
    rw (c.between_bounds.ensures, c.as_flattened-low.ensures.value, c.as_flattened-high.ensures.value) (lent_window a.at a.most a.n (first_of a.range.low.now) (first_of a.range.high.now) a.r.now a.range.low.now a.range.high.now (omega (arith, c.told-r, p.0)) p.1 p.2 a.range.low_bounds a.range.high_bounds)
