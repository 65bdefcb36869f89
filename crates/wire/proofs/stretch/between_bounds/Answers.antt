-- `between_bounds` meets its contract: what the fold gathers over the bytes and their bounds is the definition.
-- Assumes nothing.
use mathlib.Core.Path.{◌∙◌}
use mathlib.Core.Bool.{true, ◌&&◌}
use lib.Dec.{leb}
use Rattle.std.proofs.Common.{rules, tests}
use Rattle.std.proofs.lemmas.Iterator.{YieldsList-from_slice, YieldsList-from_zip}
use Rattle.std.proofs.lemmas.Iterator.Consumers.{fold_from_yields_List}
use Rattle.wire.proofs.StretchLaws.{between-gathered}
use Rattle.wire.proofs.stretch.between_bounds.Goals as goal

pub returns : goal.returns
returns c =
    let a = c.args in
    let gathered =
    fold_from_yields_List _ (λ t p. (t && leb p.0.1 p.0.0) && leb p.0.0 p.1) true _ c.fold.ensures.ran
    (YieldsList-from_zip (YieldsList-from_zip (YieldsList-from_slice a.s.now cc) (YieldsList-from_slice a.low.now cc)) (YieldsList-from_slice a.high.now cc)) (λ t x r q k. search (rules, tests)) in
    gathered ∙ between-gathered a.low.now a.high.now true a.s.now c.requires.0 c.requires.1
