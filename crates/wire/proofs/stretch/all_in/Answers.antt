-- `all_in` meets its contract: what the fold gathers over the bytes is the definition.
-- Assumes nothing.
use mathlib.Core.Path.{◌∙◌}
use mathlib.Core.Bool.{true, ◌&&◌}
use lib.Dec.{leb}
use Rattle.std.proofs.Common.{rules, tests}
use Rattle.std.proofs.lemmas.Iterator.{YieldsList-from_slice}
use Rattle.std.proofs.lemmas.Iterator.Consumers.{fold_from_yields_List}
use Rattle.wire.proofs.StretchLaws.{all_in-gathered}
use Rattle.wire.proofs.stretch.all_in.Goals as goal

pub returns : goal.returns
returns c =
    let a = c.args in
    let gathered = fold_from_yields_List _ (λ t x. (t && leb a.low x) && leb x a.high) true _ c.fold.ensures.ran (YieldsList-from_slice a.s.now cc) (λ t x r q k. search (rules, tests)) in
    gathered ∙ all_in-gathered a.low a.high true a.s.now
