-- `store_correction` meets its contract: the value stored, then the change number that was read before, one more.
-- Assumes nothing.
use Rattle.std.proofs.Common.{ℕ, ◌+◌, ◌%◌, ◌^◌, ap, ◌∙◌}
use Rattle.paper.specs.Table.{change_of}
use Rattle.correction.proofs.StoreLaws.{stored-correction}
use Rattle.correction.proofs.store.store_correction.Goals as goal

pub returns : goal.returns
returns c =
    stored-correction _ _ _ _ _ _ _ c.requires.kind c.store_value.ensures
    (c.wrapping_add_u32.ensures.value ∙ ap (λ (n : ℕ). (n + 1) % 2 ^ 32) (c.change_number-change.ensures ∙ ap change_of c.at.ensures)) c.store_change.ensures
