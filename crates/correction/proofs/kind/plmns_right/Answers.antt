-- `plmns_right` meets its contract: past the counted PLMNs the rest is all zeros.
-- Assumes nothing.
use Rattle.std.proofs.Common.{◌+◌, ◌*◌, sym, ◌∙◌, rules}
use Rattle.paper.specs.Layout.{plmn_size}
use Rattle.correction.proofs.KindLaws.{zeros_past, few_plmns}
use Rattle.correction.proofs.kind.plmns_right.Goals as goal

pub returns-then-value-used : goal.returns-then-value-used
returns-then-value-used c =
    let v = c.args.value.now in
    let n = c.byte_or_zero-count.result in
    sym (few_plmns v n c.byte_or_zero-count.ensures c.if-count-gt-MOST_PLMNS.false ∙ zeros_past (1 + plmn_size * n) v (search rules))
