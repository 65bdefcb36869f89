-- `right_plmns` meets its contract: the count, then the filled field, whose counted bytes are free.
-- Assumes nothing.
use borrow.Author.Tests.{lt-leb, le-leb}
use lib.ListN.{get_or}
use Rattle.std.proofs.Common.{rules, refl, ◌∙◌, ◌*◌}
use Rattle.wire.specs.Put.{part}
use Rattle.wire.proofs.NumberLaws.{bytes-part}
use Rattle.paper.specs.Layout.{plmn_count_at, plmns_at, plmn_size, most_plmns}
use Rattle.paper.specs.Table.{plmn_count_right, plmns_right}
use Rattle.table.proofs.BoundLaws.{free_bytes}
use Rattle.table.proofs.valid.right_plmns.Goals as goal

pub returns-then-n-le-MOST_PLMNS : goal.returns-then-n-le-MOST_PLMNS
unfolding plmn_count_right plmns_right
returns-then-n-le-MOST_PLMNS c =
    let r = c.args.r.now in
    let n = plmn_size * get_or r plmn_count_at 0 in
    let free = free_bytes (part plmns_at n r) (bytes-part plmns_at n r (λ i. search rules)) in
    c.filled_part.ensures ∙ rw (free, le-leb _ most_plmns c.if-n-le-MOST_PLMNS.true) refl

pub returns-else-n-le-MOST_PLMNS : goal.returns-else-n-le-MOST_PLMNS
unfolding plmn_count_right plmns_right
returns-else-n-le-MOST_PLMNS c = rw (lt-leb _ most_plmns c.if-n-le-MOST_PLMNS.false) refl
