-- The measures of the cycle of calls {visit_avp, visit_list_by}. `visit_list_by` calls `visit_avp` at the same `left`, which calls `visit_list_by` at one less:
-- the measures are 2 * left for `visit_avp`, and 2 * left + 1 for `visit_list_by`.
-- The loop's invariant: what is told of the stretch is what was told so far, joined with what is told from the cursor on. Its measure is what is
-- left of the stretch. Assumes nothing.
use Rattle.std.proofs.Common.{◌≡◌, ◌+◌, ◌-◌, ◌*◌, length}
use Rattle.paper.specs.Reader.{join}
use Rattle.reader.specs.Visit.{told_of}
use Rattle.reader.proofs.VisitLaws.{told_from}
use Rattle.reader.proofs.visit.+visit_avp_visit_list.Given as goal

abbrev pub decreases-visit_avp : goal.decreases-visit_avp
decreases-visit_avp g l = 2 * l.left

abbrev pub decreases-visit_list_by : goal.decreases-visit_list_by
decreases-visit_list_by g l = 2 * l.left + 1

abbrev pub invariant-visit_list_by-loop-told : goal.invariant-visit_list_by-loop-told
invariant-visit_list_by-loop-told g l =
    told_of (g.K.Kinds.kind l.kinds) l.left l.base l.s ≡ join l.told (told_from (g.K.Kinds.kind l.kinds) l.left l.base l.s l.c.at)

abbrev pub decreases-visit_list_by-loop-told : goal.decreases-visit_list_by-loop-told
decreases-visit_list_by-loop-told g l = length l.s - l.c.at
