-- The proof of the cycle of calls {visit_avp, visit_list_by}, which Invariants.antt measures. Assumes nothing.
use Rattle.std.proofs.Common.{arith, refl, sym, ap, ◌+◌, ◌-◌, ◌∙◌, ⊎_elim}
use Rattle.dictionary.specs.declared.Kind.TheVariants.{Four, Eight, Any, Closed}
use Rattle.avp.proofs.StepLaws.{bad_place, bad_inside, item_falls}
use Rattle.reader.specs.Visit.{told_of}
use Rattle.reader.proofs.VisitLaws.{item-read, told_start, told-end, told_bad, told-turn, kind-looked-by, avp-unknown, avp_deep, avp-group, avp-sized}
use Rattle.reader.proofs.visit.+visit_avp_visit_list.Goals as goal

pub visit_avp-returns-then-left-eq0 : goal.visit_avp-returns-then-left-eq0
visit_avp-returns-then-left-eq0 g t c = sym (avp_deep _ _ _ _ _ c.requires.1 c.if-left-eq0.true (kind-looked-by (g.K.Kinds.kind c.args.kinds) c.args.a c.key.ensures c.in-Group.ensures))

pub visit_avp-returns-in-Unknown : goal.visit_avp-returns-in-Unknown
visit_avp-returns-in-Unknown g t c = avp-unknown _ _ _ _ _ c.requires.1 c.has_m.ensures c.unknown.ensures (kind-looked-by (g.K.Kinds.kind c.args.kinds) c.args.a c.key.ensures c.in-Unknown.ensures)

pub visit_avp-returns-in-Any : goal.visit_avp-returns-in-Any
visit_avp-returns-in-Any g t c =
    ⊎_elim
    (λ e. sym (avp-sized _ _ _ _ _ c.requires.1 Any refl (kind-looked-by (g.K.Kinds.kind c.args.kinds) c.args.a c.key.ensures (sym e ∙ c.of.ensures))))
    (λ e. sym (avp-sized _ _ _ _ _ c.requires.1 Closed refl (kind-looked-by (g.K.Kinds.kind c.args.kinds) c.args.a c.key.ensures (sym e ∙ c.of.ensures))))
    c.in-Any.is

pub visit_avp-returns-in-Four : goal.visit_avp-returns-in-Four
visit_avp-returns-in-Four g t c = c.sized.ensures ∙ sym (avp-sized _ _ _ _ _ c.requires.1 Four refl (kind-looked-by (g.K.Kinds.kind c.args.kinds) c.args.a c.key.ensures c.in-Four.ensures))

pub visit_avp-returns-in-Eight : goal.visit_avp-returns-in-Eight
visit_avp-returns-in-Eight g t c = c.sized-in-Eight.ensures ∙ sym (avp-sized _ _ _ _ _ c.requires.1 Eight refl (kind-looked-by (g.K.Kinds.kind c.args.kinds) c.args.a c.key.ensures c.in-Eight.ensures))

pub visit_avp-returns-else-left-eq0 : goal.visit_avp-returns-else-left-eq0
visit_avp-returns-else-left-eq0 g t c = c.visit_list_by.ensures ∙ ap (told_of (g.K.Kinds.kind c.args.kinds) (c.args.left - 1) (c.args.base + c.args.a.start)) c.data-inside.ensures ∙ sym (avp-group _ _ _ _ _ c.requires.1 (omega arith) (kind-looked-by (g.K.Kinds.kind c.args.kinds) c.args.a c.key.ensures c.in-Group.ensures))

pub visit_list_by-loop-told-init : goal.visit_list_by-loop-told-init
visit_list_by-loop-told-init g t c = told_start _ _ _ _ _ c.new-c.ensures

pub visit_list_by-returns-in-End : goal.visit_list_by-returns-in-End
visit_list_by-returns-in-End g t c = sym (told-end _ _ _ _ _ c.loop-told.told c.loop-told.invariant c.in-End.ensures)

pub visit_list_by-overflow_add-base : goal.visit_list_by-overflow_add-base
visit_list_by-overflow_add-base g t c =
    let p = bad_place _ _ c.in-Bad.ensures in
    let h = bad_inside _ _ c.in-Bad.ensures in
    omega arith

pub visit_list_by-returns-in-Bad : goal.visit_list_by-returns-in-Bad
visit_list_by-returns-in-Bad g t c = c.joined.ensures ∙ sym (told_bad _ _ _ _ _ c.loop-told.told c.loop-told.invariant c.in-Bad.ensures)

pub visit_list_by-visit_avp-requires : goal.visit_list_by-visit_avp-requires
visit_list_by-visit_avp-requires g t c κs o = (omega arith, (o, (omega arith, item-read _ _ c.in-Item.ensures)))

pub visit_list_by-loop-told-smaller : goal.visit_list_by-loop-told-smaller
visit_list_by-loop-told-smaller g t c = item_falls _ _ c.in-Item.ensures

pub visit_list_by-loop-told-preserved : goal.visit_list_by-loop-told-preserved
visit_list_by-loop-told-preserved g t c =
    told-turn _ _ _ _ _ c.loop-told.told c.visit_avp.result c.loop-told.invariant c.in-Item.ensures c.visit_avp.ensures c.joined-told.ensures
