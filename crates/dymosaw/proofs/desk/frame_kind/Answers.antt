-- `frame_kind` meets its contract: "1 table, 2 request, 3 correction".
-- Assumes nothing.
use Rattle.std.proofs.Common.{sym, ◌∙◌, arith, rules}
use Rattle.dymosaw.specs.declared.desk.Kind.TheVariants.{Table, Request, Correction}
use Rattle.paper.proofs.DeskLaws.{frame_parts}
use Rattle.dymosaw.proofs.DeskLaws.{of_kind, no_kind, not_right}
use Rattle.dymosaw.proofs.desk.frame_kind.Goals as goal

pub returns-then-not-frame_right : goal.returns-then-not-frame_right
returns-then-not-frame_right c = not_right c.args.frame.now (sym c.frame_right.ensures ∙ c.if-not-frame_right.true)

pub bounds-frame-5 : goal.bounds-frame-5
bounds-frame-5 c = let l = (frame_parts c.args.frame.now (sym c.frame_right.ensures ∙ c.if-not-frame_right.false)).long in omega arith

pub returns-in-1 : goal.returns-in-1
returns-in-1 c = of_kind c.args.frame.now (sym c.frame_right.ensures ∙ c.if-not-frame_right.false) Table c.in-1.is

pub returns-in-2 : goal.returns-in-2
returns-in-2 c = of_kind c.args.frame.now (sym c.frame_right.ensures ∙ c.if-not-frame_right.false) Request c.in-2.is

pub returns-in-3 : goal.returns-in-3
returns-in-3 c = of_kind c.args.frame.now (sym c.frame_right.ensures ∙ c.if-not-frame_right.false) Correction c.in-3.is

pub returns-in_default : goal.returns-in_default
returns-in_default c = no_kind c.args.frame.now (sym c.frame_right.ensures ∙ c.if-not-frame_right.false) (search rules) (search rules) (search rules)
