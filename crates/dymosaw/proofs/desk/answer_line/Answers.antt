-- `answer_line` meets its contract: a refusal without an answer, a Result-Code, an Experimental-Result-Code.
-- Assumes nothing.
use Rattle.paper.specs.declared.Verdict.TheVariants.{Base, Experimental}
use Rattle.paper.specs.Desk.{answer_line}
use Rattle.dymosaw.proofs.DeskLaws.{refused-line, answered-line}
use Rattle.dymosaw.proofs.desk.answer_line.Goals as goal

pub returns-in-Err : goal.returns-in-Err
returns-in-Err c = refused-line _ c.in-Err.is c.from.ensures c.plain.ensures

pub returns-in-Base : goal.returns-in-Base
unfolding answer_line
returns-in-Base c = answered-line _ (Base _) c.in-Ok.is c.in-Base.is

pub returns-in-Experimental : goal.returns-in-Experimental
unfolding answer_line
returns-in-Experimental c = answered-line _ (Experimental _) c.in-Ok.is c.in-Experimental.is
