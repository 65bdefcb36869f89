-- `reader::visit::joined` meets its contract, by cases. Assumes nothing.
use mathlib.Core.Path.{sym, ap, ap₂, ◌∙◌}
use Rattle.paper.specs.Reader.{join}
use Rattle.reader.proofs.VisitLaws.{join-kept}
use Rattle.reader.proofs.visit.joined.Goals as goal

pub returns-in-Clean-default : goal.returns-in-Clean-default
unfolding join
returns-in-Clean-default c = sym (ap (λ v. join v c.args.b) c.in-Clean-default.is-0)

pub returns-in-Unsupported-Fault : goal.returns-in-Unsupported-Fault
unfolding join
returns-in-Unsupported-Fault c = c.in-Unsupported-Fault.is-1 ∙ sym (ap₂ join c.in-Unsupported-Fault.is-0 c.in-Unsupported-Fault.is-1)

pub returns-in_default : goal.returns-in_default
returns-in_default c = c.in_default.is-0 ∙ join-kept c.args.b c.in_default.not-Fault-1 ∙ ap (λ v. join v c.args.b) (sym c.in_default.is-0)

pub returns-in_default-2 : goal.returns-in_default-2
unfolding join
returns-in_default-2 c = c.in_default.is-0 ∙ sym (ap (λ v. join v c.args.b) c.in_default.is-0)
