-- `request::tests::missing` meets its contract. Assumes nothing.
use Rattle.request.proofs.TestLaws.{missing_answers}
use Rattle.request.proofs.tests.missing.Goals as goal

pub returns : goal.returns
returns c = λ m. rw c.refuse.ensures (missing_answers m c.args.key c.is_four-four.ensures c.lookup.ensures)
