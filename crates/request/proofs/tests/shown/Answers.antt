-- `request::tests::shown` meets its contract. Assumes nothing.
use Rattle.request.proofs.tests.shown.Goals as goal

pub returns-in-Some : goal.returns-in-Some
returns-in-Some c = rw (c.in-Some.is, c.refuse.ensures)
