-- `reader::visit::visit_by` meets its contract. Assumes nothing.
use native.Mathlib.Omega.{arith}
use Rattle.reader.proofs.MessageLaws.{visit_cut, visit-behind}
use Rattle.reader.proofs.visit.visit_by.Goals as goal

pub returns-then-m-lt-MESSAGE_HEADER : goal.returns-then-m-lt-MESSAGE_HEADER
returns-then-m-lt-MESSAGE_HEADER g c = visit_cut _ _ (omega arith)

pub returns : goal.returns
returns g c = visit-behind _ _ c.visit_list_by.ensures
