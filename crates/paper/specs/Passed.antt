-- What a call for a request has passed once no refusal without an answer applies: what the answer and the procedures rely on.
-- Assumes nothing.
use Rattle.std.specs.Prelude.{◌≡◌, true, ◌≤◌, length}
use Rattle.paper.specs.Layout.{least_answer, cancel_size, least_request, most_request}
use Rattle.paper.specs.Table.{valid}
use Rattle.paper.specs.Request.{is_name}
use Rattle.paper.specs.Outcome.{Lent}

pub record Passed (l : Lent) : Type 0 where
  pub answer_room : least_answer ≤ length l.answer
  pub cancel_room : cancel_size ≤ length l.cancel
  pub host_name : is_name l.host ≡ true
  pub realm_name : is_name l.realm ≡ true
  pub table_valid : valid l.table ≡ true
  pub least : least_request ≤ length l.request
  pub most : length l.request ≤ most_request
