-- What an accepted request asks, in the paper's words: its numbers, and the parts of it that hold its values.
-- Assumes nothing.
use Rattle.std.specs.Prelude.{◌≡◌, List, ℕ}
use Rattle.std.specs.Option.{option_map}
use Rattle.paper.specs.Profile.{user_name, visited_plmn_id}
use Rattle.paper.specs.Request.{value_of}
use Rattle.paper.specs.Asked.{asked_of, imei_in}
use Rattle.request.specs.declared.accept.Accepted.{Accepted}
use Rattle.request.specs.Place.{InMessage}

-- the bytes `s` are those of a stretch of `m`, and are `x`
pub record SpanOf (m x s : List ℕ) : Type 0 where
  pub at : ℕ
  pub inside : InMessage m at s
  pub same : s ≡ x

pub record Accepts (m : List ℕ) (r : Accepted) : Type 0 where
  pub asked : r.asked ≡ asked_of m
  pub user : r.user_name.now ≡ value_of user_name m
  pub plmn : r.visited_plmn.now ≡ value_of visited_plmn_id m
  pub imei : option_map (λ x. x.now) r.imei ≡ imei_in m
