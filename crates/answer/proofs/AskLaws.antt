-- What the writer of the answer asks, from the law of sizes: every reply that a request comes to can be written.
-- Assumes nothing.
use mathlib.Core.Path.{◌≡◌}
use mathlib.Core.Bool.{true}
use mathlib.Core.List.{List}
use Prim.Native.Nat.{ℕ, ◌≤◌}
use lib.ListN.{length}
use Rattle.std.specs.Prelude.{Option}
use Rattle.paper.specs.Layout.{least_request, most_request, least_answer}
use Rattle.paper.specs.Request.{is_name}
use Rattle.paper.specs.Answer.{Reply}
use Rattle.paper.specs.ShownIn.{ShownIn}
use Rattle.paper.specs.declared.Failed.{Failed}
use Rattle.paper.proofs.AnswerSizes.{ReplyTo, answer-bound, name-most}
use Rattle.answer.specs.Ask.{AnswerAsk}

pub answer-ask : (out m host realm : List ℕ) (failed : Option Failed) {y : Reply} → least_answer ≤ length out → least_request ≤ length m → length m ≤ most_request
    → is_name host ≡ true → is_name realm ≡ true → ShownIn m failed → ReplyTo m y → AnswerAsk out m host realm failed y
answer-ask out m host realm failed b l k h r f t =
    record {
      given = record { least = l; most = k; named = name-most host h; ruled = name-most realm r; readable = f };
      buffer = b;
      short = answer-bound m host realm l k h r t;
    }
