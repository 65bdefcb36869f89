-- What the writers of AVPs and of the whole answer ask of their callers.
-- Assumes nothing.
use Rattle.std.specs.Prelude.{List, ℕ, ◌+◌, ◌≤◌, length, Option}
use Rattle.paper.specs.Layout.{least_request, most_request, most_name, least_answer, longest_answer}
use Rattle.paper.specs.Answer as Answer
use Rattle.paper.specs.Answer.{reply_avps, answer}
use Rattle.paper.specs.Shown.{reply_of}
use Rattle.paper.specs.ShownIn.{ShownIn}
use Rattle.paper.specs.declared.Failed.{Failed}
use Rattle.avp.specs.Written.{Room}
use Rattle.avp.specs.declared.write.Writer.{Writer}
use Rattle.answer.specs.declared.reply.Reply.{Reply}

-- what a reply says of the request `m`, in the paper's words
abbrev pub said : List ℕ → Reply → Answer.Reply
said m y = reply_of m y.verdict y.failed y.extra y.echo

-- a request, names and a Failed-AVP that can be read
pub record Given (m host realm : List ℕ) (failed : Option Failed) : Type 0 where
  pub least : least_request ≤ length m
  pub most : length m ≤ most_request
  pub named : length host ≤ most_name
  pub ruled : length realm ≤ most_name
  pub readable : ShownIn m failed

-- room for the AVPs, and 60 bytes more, so that a writer may ask for the most that its part takes
pub record AvpsAsk (w : Writer) (m host realm : List ℕ) (failed : Option Failed) (y : Answer.Reply) : Type 0 where
  pub given : Given m host realm failed
  pub room : Room w (length (reply_avps m host realm y) + 60)

-- "Answer buffer at least 4,352 bytes; no answer is longer than 4,292."
pub record AnswerAsk (out m host realm : List ℕ) (failed : Option Failed) (y : Answer.Reply) : Type 0 where
  pub given : Given m host realm failed
  pub buffer : least_answer ≤ length out
  pub short : length (answer m host realm y) ≤ longest_answer
