-- What the answer of a request's call stands for: 01's number, the answer's length, and what the answer says, for each case; and what the inner functions ask.
-- Assumes nothing.
use Rattle.std.specs.Prelude.{◌≡◌, ℕ, ◌+◌, ◌*◌, ◌^◌, cond, not, ◌&&◌, ◌||◌, List, length, nat_lt, slice_index, Result, Ok, Err}
use Rattle.std.proofs.Math.Option.{Option, none, some}
use Rattle.paper.specs.Layout.{least_answer, cancel_size, least_request, most_request, entry_size}
use Rattle.paper.specs.Table.{valid}
use Rattle.paper.specs.Request.{is_name, is_request, refusal}
use Rattle.paper.specs.Answer as Answer
use Rattle.paper.specs.Shown.{verdict_of}
use Rattle.paper.specs.Outcome.{Lent, Outcome}
use Rattle.paper.specs.Passed.{Passed}
use Rattle.dymosaw.specs.declared.serve.Answered.{Answered}
use Rattle.dymosaw.specs.declared.serve.Silent.{Silent}
use Rattle.dymosaw.specs.declared.serve.Silent.TheVariants.{RequestSize, NotRequest, ShortBuffer, TableNotValid, OwnNameNotValid}

-- the buffers and names of a call
abbrev pub lent : (table request host realm answer cancel : List ℕ) → Lent
lent table request host realm answer cancel =
    record { table = table; request = request; host = host; realm = realm; answer = answer; cancel = cancel }

-- ---- each case of the answer

-- the number of a refusal without an answer
abbrev pub number_of_silent : Silent → ℕ
number_of_silent RequestSize = 1
number_of_silent NotRequest = 2
number_of_silent ShortBuffer = 3
number_of_silent TableNotValid = 4
number_of_silent OwnNameNotValid = 5

-- the refusal's number, 0 where there is none
abbrev pub number_refused : {A : Type 0} → Result A Silent → ℕ
number_refused (Ok answered) = 0
number_refused (Err refusal) = number_of_silent refusal

abbrev pub number_of : Result Answered Silent → ℕ
number_of r = number_refused r

-- the answer's length, 0 where there is none
abbrev pub size_of : Result Answered Silent → ℕ
size_of (Ok answered) = answered.length
size_of (Err refusal) = 0

-- what the answer says
abbrev pub said_by : Result Answered Silent → Option Answer.Verdict
said_by (Ok answered) = some (verdict_of answered.verdict)
said_by (Err refusal) = none

-- how many nodes are listed
abbrev pub listed_by : Result Answered Silent → ℕ
listed_by (Ok answered) = answered.listed
listed_by (Err refusal) = 0

-- the answer of a call with the buffers that it leaves
abbrev pub came_to : Result Answered Silent → (table answer cancel : List ℕ) → Outcome
came_to r table answer cancel =
    record { number = number_of r; size = size_of r; verdict = said_by r; listed = listed_by r; table = table; answer = answer; cancel = cancel }

-- the C entry's result, "high 32 bits: refusal number; low 32 bits: answer length", and the buffers are those of the outcome
pub record Is (o : Outcome) (r : ℕ) (t a c : List ℕ) : Type 0 where
  pub result : r ≡ o.number * 2 ^ 32 + o.size
  pub table : t ≡ o.table
  pub answer : a ≡ o.answer
  pub cancel : c ≡ o.cancel

-- ---- the refusals without an answer

-- the number of the first that applies, "Tested in this order"; 0 where none does
unfoldable pub silent_number : Lent → ℕ
silent_number l =
    cond (nat_lt (length l.answer) least_answer || nat_lt (length l.cancel) cancel_size) 3
    (cond (not (is_name l.host && is_name l.realm)) 5
    (cond (not (valid l.table)) 4
    (cond (nat_lt (length l.request) least_request || nat_lt most_request (length l.request)) 1
    (cond (not (is_request l.request)) 2 0))))

-- ---- what the inner functions ask

-- no refusal with a Result-Code applies either
pub record Ready (l : Lent) : Type 0 where
  pub passed : Passed l
  pub fine : refusal l.request ≡ none

-- ---- the list in the cancel buffer

-- 1 where an entry stands at the place: it begins with the node's number, and an unused one with zero
unfoldable pub entry_at : List ℕ → ℕ → ℕ
entry_at cancel at = cond (nat_lt 0 (slice_index cancel at)) 1 0

unfoldable pub entries_in : List ℕ → ℕ
entries_in cancel = entry_at cancel 0 + entry_at cancel entry_size
