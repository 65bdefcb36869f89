-- Promise: a run of requests and corrections over one table. What each step comes to is what it comes to over the table that the steps before it left;
-- and what clerks may rely on holds with requests in between. Assumes nothing.
use Rattle.std.specs.Prelude.{◌≡◌, Bool, true, false, cond, List, [], ◌∷◌, ◌++◌, ℕ, ◌+◌}
use Rattle.paper.specs.Correction.{Corrected, corrected}
use Rattle.paper.specs.Clerks.{record_with, accepts, standing_of}
use Rattle.paper.specs.Outcome.{Lent, Outcome, outcome}

-- what is lent for a request beside the table
pub record Asking : Type 0 where
  pub request : List ℕ
  pub host : List ℕ
  pub realm : List ℕ
  pub answer : List ℕ
  pub cancel : List ℕ

abbrev pub over : List ℕ → Asking → Lent
over t a = record { table = t; request = a.request; host = a.host; realm = a.realm; answer = a.answer; cancel = a.cancel }

pub data Step : Type 0 where
  asks : Asking → Step
  corrects : List ℕ → Step

-- what a step comes to, and the table that it leaves
pub data Came : Type 0 where
  asked : Outcome → Came
  put_right : Corrected → Came

unfoldable pub comes : List ℕ → Step → Came
comes t (asks a) = asked (outcome (over t a))
comes t (corrects f) = put_right (corrected t f)

unfoldable pub left : Came → List ℕ
left (asked o) = o.table
left (put_right c) = c.table

-- the steps one after another: what each comes to, and the table after them
unfoldable pub run : List ℕ → List Step → List Came
run t [] = []
run t (s ∷ ss) = comes t s ∷ run (left (comes t s)) ss

unfoldable pub table_after : List ℕ → List Step → List ℕ
table_after t [] = t
table_after t (s ∷ ss) = table_after (left (comes t s)) ss

-- demand 2 of every request of a run, and not of the first alone
abbrev pub EachOverWhatWasLeft : Type 0
EachOverWhatWasLeft =
    (t : List ℕ) (ss : List Step) (s : Step) (us : List Step) → run t (ss ++ (s ∷ us)) ≡ run t ss ++ (comes (table_after t ss) s ∷ run (left (comes (table_after t ss) s)) us)

-- ---- clerks

-- the step is an accepted correction of the record with this IMSI
unfoldable pub accepts_step : List ℕ → List ℕ → Step → Bool
accepts_step imsi t (asks a) = false
accepts_step imsi t (corrects f) = accepts imsi t f

-- how many steps are
unfoldable pub accepted_in : List ℕ → List ℕ → List Step → ℕ
accepted_in imsi t [] = 0
accepted_in imsi t (s ∷ ss) = cond (accepts_step imsi t s) 1 0 + accepted_in imsi (left (comes t s)) ss

-- the change number that the record with this IMSI has after these steps was reached by the last of them, or stood at the start
pub data Reached (imsi : List ℕ) : List ℕ → List Step → Type 0 where
  at_start : {t : List ℕ} → Reached imsi t []
  by_last : {t : List ℕ} {s : Step} → accepts_step imsi t s ≡ true → Reached imsi t (s ∷ [])
  by_later : {t : List ℕ} {s u : Step} {us : List Step} → Reached imsi (left (comes t s)) (u ∷ us) → Reached imsi t (s ∷ u ∷ us)

-- the moment in a run at which the change number of the record with this IMSI was last reached:
-- no correction of it was accepted since, and all that corrections alter of it is what it was then
pub record LastReached (imsi t : List ℕ) (ss : List Step) : Type 0 where
  pub before : List Step
  pub since : List Step
  pub split : ss ≡ before ++ since
  pub reached : Reached imsi t before
  pub none_since : accepted_in imsi (table_after t before) since ≡ 0
  pub same_standing : standing_of (record_with imsi (table_after t ss)) ≡ standing_of (record_with imsi (table_after t before))
