-- Promise: nothing else is touched. A request alters at most the record of its IMSI, and there the purge bits, the names and the IMEI alone; a refusal
-- alters no record and lists no node; a refusal without an answer leaves every byte. Assumes nothing.
use Rattle.std.specs.Prelude.{◌≡◌, ◌≢◌, true, false, List, [], ◌∷◌, ℕ, length, take, drop, get_or, replicate}
use Rattle.paper.specs.Table.{valid, record_of, imsi_of}
use Rattle.paper.specs.Procedures.{imsi_field}
use Rattle.paper.specs.Clerks.{Field, field, lies_in, standing_of}
use Rattle.paper.specs.Outcome.{Lent, Outcome}

-- what a request may alter of its record: byte 56, the MME name 64–128, the SGSN name 129–193, the IMEI 204–219
unfoldable pub request_fields : List Field
request_fields = field 56 1 ∷ field 64 65 ∷ field 129 65 ∷ field 204 16 ∷ []

-- of every request, whatever it comes to: `o` is its outcome
pub record OnlyItsRecord (l : Lent) (o : Outcome) : Type 0 where
  pub size : length o.table ≡ length l.table
  pub header : take 8 o.table ≡ take 8 l.table
  -- every record with another IMSI is as it was
  pub others : (j : ℕ) → imsi_of (record_of l.table j) ≢ imsi_field l.request → record_of o.table j ≡ record_of l.table j
  -- and in its own record every other byte
  pub bytes : (j at : ℕ) → lies_in request_fields at ≡ false → get_or (record_of o.table j) at 0 ≡ get_or (record_of l.table j) at 0
  -- so the change number is, and all that corrections alter: bytes 20, 24–27, 28, 32–55, 196–203
  pub standing : (j : ℕ) → standing_of (record_of o.table j) ≡ standing_of (record_of l.table j)
  pub still_valid : valid l.table ≡ true → valid o.table ≡ true
  -- "Later bytes of the buffer stay"; "later bytes stay"
  pub later_answer : drop o.size o.answer ≡ drop o.size l.answer
  pub later_cancel : drop 136 o.cancel ≡ drop 136 l.cancel

-- "The table is unchanged.": of a refusal with an answer, Experimental ones too
pub record NoRecord (l : Lent) (o : Outcome) : Type 0 where
  pub table : o.table ≡ l.table
  pub cancel : take 136 o.cancel ≡ replicate 136 0

-- "the answer length is 0 and all buffers stay as they came"
pub record NoByte (l : Lent) (o : Outcome) : Type 0 where
  pub size : o.size ≡ 0
  pub listed : o.listed ≡ 0
  pub table : o.table ≡ l.table
  pub answer : o.answer ≡ l.answer
  pub cancel : o.cancel ≡ l.cancel
