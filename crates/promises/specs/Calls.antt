-- Calls of the public functions that met their contracts: what each was given, what it answered, what it left. `met` is word for word the function's
-- `ensures` (proofs/Contracts.antt shows that). Assumes nothing.
use Rattle.std.specs.Prelude.{◌≡◌, Bool, List, ℕ, ◌/◌, ◌%◌, ◌^◌, Result, ⊤}
use Rattle.wire.specs.Number.{Bytes}
use Rattle.paper.specs.Correction.{Corrected, corrected}
use Rattle.paper.specs.Find.{origin_host}
use Rattle.paper.specs.Outcome.{Lent, Outcome, outcome}
use Rattle.paper.specs.Table.{valid}
use Rattle.avp.specs.declared.cursor.Step.{Step}
use Rattle.avp.specs.declared.write.NoRoom.{NoRoom}
use Rattle.avp.specs.Step.{step_at}
use Rattle.avp.specs.Written as Written
use Rattle.avp.specs.Written.{avp_written}
use Rattle.reader.specs.declared.message.Message.{Message}
use Rattle.reader.specs.Message.{message_of}
use Rattle.correction.specs.declared.refusal.Refusal.{Refusal}
use Rattle.correction.specs.Refusal as Refusals
use Rattle.dymosaw.specs.declared.serve.Answered as Serving
use Rattle.dymosaw.specs.declared.serve.Silent.{Silent}
use Rattle.dymosaw.specs.Entry as Entry
use Rattle.dymosaw.specs.Serve as Serve
use Rattle.dymosaw.specs.Serve.{Is}

-- ---- the four calls that write

-- `serve`: the buffers and names that it was lent, its answer, and the three buffers after it
pub record ServeCall : Type 0 where
  pub given : Lent
  pub bytes : Bytes given.request
  pub result : Result Serving.Answered Silent
  pub table : List ℕ
  pub answer : List ℕ
  pub cancel : List ℕ
  pub met : Serve.came_to result table answer cancel ≡ outcome given

-- `dymosaw_request`, the same for C: number and length in one word
pub record RequestCall : Type 0 where
  pub given : Lent
  pub bytes : Bytes given.request
  pub result : ℕ
  pub table : List ℕ
  pub answer : List ℕ
  pub cancel : List ℕ
  pub met : Is (outcome given) result table answer cancel

-- `correct`
pub record CorrectCall : Type 0 where
  pub table : List ℕ
  pub frame : List ℕ
  pub result : Result ⊤ Refusal
  pub after : List ℕ
  pub met : Refusals.came_to result after ≡ corrected table frame

-- `dymosaw_correct`, the same for C
pub record EntryCall : Type 0 where
  pub table : List ℕ
  pub frame : List ℕ
  pub result : ℕ
  pub after : List ℕ
  pub met : Entry.came_to result after ≡ corrected table frame

-- ---- the calls on bytes alone

-- `read_message`
pub record ReadCall : Type 0 where
  pub message : List ℕ
  pub result : Message
  pub met : result ≡ message_of message

-- `valid_table`
pub record ValidCall : Type 0 where
  pub table : List ℕ
  pub result : Bool
  pub met : result ≡ valid table

-- `origin_host`: `result` has the bytes of the part that it returned
pub record HostCall : Type 0 where
  pub message : List ℕ
  pub result : List ℕ
  pub met : result ≡ origin_host message

-- `read_avp`: what stands at a place of a stretch
pub record ReadAvpCall : Type 0 where
  pub stretch : List ℕ
  pub bytes : Bytes stretch
  pub at : ℕ
  pub result : Step
  pub met : result ≡ step_at stretch at

-- `write_avp`: an AVP by its key, M and data, at a place of a buffer
pub record WriteAvpCall : Type 0 where
  pub out : List ℕ
  pub at : ℕ
  pub vendor : ℕ
  pub code : ℕ
  pub mandatory : Bool
  pub body : List ℕ
  pub result : Result ℕ NoRoom
  pub after : List ℕ
  pub met : Written.came_to result after ≡ avp_written out at vendor code mandatory body

-- ---- what the promises speak of

-- A call for a request, from Rattle or from C. `left` has its number, the answer's length, what the answer says, how many nodes are listed, and every byte
-- of table, answer buffer and cancel buffer after it.
pub record Call : Type 0 where
  pub lent : Lent
  pub bytes : Bytes lent.request
  pub left : Outcome
  pub met : left ≡ outcome lent

-- a call for a correction, from Rattle or from C; `left` has its number and the table after it
pub record Correction : Type 0 where
  pub table : List ℕ
  pub frame : List ℕ
  pub left : Corrected
  pub met : left ≡ corrected table frame

abbrev pub served : ServeCall → Call
served c = record { lent = c.given; bytes = c.bytes; left = Serve.came_to c.result c.table c.answer c.cancel; met = c.met }

abbrev pub righted : CorrectCall → Correction
righted c = record { table = c.table; frame = c.frame; left = Refusals.came_to c.result c.after; met = c.met }

abbrev pub righted_for_c : EntryCall → Correction
righted_for_c c = record { table = c.table; frame = c.frame; left = Entry.came_to c.result c.after; met = c.met }

-- `k` is what C sees of its call `c`: "high 32 bits: refusal number [..]; low 32 bits: answer length", and the buffers
pub record SeenByC (c : RequestCall) (k : Call) : Type 0 where
  pub lent : k.lent ≡ c.given
  pub number : k.left.number ≡ c.result / 2 ^ 32
  pub size : k.left.size ≡ c.result % 2 ^ 32
  pub table : k.left.table ≡ c.table
  pub answer : k.left.answer ≡ c.answer
  pub cancel : k.left.cancel ≡ c.cancel

-- ---- two calls that came to the same: in all that their caller sees

pub record SameServed (c d : ServeCall) : Type 0 where
  pub result : d.result ≡ c.result
  pub table : d.table ≡ c.table
  pub answer : d.answer ≡ c.answer
  pub cancel : d.cancel ≡ c.cancel

pub record SameRequested (c d : RequestCall) : Type 0 where
  pub result : d.result ≡ c.result
  pub table : d.table ≡ c.table
  pub answer : d.answer ≡ c.answer
  pub cancel : d.cancel ≡ c.cancel

pub record SameCorrected (c d : CorrectCall) : Type 0 where
  pub result : d.result ≡ c.result
  pub after : d.after ≡ c.after

pub record SameEntered (c d : EntryCall) : Type 0 where
  pub result : d.result ≡ c.result
  pub after : d.after ≡ c.after
