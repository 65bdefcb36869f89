-- The promises, over calls that met their contracts (Calls.antt). Each names what was lent and what was left; none mentions how a request is carried out.
-- docs/PROMISES.md has them in plain English, with what each does not cover. Assumes nothing.
use Rattle.std.specs.Prelude.{◌≡◌, ◌↔◌, ◌≢◌, true, false, cond, List, [], ◌∷◌, ◌++◌, ℕ, ◌+◌, ◌-◌, ◌/◌, ◌%◌, ◌^◌, ◌≤◌, ◌<◌, length, take, drop, get_or, replicate, Ok}
use Rattle.std.proofs.Math.Option.{none, some}
use Rattle.wire.specs.Number.{num_at}
use Rattle.wire.specs.Put.{part}
use Rattle.dictionary.specs.declared.Kind.TheVariants.{Unknown}
use Rattle.dictionary.specs.Rows.{kind_of}
use Rattle.paper.specs.declared.Verdict.TheVariants.{Base}
use Rattle.paper.specs.declared.Visit.TheVariants.{Clean}
use Rattle.paper.specs.Attach.{table_after, attach_answer, attach_cancel, attach_lent}
use Rattle.paper.specs.Avp.{Avp, bit, code_of, vendor_of, flags_of, avp_of, has_m}
use Rattle.paper.specs.Clerks.{record_with, standing_of, FirstThatHolds, ValueJudged, Alters}
use Rattle.paper.specs.ItsRecord.{ItsRecord, RequestRecord}
use Rattle.paper.specs.Layout.{message_header}
use Rattle.paper.specs.Newer.{WidenedRequest, asking, Accepting, unsupported_outcome, with_avps, Fits, stripped_request}
use Rattle.paper.specs.Procedures.{Entry, imsi_field}
use Rattle.paper.specs.Promises.{ulr_bit, UpdatesOnS6a, UpdatesOnS6d, AnswersUlr, PurgesUe, Notifies}
use Rattle.paper.specs.Read.{an_mme, an_sgsn, entries_in, codes_in}
use Rattle.paper.specs.ReadBack.{is3xxx, ReadBack}
use Rattle.paper.specs.Refusals as Refusals
use Rattle.paper.specs.Refusals.{Said, number, result, said, refusals, First, NumberSaid}
use Rattle.paper.specs.Request.{view_of}
use Rattle.paper.specs.Run as Run
use Rattle.paper.specs.Run.{Step, asks, corrects, Came, asked, put_right, accepted_in}
use Rattle.paper.specs.Table.{name_of, valid, lookup}
use Rattle.paper.specs.Untouched.{OnlyItsRecord, NoRecord, NoByte}
use Rattle.paper.specs.Widened.{OneAvp, Inserted, Clear}
use Rattle.avp.specs.declared.cursor.Avp.{Avp as AvpRead}
use Rattle.avp.specs.declared.cursor.Step.TheVariants.{Item}
use Rattle.dymosaw.specs.Serve.{said_by}
use Rattle.promises.specs.Calls.{ServeCall, RequestCall, CorrectCall, EntryCall, ReadCall, ValidCall, HostCall, ReadAvpCall, WriteAvpCall, Call, Correction, SeenByC, SameServed, SameRequested, SameCorrected, SameEntered}
use Rattle.promises.specs.Rewritten.{Again, Keeps, Rewritten, SameAvps}
use Rattle.promises.specs.Width.{Changes, Short}

-- ---- 1 to 3. A newer node

-- Demand 3, first half: the request `n` of `d` is that of `c` with what a newer node adds and changes
abbrev pub NewerSame : Type 0
NewerSame = (c d : Call) (n : List ℕ) → Accepting c.left.verdict → WidenedRequest c.lent.request n none → d.lent ≡ asking c.lent n → d.left ≡ c.left

-- Demand 3, second half: `a` is the first added AVP that has M
abbrev pub NewerUnsupported : Type 0
NewerUnsupported =
    (c d : Call) (n : List ℕ) (a : Avp) → Accepting c.left.verdict → WidenedRequest c.lent.request n (some a) → d.lent ≡ asking c.lent n → d.left ≡ unsupported_outcome c.lent a

-- the relation is wide enough: each of the listed changes, and any number of them one after another
abbrev pub ChangesSame : Type 0
ChangesSame = (c d : Call) (n : List ℕ) → Accepting c.left.verdict → Changes c.lent.request n → d.lent ≡ asking c.lent n → d.left ≡ c.left

-- and an unknown AVP with M, put in at the top level or inside groups at any depth
abbrev pub AddedUnsupported : Type 0
AddedUnsupported =
    (c d : Call) (y t : List ℕ) → Accepting c.left.verdict → OneAvp y → kind_of (vendor_of y) (code_of y) ≡ Unknown → has_m (flags_of y) ≡ true
    → Inserted kind_of y (drop message_header c.lent.request) t → Short t → d.lent ≡ asking c.lent (with_avps c.lent.request t) → d.left ≡ unsupported_outcome c.lent (avp_of y)

-- a request without faults whose unknown AVPs have no M comes to what it comes to without them, where that is success or an Experimental-Result
abbrev pub StrippedSame : Type 0
StrippedSame =
    (c d : Call) → Fits d.lent.request → Clear (view_of d.lent.request) → c.lent ≡ asking d.lent (stripped_request d.lent.request)
    → Accepting c.left.verdict → d.left ≡ c.left

-- an answer that says success or an Experimental-Result, by its bytes: Result-Code, and Experimental-Result-Code
pub data AcceptingBytes (a : List ℕ) : Type 0 where
  success : codes_in a ≡ 2001 ∷ 0 ∷ [] → AcceptingBytes a
  experimental : (code : ℕ) → code ≢ 0 → codes_in a ≡ 0 ∷ code ∷ [] → AcceptingBytes a

-- the first half as a caller of `serve` and as one of `dymosaw_request` sees it: "Answer, table and cancel buffer are the same, byte by byte"
abbrev pub ServeNewerSame : Type 0
ServeNewerSame = (c d : ServeCall) (n : List ℕ) → Accepting (said_by c.result) → WidenedRequest c.given.request n none → d.given ≡ asking c.given n → SameServed c d

abbrev pub RequestNewerSame : Type 0
RequestNewerSame =
    (c d : RequestCall) (n : List ℕ) → c.result / 2 ^ 32 ≡ 0 → AcceptingBytes (take (c.result % 2 ^ 32) c.answer)
    → WidenedRequest c.given.request n none → d.given ≡ asking c.given n → SameRequested c d

-- ---- 4. What an accepted request does

-- "Result-Code (success 2001)"
abbrev pub Success : Call → Type 0
Success c = said c.left ≡ result 2001

-- the record of the request's IMSI before and after the call, the entries of the cancel buffer, and the answer
abbrev pub before : Call → List ℕ
before c = record_with (imsi_field c.lent.request) c.lent.table

abbrev pub after : Call → List ℕ
after c = record_with (imsi_field c.lent.request) c.left.table

abbrev pub entries : Call → List Entry
entries c = entries_in 2 0 c.left.cancel

abbrev pub answer_of : Call → List ℕ
answer_of c = take c.left.size c.left.answer

-- which record that is: in a valid table the counted one with the IMSI of User-Name, at one place before and after
abbrev pub RequestRecordIs : Type 0
RequestRecordIs = (c : Call) → valid c.lent.table ≡ true → RequestRecord c.lent.request c.lent.table c.left.table (before c) (after c)

-- bytes 5–7 of the header are the command: 316 ULR, 321 PUR, 323 NOR
abbrev pub UlrOnS6a : Type 0
UlrOnS6a = (c : Call) → Success c → num_at 3 c.lent.request 5 ≡ 316 → ulr_bit 1 c.lent.request ≡ true → UpdatesOnS6a c.lent.request (before c) (after c) (entries c)

abbrev pub UlrOnS6d : Type 0
UlrOnS6d = (c : Call) → Success c → num_at 3 c.lent.request 5 ≡ 316 → ulr_bit 1 c.lent.request ≡ false → UpdatesOnS6d c.lent.request (before c) (after c) (entries c)

abbrev pub UlrAnswered : Type 0
UlrAnswered = (c : Call) → Success c → num_at 3 c.lent.request 5 ≡ 316 → AnswersUlr c.lent.request (answer_of c)

abbrev pub PurPurges : Type 0
PurPurges = (c : Call) → Success c → num_at 3 c.lent.request 5 ≡ 321 → PurgesUe c.lent.request (before c) (after c) (entries c) (answer_of c)

abbrev pub NorNotifies : Type 0
NorNotifies = (c : Call) → Success c → num_at 3 c.lent.request 5 ≡ 323 → Notifies c.lent.request (before c) (after c) (entries c)

-- "the name becomes Origin-Host", of a call `h` of `origin_host` on the request: on S6a the MME's name, on S6d the SGSN's
abbrev pub HostStored : Type 0
HostStored =
    (c : Call) (h : HostCall) → Success c → num_at 3 c.lent.request 5 ≡ 316 → h.message ≡ c.lent.request → name_of (cond (ulr_bit 1 c.lent.request) an_mme an_sgsn) (after c) ≡ h.result

-- ---- 5. Refusals, each in its stated case only

abbrev pub FirstThatApplies : Type 0
FirstThatApplies = (c : Call) (x : Said) → (said c.left ≡ x) ↔ First c.lent refusals x

-- the number that a call returns: 0 exactly if it is answered, with a Result-Code or an Experimental-Result, and else one of 3, 5, 4, 1, 2
abbrev pub NumberAsSaid : Type 0
NumberAsSaid = (c : Call) → NumberSaid c.left

abbrev pub CorrectionCases : Type 0
CorrectionCases = (c : Correction) → FirstThatHolds c.table c.frame c.left

-- 15 is given where the value, in any right record, would break a rule of the table, and nowhere else
abbrev pub CorrectionValue : Type 0
CorrectionValue = (c : Correction) → ValueJudged c.frame c.left

-- ---- 6. A run

-- calls one after another on one table: each is lent the table that the call before it left. `Calls t u`: from the table `t` to the table `u`
pub data Calls : List ℕ → List ℕ → Type 0 where
  end : {t : List ℕ} → Calls t t
  request : {u : List ℕ} (c : Call) → Calls c.left.table u → Calls c.lent.table u
  correction : {u : List ℕ} (c : Correction) → Calls c.left.table u → Calls c.table u

-- the calls as steps, and what each left
abbrev pub step_of : Call → Step
step_of c =
    asks (record { request = c.lent.request; host = c.lent.host; realm = c.lent.realm; answer = c.lent.answer; cancel = c.lent.cancel })

unfoldable pub steps_of : {t u : List ℕ} → Calls t u → List Step
steps_of end = []
steps_of (request c cs) = step_of c ∷ steps_of cs
steps_of (correction c cs) = corrects c.frame ∷ steps_of cs

unfoldable pub left_by : {t u : List ℕ} → Calls t u → List Came
left_by end = []
left_by (request c cs) = asked c.left ∷ left_by cs
left_by (correction c cs) = put_right c.left ∷ left_by cs

-- every call of the run, and not the first alone, comes to 01's outcome over the table that the calls before it left
pub record AsRun {t u : List ℕ} (cs : Calls t u) : Type 0 where
  pub each : left_by cs ≡ Run.run t (steps_of cs)
  pub table : u ≡ Run.table_after t (steps_of cs)

abbrev pub RunsAsSaid : Type 0
RunsAsSaid = (t u : List ℕ) (cs : Calls t u) → AsRun cs

abbrev pub RunValid : Type 0
RunValid = (t u : List ℕ) → Calls t u → valid t ≡ true → valid u ≡ true

-- and so `valid_table` says, asked before the run and after it
abbrev pub RunStaysValid : Type 0
RunStaysValid = (t u : List ℕ) (p q : ValidCall) → Calls t u → p.table ≡ t → q.table ≡ u → p.result ≡ true → q.result ≡ true

-- how many corrections of the record with this IMSI were accepted in the run
abbrev pub accepted_for : List ℕ → {t u : List ℕ} → Calls t u → ℕ
accepted_for imsi {t} cs = accepted_in imsi t (steps_of cs)

-- two clerks who saw one change number (bytes 20–23 of a frame) of one record (its IMSI bytes 4–19) are not both obeyed, whatever calls came between,
-- short of 2^32 − 1 accepted corrections of it
abbrev pub NotBothAccepted : Type 0
NotBothAccepted =
    (f g : Correction) (between : Calls f.left.table g.table) → part 4 16 g.frame ≡ part 4 16 f.frame → num_at 4 g.frame 20 ≡ num_at 4 f.frame 20
    → f.left.number ≡ 0 → g.left.number ≡ 0 → 2 ^ 32 - 1 ≤ accepted_for (part 4 16 f.frame) between

-- a clerk whose correction is accepted corrects what was seen: at the same change number, with fewer than 2^32 accepted since, all that corrections alter is
-- the same
abbrev pub SameAsSeen : Type 0
SameAsSeen =
    (imsi t u : List ℕ) (cs : Calls t u) → num_at 4 (record_with imsi u) 16 ≡ num_at 4 (record_with imsi t) 16 → accepted_for imsi cs < 2 ^ 32
    → (accepted_for imsi cs ≡ 0) × (standing_of (record_with imsi u) ≡ standing_of (record_with imsi t))

-- ---- 7. Answers read back

-- every answer, read AVP by AVP, holds what 01's section "The answer" says
abbrev pub AnswersReadBack : Type 0
AnswersReadBack = (c : Call) → c.left.number ≡ 0 → ReadBack c.lent c.left

-- and a call `r` of the public reader `read_message` on the answer's bytes tells of no fault in it and of no unknown AVP with M, and hands out this header:
-- "Version 1; R, E, T clear but E set for 3xxx; P, command, application and both identifiers as received." P is 64, E is 32
pub record Visited (c : Call) (r : ReadCall) : Type 0 where
  pub visit : r.result.visit ≡ Clean
  pub version : r.result.header.version ≡ 1
  pub own_length : r.result.header.length ≡ c.left.size
  pub flags : r.result.header.flags ≡ cond (bit 6 (get_or c.lent.request 4 0)) 64 0 + cond (is3xxx (said c.left)) 32 0
  pub command : r.result.header.command ≡ num_at 3 c.lent.request 5
  pub application : r.result.header.application ≡ num_at 4 c.lent.request 8
  pub hop_by_hop : r.result.header.hop_by_hop ≡ num_at 4 c.lent.request 12
  pub end_to_end : r.result.header.end_to_end ≡ num_at 4 c.lent.request 16

abbrev pub AnswersVisited : Type 0
AnswersVisited = (c : Call) (r : ReadCall) → c.left.number ≡ 0 → r.message ≡ answer_of c → Visited c r

-- ---- AVPs read and written again

-- Demand 2: an AVP that was read and is written again reads as the same AVP. `q` reads where `w` wrote what `r` read.
abbrev pub AvpAgain : Type 0
AvpAgain =
    (r q : ReadAvpCall) (w : WriteAvpCall) (a : AvpRead) (next to : ℕ) → Again r a next w to → q.stretch ≡ w.after → q.at ≡ w.at
    → (b : AvpRead) × (q.result ≡ Item b (record { at = to })) × Keeps r.stretch a q.stretch b

-- and AVPs read and written again read as the same AVPs: all those of a stretch `s`, written from the start of a buffer
abbrev pub AvpsAgain : Type 0
AvpsAgain = (s out after : List ℕ) (n : ℕ) → Rewritten s n after 0 0 out → SameAvps s (take n after)

-- and an AVP is written where there is room for the longest header, the data and the most padding
abbrev pub RoomEnough : Type 0
RoomEnough = (w : WriteAvpCall) → length w.body < 16777200 → w.at + (12 + length w.body + 3) ≤ length w.out → (to : ℕ) × (w.result ≡ Ok to)

-- ---- 8. Nothing else is touched

-- by any request, whatever it comes to
abbrev pub OnlyItsRecordTouched : Type 0
OnlyItsRecordTouched = (c : Call) → OnlyItsRecord c.lent c.left

-- "no answer is longer than 4,292"
abbrev pub AnswerShort : Type 0
AnswerShort = (c : Call) → c.left.size ≤ 4292

-- by a refusal with a Result-Code, with an Experimental-Result, and without an answer
abbrev pub ResultTouchesNothing : Type 0
ResultTouchesNothing = (c : Call) (code : ℕ) → code ≢ 2001 → said c.left ≡ result code → NoRecord c.lent c.left

abbrev pub ExperimentalTouchesNothing : Type 0
ExperimentalTouchesNothing = (c : Call) (code : ℕ) → said c.left ≡ Refusals.experimental code → NoRecord c.lent c.left

abbrev pub NumberTouchesNothing : Type 0
NumberTouchesNothing = (c : Call) (n : ℕ) → said c.left ≡ number n → NoByte c.lent c.left

-- a correction that is accepted alters the record that it names, at the change number seen, and nothing else
abbrev pub CorrectionAlters : Type 0
CorrectionAlters = (c : Correction) → c.left.number ≡ 0 → (i : ℕ) × Alters c.table c.frame c.left.table i

-- which record it names: in a valid table the counted one with the 16 bytes of the frame from byte 4 on
abbrev pub CorrectionRecordIs : Type 0
CorrectionRecordIs =
    (c : Correction) → valid c.table ≡ true → ItsRecord (part 4 16 c.frame) c.table (lookup (part 4 16 c.frame) c.table) (record_with (part 4 16 c.frame) c.table)

-- ---- 10. Not empty

-- the attach of Attach.antt: whoever makes that call gets these bytes
pub record Attached (c : ServeCall) : Type 0 where
  pub result : c.result ≡ Ok (record { verdict = Base (record { 0 = 2001 }); length = 200; listed = 2 })
  pub table : c.table ≡ table_after
  pub answer : c.answer ≡ attach_answer ++ replicate 4152 255
  pub cancel : c.cancel ≡ attach_cancel ++ replicate 4 255

abbrev pub AttachSucceeds : Type 0
AttachSucceeds = (c : ServeCall) → c.given ≡ attach_lent → Attached c

-- ---- from C, and one outcome for one input

-- every promise above holds of the C entry: each of its calls is such a call, seen as numbers and buffers
abbrev pub ForC : Type 0
ForC = (c : RequestCall) → (k : Call) × SeenByC c k

abbrev pub ServeOnce : Type 0
ServeOnce = (c d : ServeCall) → d.given ≡ c.given → SameServed c d

abbrev pub RequestOnce : Type 0
RequestOnce = (c d : RequestCall) → d.given ≡ c.given → SameRequested c d

abbrev pub CorrectOnce : Type 0
CorrectOnce = (c d : CorrectCall) → d.table ≡ c.table → d.frame ≡ c.frame → SameCorrected c d

abbrev pub EntryOnce : Type 0
EntryOnce = (c d : EntryCall) → d.table ≡ c.table → d.frame ≡ c.frame → SameEntered c d
