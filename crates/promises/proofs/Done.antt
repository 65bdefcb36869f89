-- Promises 4, 5 and 8, of calls: by paper's theorems over `outcome` and `corrected`.
-- Assumes nothing.
use mathlib.Core.Path.{◌≡◌, refl, sym, ap, ◌∙◌}
use mathlib.Core.Logic.{◌↔◌, ◌≢◌}
use mathlib.Core.Bool.{Bool, true, false, cond}
use mathlib.Core.List.{List}
use Prim.Native.Nat.{ℕ, ◌≤◌}
use lib.ListN.{take}
use borrow.Author.Tests.{eq-eqb}
use Rattle.wire.specs.Number.{num_at}
use Rattle.wire.specs.Put.{part}
use Rattle.paper.specs.Clerks.{record_with, FirstThatHolds, ValueJudged, Alters}
use Rattle.paper.specs.Find.{origin_host}
use Rattle.paper.specs.ItsRecord.{RequestRecord}
use Rattle.paper.specs.Outcome.{Lent, Outcome}
use Rattle.paper.specs.Procedures.{Entry, imsi_field}
use Rattle.paper.specs.Promises.{sent_by, ulr_bit, UpdatesOnS6a, UpdatesOnS6d, AnswersUlr, PurgesUe, Notifies}
use Rattle.paper.specs.Read.{an_mme, an_sgsn, entries_in}
use Rattle.paper.specs.Refusals.{Said, number, result, experimental, said, refusals, First, NumberSaid}
use Rattle.paper.specs.Table.{name_of, valid}
use Rattle.paper.specs.Untouched.{OnlyItsRecord, NoRecord, NoByte}
use Rattle.paper.proofs.CorrectionLaws.{accepted_alters}
use Rattle.paper.proofs.CorrectionSaid.{corrected-cases, value_of_correction}
use Rattle.paper.proofs.OutcomeLaws.{outcome-size}
use Rattle.paper.proofs.PromiseAnswer as paper-answer
use Rattle.paper.proofs.PromiseNor as paper-nor
use Rattle.paper.proofs.PromiseNumbers as paper-numbers
use Rattle.paper.proofs.PromisePur as paper-pur
use Rattle.paper.proofs.PromiseRecord as paper-record
use Rattle.paper.proofs.PromiseRecord.{its_record}
use Rattle.paper.proofs.PromiseRefusals as paper-refusals
use Rattle.paper.proofs.PromiseUlr as paper-ulr
use Rattle.paper.proofs.PromiseUntouched as paper-untouched
use Rattle.paper.proofs.SaidLaws.{host_handed}
use Rattle.promises.specs.Promises.{after, RequestRecordIs, UlrOnS6a, UlrOnS6d, UlrAnswered, PurPurges, NorNotifies, HostStored, FirstThatApplies, NumberAsSaid, CorrectionCases, CorrectionValue, OnlyItsRecordTouched, AnswerShort, ResultTouchesNothing, ExperimentalTouchesNothing, NumberTouchesNothing, CorrectionAlters, CorrectionRecordIs}
use Rattle.promises.proofs.CallLaws.{of_call, of_correction}

-- ---- what a promise reads of a request, its table before and its outcome

abbrev was : Lent → List ℕ
was l = record_with (imsi_field l.request) l.table

abbrev is : Lent → Outcome → List ℕ
is l o = record_with (imsi_field l.request) o.table

abbrev list : Outcome → List Entry
list o = entries_in 2 0 o.cancel

abbrev answer : Outcome → List ℕ
answer o = take o.size o.answer

-- ---- 4. What an accepted request does

pub request_record : RequestRecordIs
request_record = of_call (λ l o. valid l.table ≡ true → RequestRecord l.request l.table o.table (was l) (is l o)) paper-record.request_record

pub ulr_on_s6a : UlrOnS6a
ulr_on_s6a =
    of_call (λ l o. said o ≡ result 2001 → num_at 3 l.request 5 ≡ 316 → ulr_bit 1 l.request ≡ true → UpdatesOnS6a l.request (was l) (is l o) (list o))
    (λ l a e. paper-ulr.ulr_on_s6a l a (eq-eqb (num_at 3 l.request 5) 316 e))

pub ulr_on_s6d : UlrOnS6d
ulr_on_s6d =
    of_call (λ l o. said o ≡ result 2001 → num_at 3 l.request 5 ≡ 316 → ulr_bit 1 l.request ≡ false → UpdatesOnS6d l.request (was l) (is l o) (list o))
    (λ l a e. paper-ulr.ulr_on_s6d l a (eq-eqb (num_at 3 l.request 5) 316 e))

pub ulr-answered : UlrAnswered
ulr-answered =
    of_call (λ l o. said o ≡ result 2001 → num_at 3 l.request 5 ≡ 316 → AnswersUlr l.request (answer o))
    (λ l a e. paper-answer.ulr-answered l a (eq-eqb (num_at 3 l.request 5) 316 e))

pub pur-purges : PurPurges
pur-purges =
    of_call (λ l o. said o ≡ result 2001 → num_at 3 l.request 5 ≡ 321 → PurgesUe l.request (was l) (is l o) (list o) (answer o))
    (λ l a e. paper-pur.pur-purges l a (eq-eqb (num_at 3 l.request 5) 321 e))

pub nor_notifies : NorNotifies
nor_notifies =
    of_call (λ l o. said o ≡ result 2001 → num_at 3 l.request 5 ≡ 323 → Notifies l.request (was l) (is l o) (list o))
    (λ l a e. paper-nor.nor_notifies l a (eq-eqb (num_at 3 l.request 5) 323 e))

pub host-stored : HostStored
host-stored c h s u e = go (ulr_bit 1 c.lent.request) refl ∙ sym (h.met ∙ ap origin_host e ∙ host_handed c.lent.request)
  where
    go : (b : Bool) → ulr_bit 1 c.lent.request ≡ b → name_of (cond b an_mme an_sgsn) (after c) ≡ sent_by c.lent.request
    go true o = (ulr_on_s6a c s u o).name_stored
    go false o = (ulr_on_s6d c s u o).name_stored

-- ---- 5. Refusals

pub first_that_applies : FirstThatApplies
first_that_applies = of_call (λ l o. (x : Said) → (said o ≡ x) ↔ First l refusals x) paper-refusals.first_that_applies

pub number_as_said : NumberAsSaid
number_as_said = of_call (λ l o. NumberSaid o) paper-numbers.number-said

pub correction-cases : CorrectionCases
correction-cases = of_correction FirstThatHolds corrected-cases

pub correction_value : CorrectionValue
correction_value = of_correction (λ t f x. ValueJudged f x) value_of_correction

-- ---- 8. Nothing else

pub only_its_record : OnlyItsRecordTouched
only_its_record = of_call OnlyItsRecord paper-untouched.only_its_record

pub answer-short : AnswerShort
answer-short = of_call (λ l o. o.size ≤ 4292) outcome-size

pub result_touches_nothing : ResultTouchesNothing
result_touches_nothing = of_call (λ l o. (code : ℕ) → code ≢ 2001 → said o ≡ result code → NoRecord l o) paper-untouched.result_alters_nothing

pub experimental_touches_nothing : ExperimentalTouchesNothing
experimental_touches_nothing = of_call (λ l o. (code : ℕ) → said o ≡ experimental code → NoRecord l o) paper-untouched.experimental_alters_nothing

pub number_touches_nothing : NumberTouchesNothing
number_touches_nothing = of_call (λ l o. (n : ℕ) → said o ≡ number n → NoByte l o) paper-untouched.number_alters_nothing

pub correction_alters : CorrectionAlters
correction_alters = of_correction (λ t f x. x.number ≡ 0 → (i : ℕ) × Alters t f x.table i) accepted_alters

pub correction_record : CorrectionRecordIs
correction_record c = its_record (part 4 16 c.frame) c.table
