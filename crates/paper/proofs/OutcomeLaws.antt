-- What a request comes to, case by case; and what 01 says of every outcome: its size, and the table.
-- Assumes nothing.
use mathlib.Core.Path.{◌≡◌, refl, ap}
use mathlib.Core.Bool.{Bool, true, false, cond, ◌&&◌, ◌||◌, not}
use mathlib.Core.Option.{Option, none, some}
use mathlib.Core.List.{List, []}
use Prim.Native.Nat.{ℕ, ◌≤◌, ◌<◌}
use native.Mathlib.Omega.{arith}
use lib.Dec.{ltb, eqb}
use lib.ListN.{length}
use borrow.Author.Tests.{ltb-false, not-false, eqb-true, eqb-false}
use Rattle.std.proofs.lemmas.Bool.{and_parts}
use Rattle.wire.proofs.NumberLaws.{num_at-part}
use Rattle.paper.specs.Layout.{change_at, subscription_at, restriction_at, plmn_count_at, plmns_at, ambr_at, least_answer, longest_answer, cancel_size, least_request, most_request}
use Rattle.paper.specs.Table.{valid, lookup, record_of, count_of}
use Rattle.paper.specs.Request.{is_request, is_name, Refusal, refusal}
use Rattle.paper.specs.Procedures.{imsi_field, experimental, carried_out}
use Rattle.paper.specs.Answer.{Reply, answer}
use Rattle.paper.specs.Outcome.{Lent, Outcome, silent, answered, refusal_reply, experimental_reply, success_reply, by_verdict, by_record, by_refusal, outcome}
use Rattle.paper.specs.Passed.{Passed}
use Rattle.paper.specs.Clerks.{fields_of_kind, held_in, standing_of}
use Rattle.paper.proofs.TestLaws.{or-false-left, or-false-right}
use Rattle.paper.proofs.RecordLaws.{range, apart, apart_from}
use Rattle.paper.proofs.StoreLaws.{long-valid}
use Rattle.paper.proofs.TableLaws.{lookup_some}
use Rattle.paper.proofs.ProcedureLaws.{request_ranges, Served, served_count, carried_served}
use Rattle.paper.proofs.AnswerSizes as Sizes
use Rattle.paper.proofs.AnswerSizes.{ReplyTo, answer-bound}
use Rattle.paper.proofs.AcceptedLaws.{accepted}

-- ---- the tests before an answer

-- the four tests that `Passed` speaks of
pub passed : (l : Lent) → ltb (length l.answer) least_answer || ltb (length l.cancel) cancel_size ≡ false → not (is_name l.host && is_name l.realm) ≡ false
    → not (valid l.table) ≡ false → ltb (length l.request) least_request || ltb most_request (length l.request) ≡ false → Passed l
passed l rooms names table size =
    let n = not-false (is_name l.host && is_name l.realm) names in
    record {
      answer_room = ltb-false (length l.answer) least_answer (or-false-left _ _ rooms);
      cancel_room = ltb-false (length l.cancel) cancel_size (or-false-right (ltb (length l.answer) least_answer) _ rooms);
      host_name = (and_parts (is_name l.host) (is_name l.realm) n).0;
      realm_name = (and_parts (is_name l.host) (is_name l.realm) n).1;
      table_valid = not-false (valid l.table) table;
      least = ltb-false (length l.request) least_request (or-false-left _ _ size);
      most = ltb-false most_request (length l.request) (or-false-right (ltb (length l.request) least_request) _ size);
    }

-- ---- the cases of an outcome

pub data Comes (l : Lent) : Outcome → Type 0 where
  silence : (n : ℕ) → Comes l (silent n l)
  refused : Passed l → (x : Refusal) → refusal l.request ≡ some x → Comes l (answered l l.table [] (refusal_reply x))
  ruled : Passed l → refusal l.request ≡ none → (code : ℕ) → Comes l (answered l l.table [] (experimental_reply code))
  done : Passed l → refusal l.request ≡ none → (i : ℕ) → lookup (imsi_field l.request) l.table ≡ some i
      → Comes l (answered l (carried_out l.request i l.table).table (carried_out l.request i l.table).entries (success_reply l.request (record_of l.table i) (carried_out l.request i l.table)))

module _ (l : Lent) (p : Passed l) (n : refusal l.request ≡ none) where
  verdict-comes : (i : ℕ) → lookup (imsi_field l.request) l.table ≡ some i → (o : Option ℕ) → Comes l (by_verdict l i (record_of l.table i) o)
  unfolding by_verdict
  verdict-comes i e (some code) = ruled p n code
  verdict-comes i e none = done p n i e

  record_comes : (o : Option ℕ) → lookup (imsi_field l.request) l.table ≡ o → Comes l (by_record l o)
  unfolding by_record
  record_comes none e = ruled p n 5001
  record_comes (some i) e = verdict-comes i e (experimental l.request (record_of l.table i))

refusal-comes : (l : Lent) → Passed l → (o : Option Refusal) → refusal l.request ≡ o → Comes l (by_refusal l o)
unfolding by_refusal
refusal-comes l p (some x) e = refused p x e
refusal-comes l p none e = record_comes l p e (lookup (imsi_field l.request) l.table) refl

pub outcome-comes : (l : Lent) → Comes l (outcome l)
unfolding outcome
outcome-comes l =
    go (ltb (length l.answer) least_answer || ltb (length l.cancel) cancel_size) refl (not (is_name l.host && is_name l.realm)) refl
    (not (valid l.table)) refl (ltb (length l.request) least_request || ltb most_request (length l.request)) refl (not (is_request l.request))
  where
    go : (a : Bool) → ltb (length l.answer) least_answer || ltb (length l.cancel) cancel_size ≡ a
        → (b : Bool) → not (is_name l.host && is_name l.realm) ≡ b
        → (c : Bool) → not (valid l.table) ≡ c
        → (d : Bool) → ltb (length l.request) least_request || ltb most_request (length l.request) ≡ d
        → (e : Bool)
        → Comes l (cond a (silent 3 l) (cond b (silent 5 l) (cond c (silent 4 l) (cond d (silent 1 l) (cond e (silent 2 l) (by_refusal l (refusal l.request)))))))
    go true p b q c r d s e = silence 3
    go false p true q c r d s e = silence 5
    go false p false q true r d s e = silence 4
    go false p false q false r true s e = silence 1
    go false p false q false r false s true = silence 2
    go false p false q false r false s false = refusal-comes l (passed l p q r s) (refusal l.request) refl

-- ---- sizes

module _ (l : Lent) (p : Passed l) {y : Reply} (t : ReplyTo l.request y) where
  reply_size : length (answer l.request l.host l.realm y) ≤ longest_answer
  reply_size = answer-bound l.request l.host l.realm p.least p.most p.host_name p.realm_name t

size-most : (l : Lent) (o : Outcome) → Comes l o → o.size ≤ longest_answer
unfolding silent answered
size-most l o (silence n) = omega arith
size-most l o (refused p x e) = reply_size l p (Sizes.refused x e)
size-most l o (ruled p n code) = reply_size l p (Sizes.experimental code n)
size-most l o (done p n i e) = reply_size l p (Sizes.success _ _ n)

-- "no answer is longer than 4,292"
pub outcome-size : (l : Lent) → (outcome l).size ≤ longest_answer
outcome-size l = size-most l (outcome l) (outcome-comes l)

-- ---- a refusal without an answer

-- "all buffers stay as they came"
pub record Left (l : Lent) (o : Outcome) : Type 0 where
  pub size : o.size ≡ 0
  pub table : o.table ≡ l.table
  pub answer : o.answer ≡ l.answer
  pub cancel : o.cancel ≡ l.cancel

-- ---- the table

-- the table as it came, or the record of the request's IMSI changed in what requests change
pub data Touched (l : Lent) : List ℕ → Type 0 where
  nothing : Touched l l.table
  own_record : (i : ℕ) → lookup (imsi_field l.request) l.table ≡ some i → valid l.table ≡ true → {t : List ℕ} → Served i l.table t → Touched l t

touched : (l : Lent) (o : Outcome) → Comes l o → Touched l o.table
unfolding silent answered
touched l o (silence n) = nothing
touched l o (refused p x e) = nothing
touched l o (ruled p n code) = nothing
touched l o (done p n i e) =
    let m = l.request in
    own_record i e p.table_valid (carried_served m i l.table (accepted m n) p.table_valid (lookup_some (imsi_field m) l.table i e).0)

-- "a request touches at most the record of its IMSI"
pub outcome_touched : (l : Lent) → Touched l (outcome l).table
outcome_touched l = touched l (outcome l) (outcome-comes l)

touched_valid : (l : Lent) (t : List ℕ) → Touched l t → valid l.table ≡ true → valid t ≡ true
touched_valid l t nothing e = e
touched_valid l t (own_record i f g s) e = s.still_valid

-- the table stays valid
pub outcome-valid : (l : Lent) → valid l.table ≡ true → valid (outcome l).table ≡ true
outcome-valid l = touched_valid l (outcome l).table (outcome_touched l)

-- what corrections alone alter of a record, its change number with it, by the ranges that requests leave
served-standing : (i : ℕ) (t t' : List ℕ) → valid t ≡ true → i < count_of t → Served i t t' → standing_of (record_of t' i) ≡ standing_of (record_of t i)
unfolding standing_of held_in fields_of_kind request_ranges apart_from apart
served-standing i t t' e h s =
    let kept = s.changed.own in
    let long = long-valid i t e h in
    let long' = long-valid i t' s.still_valid (served_count s h) in
    rw (num_at-part 4 (record_of t' i) change_at (omega arith), num_at-part 4 (record_of t i) change_at (omega arith), kept (range change_at 4) refl, kept (range subscription_at 1) refl, kept (range restriction_at 4) refl, kept (range plmn_count_at 1) refl, kept (range plmns_at 24) refl, kept (range ambr_at 8) refl)

touched_standing : (l : Lent) (t : List ℕ) → Touched l t → (j : ℕ) → standing_of (record_of t j) ≡ standing_of (record_of l.table j)
touched_standing l t nothing j = refl
touched_standing l t (own_record i f g s) j = go (eqb j i) refl
  where
    go : (b : Bool) → eqb j i ≡ b → standing_of (record_of t j) ≡ standing_of (record_of l.table j)
    go true q = rw (eqb-true j i q) (served-standing i l.table t g (lookup_some (imsi_field l.request) l.table i f).0 s)
    go false q = ap standing_of (s.changed.replaced.others j (eqb-false j i q))

-- "Requests never touch the change number", nor what corrections touch: of no record
pub outcome-standing : (l : Lent) (j : ℕ) → standing_of (record_of (outcome l).table j) ≡ standing_of (record_of l.table j)
outcome-standing l = touched_standing l (outcome l).table (outcome_touched l)
