-- Promise: nothing else is touched, by a request, by a refusal with an answer, by one without.
-- Assumes nothing.
use mathlib.Core.Path.{◌≡◌, refl, sym, ap, ◌∙◌, subst}
use mathlib.Core.Logic.{◌≢◌, ◌⊎◌, inl, inr}
use mathlib.Core.Bool.{Bool, true, false, ◌&&◌, ◌||◌, or-true}
use mathlib.Core.List.{List, [], ◌∷◌, map}
use Prim.Native.Nat.{ℕ, ◌+◌, ◌≤◌, ◌<◌}
use native.Mathlib.Nat.{zero-add}
use native.Mathlib.Omega.{arith}
use lib.Dec.{leb, ltb, eqb}
use lib.ListN.{length, take, drop, get_or, replicate}
use borrow.Author.Tests.{le-leb, eqb-true, eqb-false}
use Rattle.std.proofs.lemmas.Bool.{and_from}
use Rattle.wire.specs.Put.{put}
use Rattle.wire.proofs.PutLaws.{take_put, drop-put}
use Rattle.paper.specs.Layout.{imsi_at, imsi_size, most_entries}
use Rattle.paper.specs.Table.{lookup, record_of, imsi_of}
use Rattle.paper.specs.Procedures.{Entry, imsi_field, cancel_bytes}
use Rattle.paper.specs.Clerks.{Field, lies_in}
use Rattle.paper.specs.Answer.{Reply, answer}
use Rattle.paper.specs.Outcome.{Lent, Outcome, silent, answered, refusal_reply, experimental_reply, success_reply, outcome}
use Rattle.paper.specs.Refusals.{number, result, experimental, said_by, said}
use Rattle.paper.specs.Untouched.{request_fields, OnlyItsRecord, NoRecord, NoByte}
use Rattle.paper.proofs.TestLaws.{or-false-left, or-false-right}
use Rattle.paper.proofs.CorrectionFields.{outside}
use Rattle.paper.proofs.RecordLaws.{range, apart, apart_from, DifferIn}
use Rattle.paper.proofs.TableLaws.{lookup_some, replaced_lookup}
use Rattle.paper.proofs.ProcedureLaws.{request_ranges, length-cancel}
use Rattle.paper.proofs.OutcomeLaws.{Comes, silence, refused, ruled, done, outcome-comes, Touched, nothing, own_record, outcome_touched, outcome-valid, outcome-standing}
use Rattle.paper.proofs.PromiseFields.{first_of_field}

-- ---- the table

-- a byte outside a field
apart_outside : (x : Field) (at : ℕ) → leb x.at at && ltb at (x.at + x.size) ≡ false → apart (range x.at x.size) (range at 1) ≡ true
unfolding apart
apart_outside x at e = go (outside x at e)
  where
    go : (at < x.at) ⊎ (x.at + x.size ≤ at) → leb (x.at + x.size) at || leb (at + 1) x.at ≡ true
    go (inl h) = rw (le-leb (at + 1) x.at (omega arith)) (or-true (leb (x.at + x.size) at))
    go (inr h) = rw (le-leb (x.at + x.size) at h)

apart_fields : (xs : List Field) (at : ℕ) → lies_in xs at ≡ false → apart_from (map (λ x. range x.at x.size) xs) (range at 1) ≡ true
unfolding lies_in apart_from
apart_fields [] at e = refl
apart_fields (x ∷ xs) at e =
    and_from _ _ (apart_outside x at (or-false-left _ (lies_in xs at) e)) (apart_fields xs at (or-false-right (leb x.at at && ltb at (x.at + x.size)) (lies_in xs at) e))

-- a byte that no request alters
apart_byte : (at : ℕ) → lies_in request_fields at ≡ false → apart_from request_ranges (range at 1) ≡ true
unfolding request_fields request_ranges
apart_byte at e = apart_fields request_fields at e

same_byte : (r r' : List ℕ) (at : ℕ) → DifferIn request_ranges r r' → lies_in request_fields at ≡ false → get_or r' at 0 ≡ get_or r at 0
same_byte r r' at d e =
    sym (first_of_field at 0 r') ∙ ap (λ (s : List ℕ). get_or s 0 0) (d (range at 1) (apart_byte at e)) ∙ first_of_field at 0 r

module _ (l : Lent) where
  touched_size : (t : List ℕ) → Touched l t → length t ≡ length l.table
  touched_size t nothing = refl
  touched_size t (own_record i f v s) = s.changed.replaced.same_length

  touched_header : (t : List ℕ) → Touched l t → take 8 t ≡ take 8 l.table
  touched_header t nothing = refl
  touched_header t (own_record i f v s) = s.changed.replaced.same-header

  touched_others : (t : List ℕ) → Touched l t → (j : ℕ) → imsi_of (record_of l.table j) ≢ imsi_field l.request → record_of t j ≡ record_of l.table j
  touched_others t nothing j ne = refl
  touched_others t (own_record i f v s) j ne =
      s.changed.replaced.others j (λ q. ne (ap (λ (k : ℕ). imsi_of (record_of l.table k)) q ∙ (lookup_some (imsi_field l.request) l.table i f).1))

  touched_bytes : (t : List ℕ) → Touched l t → (j at : ℕ) → lies_in request_fields at ≡ false → get_or (record_of t j) at 0 ≡ get_or (record_of l.table j) at 0
  touched_bytes t nothing j at e = refl
  touched_bytes t (own_record i f v s) j at e = go (eqb j i) refl
    where
      go : (b : Bool) → eqb j i ≡ b → get_or (record_of t j) at 0 ≡ get_or (record_of l.table j) at 0
      go true q = rw (eqb-true j i q) (same_byte (record_of l.table i) (record_of t i) at s.changed.own e)
      go false q = ap (λ (r : List ℕ). get_or r at 0) (s.changed.replaced.others j (eqb-false j i q))

  -- every IMSI is found where it was
  touched_lookup : (t : List ℕ) → Touched l t → (imsi : List ℕ) → lookup imsi t ≡ lookup imsi l.table
  unfolding request_ranges apart_from apart
  touched_lookup t nothing imsi = refl
  touched_lookup t (own_record i f v s) imsi = replaced_lookup i _ l.table t s.changed.replaced (s.changed.own (range imsi_at imsi_size) refl) imsi

  pub outcome-lookup : (imsi : List ℕ) → lookup imsi (outcome l).table ≡ lookup imsi l.table
  outcome-lookup = touched_lookup (outcome l).table (outcome_touched l)

-- ---- the buffers

module _ (l : Lent) where
  behind : (xs buffer : List ℕ) → drop (length xs) (put 0 xs buffer) ≡ drop (length xs) buffer
  behind xs buffer = rw zero-add at (drop-put 0 xs buffer (omega arith))

  before-behind : (xs buffer : List ℕ) → take (length xs) (put 0 xs buffer) ≡ xs
  before-behind xs buffer = rw zero-add at (take_put 0 xs buffer (omega arith))

  answered-behind : (t : List ℕ) (es : List Entry) (y : Reply) → drop (answered l t es y).size (answered l t es y).answer ≡ drop (answered l t es y).size l.answer
  unfolding answered
  answered-behind t es y = behind (answer l.request l.host l.realm y) l.answer

  answer-behind : (o : Outcome) → Comes l o → drop o.size o.answer ≡ drop o.size l.answer
  unfolding silent
  answer-behind o (silence n) = refl
  answer-behind o (refused p x e) = answered-behind _ _ _
  answer-behind o (ruled p n code) = answered-behind _ _ _
  answer-behind o (done p n i e) = answered-behind _ _ _

  entries-behind : (es : List Entry) → length (cancel_bytes most_entries es) ≡ 136 → drop 136 (put 0 (cancel_bytes most_entries es) l.cancel) ≡ drop 136 l.cancel
  entries-behind es n = subst (λ (k : ℕ). drop k (put 0 (cancel_bytes most_entries es) l.cancel) ≡ drop k l.cancel) n (behind (cancel_bytes most_entries es) l.cancel)

  no_entries : length (cancel_bytes most_entries []) ≡ 136
  unfolding cancel_bytes
  no_entries = refl

  cancel-behind : (o : Outcome) → Comes l o → drop 136 o.cancel ≡ drop 136 l.cancel
  unfolding silent answered
  cancel-behind o (silence n) = refl
  cancel-behind o (refused p x e) = entries-behind [] no_entries
  cancel-behind o (ruled p n code) = entries-behind [] no_entries
  cancel-behind o (done p n i e) = entries-behind _ (length-cancel l.request i l.table p.table_valid (lookup_some (imsi_field l.request) l.table i e).0)

  zero-entries : take 136 (put 0 (cancel_bytes most_entries []) l.cancel) ≡ replicate 136 0
  unfolding cancel_bytes
  zero-entries = before-behind (cancel_bytes most_entries []) l.cancel

-- "a request alters at most the record of its IMSI"
pub only_its_record : (l : Lent) → OnlyItsRecord l (outcome l)
only_its_record l =
    let t = outcome_touched l in
    record {
      size = touched_size l (outcome l).table t;
      header = touched_header l (outcome l).table t;
      others = touched_others l (outcome l).table t;
      bytes = touched_bytes l (outcome l).table t;
      standing = outcome-standing l;
      still_valid = outcome-valid l;
      later_answer = answer-behind l (outcome l) (outcome-comes l);
      later_cancel = cancel-behind l (outcome l) (outcome-comes l);
    }

-- ---- refusals

module _ (l : Lent) where
  by_result : (code : ℕ) → code ≢ 2001 → (o : Outcome) → Comes l o → said o ≡ result code → NoRecord l o
  unfolding said said_by silent answered success_reply
  by_result code ne o (silence n) e = let z : ◌≡◌ {A = ℕ} 0 1 = cc in absurd (omega arith)
  by_result code ne o (refused p x r) e = record { table = refl; cancel = zero-entries l }
  by_result code ne o (ruled p n c) e = record { table = refl; cancel = zero-entries l }
  by_result code ne o (done p n i f) e = let c : code ≡ 2001 = cc in absurd (ne c)

  by-experimental : (code : ℕ) (o : Outcome) → Comes l o → said o ≡ experimental code → NoRecord l o
  unfolding said said_by silent answered success_reply
  by-experimental code o (silence n) e = let z : ◌≡◌ {A = ℕ} 0 1 = cc in absurd (omega arith)
  by-experimental code o (refused p x r) e = record { table = refl; cancel = zero-entries l }
  by-experimental code o (ruled p n c) e = record { table = refl; cancel = zero-entries l }
  by-experimental code o (done p n i f) e = let z : ◌≡◌ {A = ℕ} 0 1 = cc in absurd (omega arith)

  -- a Result-Code other than 2001
  pub result_alters_nothing : (code : ℕ) → code ≢ 2001 → said (outcome l) ≡ result code → NoRecord l (outcome l)
  result_alters_nothing code ne e = by_result code ne (outcome l) (outcome-comes l) e

  pub experimental_alters_nothing : (code : ℕ) → said (outcome l) ≡ experimental code → NoRecord l (outcome l)
  experimental_alters_nothing code e = by-experimental code (outcome l) (outcome-comes l) e

  by_number : (n : ℕ) (o : Outcome) → Comes l o → said o ≡ number n → NoByte l o
  unfolding said said_by silent answered refusal_reply experimental_reply success_reply
  by_number n o (silence k) e = record { size = refl; listed = refl; table = refl; answer = refl; cancel = refl }
  by_number n o (refused p x r) e = let z : ◌≡◌ {A = ℕ} 0 1 = cc in absurd (omega arith)
  by_number n o (ruled p r c) e = let z : ◌≡◌ {A = ℕ} 0 1 = cc in absurd (omega arith)
  by_number n o (done p r i f) e = let z : ◌≡◌ {A = ℕ} 0 1 = cc in absurd (omega arith)

  -- a refusal without an answer
  pub number_alters_nothing : (n : ℕ) → said (outcome l) ≡ number n → NoByte l (outcome l)
  number_alters_nothing n e = by_number n (outcome l) (outcome-comes l) e
