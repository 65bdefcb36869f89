-- What each test of a correction says of the judgement: the first that fails is the refusal, and past all of them the record decides.
-- Assumes nothing.
use Rattle.std.proofs.Common.{◌≡◌, ℕ, ◌+◌, ◌-◌, ◌<◌, ◌≤◌, Bool, true, false, not, ◌||◌, eqb, ltb, ◌≢◌, List, length, get_or, take, drop, Result, Ok, Err, IfOk, MatchResult, sym, refl, ap, ◌∙◌, subst, arith, length-drop, le-ltb, lt-ltb, eq-eqb, ne_eqb}
use Rattle.std.proofs.lemmas.Result.{MatchResult-weaker}
use mathlib.Core.Option.{Option, none, some}
use Rattle.wire.specs.Number.{num_at}
use Rattle.paper.specs.Table.{valid, lookup, record_of, change_of}
use Rattle.paper.specs.Correction.{frame_head, frame_version, frame_kind, frame_imsi, frame_seen, frame_value, value_size, value_right, Corrected, accepted, refused, on_record, corrected}
use Rattle.paper.specs.Clerks.{first, later}
use Rattle.paper.proofs.CorrectionCases.{tests}
use Rattle.paper.proofs.TableLaws.{valid_parts, lookup-inside}
use Rattle.paper.proofs.CorrectionLaws.{first-refused, comes_to_record, on_record_accepted}
use Rattle.correction.specs.declared.kind.Kind.{Kind}
use Rattle.correction.specs.declared.kind.Kind.TheVariants.{Subscription, Restriction, Plmns, Ambr}
use Rattle.correction.specs.declared.refusal.Refusal.{Refusal}
use Rattle.correction.specs.declared.refusal.Refusal.TheVariants.{LengthWrong, VersionWrong, KindUnknown, LengthWrongForKind, ValueNotValid, NoSuchImsi, ChangeDiffers}
use Rattle.correction.specs.Kind.{code_of, Decodes}
use Rattle.correction.specs.declared.judge.Accepted.{Accepted}
use Rattle.correction.specs.Refusal.{came_to}
use Rattle.correction.specs.Judged.{HeadRight, ValueRight, Refused, RecordFound, RecordRefused, judged_as, Ready, Judges}
use Rattle.correction.proofs.KindLaws.{rest-whole}

or_right : (a b : Bool) → b ≡ true → a || b ≡ true
or_right true b e = refl
or_right false b e = e

pub table-not-valid : (t f : List ℕ) → valid t ≡ false → corrected t f ≡ refused 4 t
unfolding tests
table-not-valid t f e = first-refused t f 4 (λ q. absurd (omega arith)) (first (ap not e))

-- ---- the head of a frame

module _ (f : List ℕ) where
  length-wrong : ltb (length f) frame_head || not (eqb (num_at 2 f 0) (length f)) ≡ true → Refused f LengthWrong
  unfolding tests
  length-wrong e t right = first-refused t f 11 (λ q. absurd (omega arith)) (later (ap not right) (first e))

  pub too_short : length f < frame_head → Refused f LengthWrong
  too_short h = length-wrong (ap (λ (b : Bool). b || not (eqb (num_at 2 f 0) (length f))) (lt-ltb (length f) frame_head h))

  pub length_differs : (num_at 2 f 0 ≡ length f → ⊥) → Refused f LengthWrong
  length_differs h = length-wrong (or_right (ltb (length f) frame_head) (not (eqb (num_at 2 f 0) (length f))) (ap not (ne_eqb (num_at 2 f 0) (length f) h)))

  length-right : frame_head ≤ length f → num_at 2 f 0 ≡ length f → ltb (length f) frame_head || not (eqb (num_at 2 f 0) (length f)) ≡ false
  length-right long whole = rw (le-ltb (length f) frame_head long, eq-eqb (num_at 2 f 0) (length f) whole)

  version-right : get_or f 2 0 ≡ frame_version → not (eqb (get_or f 2 0) frame_version) ≡ false
  version-right version = ap not (eq-eqb (get_or f 2 0) frame_version version)

  module _ (long : frame_head ≤ length f) (whole : num_at 2 f 0 ≡ length f) where
    pub version_differs : (get_or f 2 0 ≡ frame_version → ⊥) → Refused f VersionWrong
    unfolding tests
    version_differs h t right =
        first-refused t f 12 (λ q. absurd (omega arith)) (later (ap not right) (later (length-right long whole) (first (ap not (ne_eqb (get_or f 2 0) frame_version h)))))

    module _ (version : get_or f 2 0 ≡ frame_version) where
      pub kind-unknown : value_size (frame_kind f) ≡ 0 → Refused f KindUnknown
      unfolding tests
      kind-unknown e t right =
          first-refused t f 13 (λ q. absurd (omega arith))
          (later (ap not right) (later (length-right long whole) (later (version-right version) (first (eq-eqb (value_size (frame_kind f)) 0 e)))))

      -- the kind decides, past the tests before it
      pub kind_decides : (r : Result Kind Refusal) → Decodes (frame_kind f) r → MatchResult r (HeadRight f) (Refused f)
      kind_decides r d =
          MatchResult-weaker r d (λ k e. record { long = long; whole = whole; version = version; kind = e })
          (λ a h. rw h.0 (kind-unknown h.1))

-- ---- the value

size-positive : (k : Kind) → value_size (code_of k) ≢ 0
unfolding value_size
size-positive Subscription e = absurd (omega arith)
size-positive Restriction e = absurd (omega arith)
size-positive Plmns e = absurd (omega arith)
size-positive Ambr e = absurd (omega arith)

module _ {f : List ℕ} {k : Kind} (head : HeadRight f k) where
  kind-right : eqb (value_size (frame_kind f)) 0 ≡ false
  kind-right = ne_eqb (value_size (frame_kind f)) 0 (λ e. size-positive k (ap value_size head.kind ∙ e))

  -- the part behind the head, as code lends it, has the size of the kind
  pub sized_as : {n : ℕ} → n ≡ value_size (code_of k) → length (take (length f - frame_head) (drop frame_head f)) ≡ n → length f ≡ frame_head + value_size (frame_kind f)
  sized_as e h =
      let l = head.long in
      let s = ap length (rest-whole frame_head f) ∙ length-drop frame_head f in
      let z = ap value_size head.kind in
      omega arith

  as_sized : {n : ℕ} → n ≡ value_size (code_of k) → length f ≡ frame_head + value_size (frame_kind f) → length (take (length f - frame_head) (drop frame_head f)) ≡ n
  as_sized e h =
      let s = ap length (rest-whole frame_head f) ∙ length-drop frame_head f in
      let z = ap value_size head.kind in
      omega arith

  -- the value that code tests is the frame's
  pub value_tested : {b : Bool} → b ≡ value_right (code_of k) (take (length f - frame_head) (drop frame_head f)) → value_right (frame_kind f) (frame_value f) ≡ b
  value_tested e = rw (← head.kind) (ap (value_right (code_of k)) (sym (rest-whole frame_head f)) ∙ sym e)

  size-wrong : (length f ≡ frame_head + value_size (frame_kind f) → ⊥) → Refused f LengthWrongForKind
  unfolding tests
  size-wrong h t right =
      first-refused t f 14 (λ q. absurd (omega arith))
      (later (ap not right) (later (length-right f head.long head.whole) (later (version-right f head.version) (later kind-right (first (ap not (ne_eqb (length f) (frame_head + value_size (frame_kind f)) h)))))))

  pub size_differs : {n : ℕ} → n ≡ value_size (code_of k) → (length (take (length f - frame_head) (drop frame_head f)) ≡ n → ⊥) → Refused f LengthWrongForKind
  size_differs e h = size-wrong (λ q. h (as_sized e q))

  size-right : length f ≡ frame_head + value_size (frame_kind f) → not (eqb (length f) (frame_head + value_size (frame_kind f))) ≡ false
  size-right sized = ap not (eq-eqb (length f) (frame_head + value_size (frame_kind f)) sized)

  pub value_not-valid : length f ≡ frame_head + value_size (frame_kind f) → value_right (frame_kind f) (frame_value f) ≡ false → Refused f ValueNotValid
  unfolding tests
  value_not-valid sized e t right =
      first-refused t f 15 (λ q. absurd (omega arith))
      (later (ap not right) (later (length-right f head.long head.whole) (later (version-right f head.version) (later kind-right (later (size-right sized) (first (ap not e)))))))

  -- past the tests of the frame the record decides
  pub record_decides : ValueRight f → (t : List ℕ) → valid t ≡ true → corrected t f ≡ on_record (lookup (frame_imsi f) t) f t
  record_decides v t right =
      comes_to_record t f right (length-right f head.long head.whole) (version-right f head.version) kind-right (eq-eqb (length f) (frame_head + value_size (frame_kind f)) v.sized) v.right

-- ---- the record

pub no_such_imsi : (t f : List ℕ) → lookup (frame_imsi f) t ≡ none → RecordRefused t f NoSuchImsi
unfolding on_record
no_such_imsi t f e = ap (λ (o : Option ℕ). on_record o f t) e

module _ (t f : List ℕ) (i : ℕ) (found : lookup (frame_imsi f) t ≡ some i) where
  pub change_differs : (change_of (record_of t i) ≡ frame_seen f → ⊥) → RecordRefused t f ChangeDiffers
  unfolding on_record
  change_differs h = rw (found, ne_eqb (change_of (record_of t i)) (frame_seen f) h)

  pub accepts_record : valid t ≡ true → change_of (record_of t i) ≡ frame_seen f → RecordFound t f i
  accepts_record right e =
      record { inside = lookup-inside (frame_imsi f) t i (valid_parts t right) found; accepts = on_record_accepted t f i found (eq-eqb (change_of (record_of t i)) (frame_seen f) e) }

-- ---- what a judgement comes to, once it is carried out

module _ {t f : List ℕ} {x : Corrected} {r : Result Accepted Refusal} (j : Judges r t f x) where
  pub refused_came_to : (e : Refusal) → r ≡ Err e → came_to (Err e) t ≡ x
  unfolding refused
  refused_came_to e q = sym (ap (λ (p : Result Accepted Refusal). judged_as p t f) q) ∙ j.outcome

  pub accepted-ready : (a : Accepted) → r ≡ Ok a → Ready a t f
  accepted-ready a q = subst (λ (p : Result Accepted Refusal). IfOk p (λ b. Ready b t f)) q j.ready

  pub accepted_came_to : (a : Accepted) (u : List ℕ) → r ≡ Ok a → u ≡ (accepted a.record f t).table → came_to (Ok tt) u ≡ x
  unfolding accepted
  accepted_came_to a u q s = ap (came_to (Ok tt)) s ∙ sym (ap (λ (p : Result Accepted Refusal). judged_as p t f) q) ∙ j.outcome
