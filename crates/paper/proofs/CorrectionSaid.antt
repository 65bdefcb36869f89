-- Each number of a correction is given exactly if its case is the first of 01's list that holds, and 15 for what the value would do to any right record.
-- Assumes nothing.
use mathlib.Core.Path.{◌≡◌, refl, sym, ap, ◌∙◌}
use mathlib.Core.Logic.{◌≢◌, ⊎_elim}
use mathlib.Core.Bool.{Bool, true, false, cond, ◌&&◌, ◌||◌, not, or-false, true≢false}
use mathlib.Core.Option.{Option, none, some}
use mathlib.Core.List.{List}
use Prim.Native.Nat.{ℕ, ◌+◌, ◌*◌, ◌≤◌, ◌<◌}
use native.Mathlib.Nat.{add-zero}
use native.Mathlib.Omega.{arith}
use lib.ListN.{length, get_or, length-drop}
use lib.Dec.{ltb, eqb}
use borrow.Author.Tests.{eqb-true, not-false}
use Rattle.wire.specs.Number.{num_at}
use Rattle.wire.specs.Put.{part}
use Rattle.wire.specs.Stretch.{same}
use Rattle.wire.proofs.StretchLaws.{same_true, same-equal, same_differ}
use Rattle.paper.specs.Table.{record_right, record_of, count_of, imsi_of, all_below, valid, lookup, change_of}
use Rattle.paper.specs.TableSaid.{RecordSaid}
use Rattle.paper.specs.Correction.{frame_head, frame_version, frame_kind, frame_imsi, frame_seen, frame_value, value_size, value_right, corrected}
use Rattle.paper.specs.Clerks.{record_at_place, record_with, is_none, no_record, cases, FirstThatHolds, with_value, ValueJudged}
use Rattle.paper.proofs.StoreLaws.{Corrects, subscription, restriction, plmns, ambr, corrects}
use Rattle.paper.proofs.TableLaws.{all_below_intro, all_below-false, valid_parts, part_of_record, number_of_record, imsi_once, lookup_some, none_found}
use Rattle.paper.proofs.TableSaid.{record_said, said_record}
use Rattle.paper.proofs.ValueLaws.{value_judged, plain-judged}
use Rattle.paper.proofs.CorrectionLaws.{length_value}
use Rattle.paper.proofs.CorrectionCases.{first_number, positive, first-number, number-first, none_number, number_none, tests, corrected-number, refused_alters_nothing}

-- two tests that agree, and what follows where they fail
cond_agree : (b d : Bool) (n : ℕ) {x y : ℕ} → b ≡ d → (b ≡ false → x ≡ y) → cond b n x ≡ cond d n y
cond_agree true d n e h = rw (← e)
cond_agree false d n e h = rw (← e) (h refl)

-- ---- the tests of the definition are 01's

value_sized : (f : List ℕ) → not (eqb (length f) (frame_head + value_size (frame_kind f))) ≡ false → length (frame_value f) ≡ value_size (frame_kind f)
value_sized f e = let h : length f ≡ frame_head + value_size (frame_kind f) = eqb-true _ _ (not-false _ e) in simp length-drop (omega arith)

-- 13: a kind has a size exactly if it is one of 01's
kind-said : (k : ℕ) → eqb (value_size k) 0 ≡ not (eqb k 1 || (eqb k 2 || (eqb k 3 || eqb k 4)))
unfolding value_size
kind-said k = go (eqb k 1) (eqb k 2) (eqb k 3) (eqb k 4)
  where
    go : (a b c d : Bool) → eqb (cond a 1 (cond b 4 (cond c 25 (cond d 8 0)))) 0 ≡ not (a || (b || (c || d)))
    go true b c d = refl
    go false true c d = refl
    go false false true d = refl
    go false false false true = refl
    go false false false false = refl

-- 14: the size is the kind's
size-said : (k n : ℕ) → Corrects k
    → eqb n (24 + value_size k) ≡ eqb k 1 && eqb n 25 || (eqb k 2 && eqb n 28 || (eqb k 3 && eqb n 49 || eqb k 4 && eqb n 32))
unfolding value_size
size-said k n subscription = sym (or-false (eqb n 25))
size-said k n restriction = sym (or-false (eqb n 28))
size-said k n plmns = sym (or-false (eqb n 49))
size-said k n ambr = refl

module _ (t : List ℕ) (right : valid t ≡ true) where
  imsi-bytes : (i : ℕ) → part (8 + 256 * i) 16 t ≡ imsi_of (record_of t i)
  imsi-bytes i = sym (simp add-zero at (part_of_record t i 0 16 (omega arith)))

  -- 16: no record has the IMSI
  imsi-said : (imsi : List ℕ) → is_none (lookup imsi t) ≡ no_record (λ at. same (part at 16 t) imsi) t
  unfolding no_record count_of
  imsi-said imsi = go (lookup imsi t) refl
    where
      go : (o : Option ℕ) → lookup imsi t ≡ o → is_none o ≡ all_below (λ i. not (same (part (8 + 256 * i) 16 t) imsi)) (num_at 2 t 6)
      go none e =
          sym (all_below_intro _ (num_at 2 t 6) (λ i h. ap not (same_differ (part (8 + 256 * i) 16 t) imsi (λ q. none_found imsi t i (valid_parts t right) e h (sym (imsi-bytes i) ∙ q)))))
      go (some i) e =
          let found = lookup_some imsi t i e in
          sym (all_below-false _ (num_at 2 t 6) i found.0 (ap not (same-equal (part (8 + 256 * i) 16 t) imsi (imsi-bytes i ∙ found.1))))

  -- 17: no record has the IMSI and the change number seen
  change-said : (imsi : List ℕ) (seen : ℕ) → is_none (lookup imsi t) ≡ false
      → not (eqb (change_of (record_with imsi t)) seen) ≡ no_record (λ at. same (part at 16 t) imsi && eqb (num_at 4 t (at + 16)) seen) t
  unfolding no_record count_of record_with record_at_place
  change-said imsi seen there = go (lookup imsi t) refl there
    where
      change-bytes : (i : ℕ) → num_at 4 t (8 + 256 * i + 16) ≡ change_of (record_of t i)
      change-bytes i = sym (number_of_record 4 t i 16 (omega arith))

      go : (o : Option ℕ) → lookup imsi t ≡ o → is_none o ≡ false
          → not (eqb (change_of (record_at_place o t)) seen) ≡ all_below (λ i. not (same (part (8 + 256 * i) 16 t) imsi && eqb (num_at 4 t (8 + 256 * i + 16)) seen)) (num_at 2 t 6)
      go none e q = absurd (true≢false q)
      go (some i) e q = decided (eqb (change_of (record_of t i)) seen) refl
        where
          found : (i < count_of t) × (imsi_of (record_of t i) ≡ imsi)
          found = lookup_some imsi t i e

          -- a record with this IMSI is that one
          differs : eqb (change_of (record_of t i)) seen ≡ false → (j : ℕ) → j < count_of t → (b : Bool) → same (part (8 + 256 * j) 16 t) imsi ≡ b
              → b && eqb (num_at 4 t (8 + 256 * j + 16)) seen ≡ false
          differs c j h false d = refl
          differs c j h true d =
              let one : j ≡ i = imsi_once t (valid_parts t right) j i h found.0 (sym (imsi-bytes j) ∙ same_true (part (8 + 256 * j) 16 t) imsi d ∙ sym found.1) in
              ap (λ (n : ℕ). eqb n seen) (change-bytes j ∙ ap (λ (k : ℕ). change_of (record_of t k)) one) ∙ c

          decided : (b : Bool) → eqb (change_of (record_of t i)) seen ≡ b
              → not b ≡ all_below (λ j. not (same (part (8 + 256 * j) 16 t) imsi && eqb (num_at 4 t (8 + 256 * j + 16)) seen)) (num_at 2 t 6)
          decided true c =
              sym (all_below-false _ (num_at 2 t 6) i found.0 (rw (same-equal (part (8 + 256 * i) 16 t) imsi (imsi-bytes i ∙ found.1), change-bytes i, c)))
          decided false c =
              sym (all_below_intro _ (num_at 2 t 6) (λ j h. ap not (differs c j h (same (part (8 + 256 * j) 16 t) imsi) refl)))

same_number : (t f : List ℕ) → first_number t f tests ≡ first_number t f cases
unfolding first_number tests cases
same_number t f =
    cond_agree (not (valid t)) _ 4 refl
    (λ right.
    cond_agree (ltb (length f) frame_head || not (eqb (num_at 2 f 0) (length f))) _ 11 refl
    (λ long.
    cond_agree (not (eqb (get_or f 2 0) frame_version)) _ 12 refl
    (λ version.
    cond_agree (eqb (value_size (frame_kind f)) 0) _ 13 (kind-said (frame_kind f))
    (λ kind.
    let k = corrects (frame_kind f) kind in
    cond_agree (not (eqb (length f) (frame_head + value_size (frame_kind f)))) _ 14 (ap not (size-said (frame_kind f) (length f) k))
    (λ sized.
    cond_agree (not (value_right (frame_kind f) (frame_value f))) _ 15 (ap not (sym (plain-judged (frame_kind f) (frame_value f) k (value_sized f sized))))
    (λ value.
    cond_agree (is_none (lookup (frame_imsi f) t)) _ 16 (imsi-said t (not-false _ right) (frame_imsi f))
    (λ there. ap (λ (b : Bool). cond b 17 0) (change-said t (not-false _ right) (frame_imsi f) (frame_seen f) there))))))))

-- each number in its case and in no other, and nothing changed where it is a refusal's
pub corrected-cases : (t f : List ℕ) → FirstThatHolds t f (corrected t f)
unfolding positive cases
corrected-cases t f =
    let e : (corrected t f).number ≡ first_number t f cases = corrected-number t f ∙ same_number t f in
    record {
      refused = λ m z. ((λ q. number-first t f cases m z (sym e ∙ q)), (λ h. e ∙ first-number h));
      success = ((λ q. number_none t f cases refl (sym e ∙ q)), (λ h. e ∙ none_number t f cases h));
      unchanged = refused_alters_nothing t f;
    }

-- ---- the value

-- a number that is not a test's is given behind it
behind : (b : Bool) (m x n : ℕ) → cond b m x ≡ n → m ≢ n → (b ≡ false) × (x ≡ n)
behind true m x n e z = absurd (z e)
behind false m x n e z = (refl, e)

-- 15 is given for its own test alone
fifteen : (value absent seen : Bool) → ◌≡◌ {A = ℕ} (cond (not value) 15 (cond absent 16 (cond (not seen) 17 0))) 15 → value ≡ false
fifteen false absent seen e = refl
fifteen true true seen e = absurd (omega arith)
fifteen true false true e = absurd (omega arith)
fifteen true false false e = absurd (omega arith)

-- a correction whose number is none of 4 and 11 to 14 has a value of its kind's size, and the value's test decides on 15
module _ (t f : List ℕ) (n : ℕ) (z : (m : ℕ) → 4 ≤ m → m ≤ 14 → m ≢ n) (e : (corrected t f).number ≡ n) where
  abbrev value : Bool
  value = value_right (frame_kind f) (frame_value f)

  abbrev absent : Bool
  absent = is_none (lookup (frame_imsi f) t)

  abbrev seen : Bool
  seen = eqb (change_of (record_with (frame_imsi f) t)) (frame_seen f)

  passed_to_value : Corrects (frame_kind f) × (length (frame_value f) ≡ value_size (frame_kind f)) × (cond (not value) 15 (cond absent 16 (cond (not seen) 17 0)) ≡ n)
  unfolding first_number tests
  passed_to_value =
      let e₀ = sym (corrected-number t f) ∙ e in
      let e₁ = behind (not (valid t)) 4 _ n e₀ (z 4 (omega arith) (omega arith)) in
      let e₂ = behind (ltb (length f) frame_head || not (eqb (num_at 2 f 0) (length f))) 11 _ n e₁.1 (z 11 (omega arith) (omega arith)) in
      let e₃ = behind (not (eqb (get_or f 2 0) frame_version)) 12 _ n e₂.1 (z 12 (omega arith) (omega arith)) in
      let e₄ = behind (eqb (value_size (frame_kind f)) 0) 13 _ n e₃.1 (z 13 (omega arith) (omega arith)) in
      let e₅ = behind (not (eqb (length f) (frame_head + value_size (frame_kind f)))) 14 _ n e₄.1 (z 14 (omega arith) (omega arith)) in
      (corrects (frame_kind f) e₄.0, value_sized f e₅.0, e₅.1)

  abbrev valued : List ℕ → List ℕ
  valued r = with_value (frame_kind f) (frame_value f) r

  valued_long : (r : List ℕ) → length r ≡ 256 → length (valued r) ≡ 256
  valued_long r long = let p = passed_to_value in length_value (frame_kind f) (frame_value f) r p.0 p.1 long

  value_in : (r : List ℕ) → length r ≡ 256 → RecordSaid r → record_right (valued r) ≡ value
  value_in r long right = let p = passed_to_value in value_judged (frame_kind f) (frame_value f) r p.0 p.1 long (said_record r long right)

  value_breaks : n ≡ 15 → (r : List ℕ) → length r ≡ 256 → RecordSaid r → RecordSaid (valued r) → ⊥
  value_breaks q r long right again =
      true≢false (sym (said_record (valued r) (valued_long r long) again) ∙ value_in r long right ∙ fifteen value absent seen (passed_to_value.2 ∙ q))

  value_keeps : 15 ≢ n → (r : List ℕ) → length r ≡ 256 → RecordSaid r → RecordSaid (valued r)
  value_keeps q r long right =
      record_said (valued r) (valued_long r long) (value_in r long right ∙ not-false _ (behind (not value) 15 _ n passed_to_value.2 q).0)

-- a refused value breaks every right record, any other keeps every right record right
pub value_of_correction : (t f : List ℕ) → ValueJudged f (corrected t f)
value_of_correction t f =
    record {
      breaks = λ e. value_breaks t f 15 (λ m a b q. omega arith) e refl;
      keeps = ⊎_elim (kept 0 (λ m a b q. omega arith)) (⊎_elim (kept 16 (λ m a b q. omega arith)) (kept 17 (λ m a b q. omega arith)));
    }
  where
    kept : (n : ℕ) → ((m : ℕ) → 4 ≤ m → m ≤ 15 → m ≢ n) → (corrected t f).number ≡ n → (r : List ℕ) → length r ≡ 256 → RecordSaid r → RecordSaid (with_value (frame_kind f) (frame_value f) r)
    kept n z e = value_keeps t f n (λ m a b. z m a (omega arith)) e (z 15 (omega arith) (omega arith))
