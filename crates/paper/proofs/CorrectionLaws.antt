-- What an accepted correction does to the table: the value and the next change number in the record that the frame names, and nothing else.
-- Assumes nothing.
use mathlib.Core.Path.{◌≡◌, refl, sym, ap, ◌∙◌, subst}
use mathlib.Core.Logic.{◌⊎◌, inl, inr, ◌≢◌}
use mathlib.Core.Bool.{Bool, true, false, ◌&&◌, ◌||◌, not, true≢false}
use mathlib.Core.Option.{Option, none, some}
use mathlib.Core.List.{List, ◌∷◌}
use Prim.Native.Nat.{ℕ, ◌+◌, ◌^◌, ◌≤◌, ◌<◌}
use native.Mathlib.Omega.{arith}
use lib.ListN.{length, take, drop, get_or, length-drop}
use lib.Seq.{take-length}
use lib.Dec.{leb, ltb, eqb}
use borrow.Author.Tests.{eqb-true, eqb-false, not-false, not-true}
use Rattle.std.proofs.lemmas.Bool.{and_parts}
use Rattle.wire.specs.Number.{be, num_at}
use Rattle.wire.specs.Put.{put}
use Rattle.wire.proofs.PutLaws.{put-before, put-after, read_back}
use Rattle.paper.specs.Layout.{record_size, change_at, subscription_at, restriction_at, plmn_count_at, plmns_at, ambr_at}
use Rattle.paper.specs.Table.{record_right, record_at, record_of, count_of, imsi_of, change_of, valid, lookup}
use Rattle.paper.specs.Correction.{frame_head, frame_version, frame_kind, frame_imsi, frame_seen, frame_value, value_size, value_right, store_value, next_change, accepted, refused, on_record, corrected}
use Rattle.paper.specs.Clerks.{record_at_place, record_with, is_none, First, none_holds, with_value, change_field, fields_of_kind, held_in, lies_in, Alters}
use Rattle.paper.proofs.TableLaws.{Valid, valid_parts, valid-whole, length_record, lookup_some, lookup-inside, Replaced, replaced_then, replaced_store, replaced_valid, replaced_lookup, imsi-put}
use Rattle.paper.proofs.FieldLaws.{free_right, change_free}
use Rattle.paper.proofs.StoreLaws.{Corrects, subscription, restriction, plmns, ambr, corrects, replaced_value, value_right_lem, imsi_value}
use Rattle.paper.proofs.CorrectionCases.{tests, first-number, corrected-number, refused_alters_nothing, no_case_holds}
use Rattle.paper.proofs.TestLaws.{or-false-left, or-false-right}
use Rattle.paper.proofs.CorrectionFields.{put_fields, size_of, Ascend, length_put_fields, held_put_fields, byte_put_fields, held_behind, outside}

-- ---- kinds

-- the fields of a kind stand one behind the other, behind the change number, and take the value whole
kind-fields : (k : ℕ) → Corrects k → (size_of (fields_of_kind k) ≡ value_size k) × Ascend (change_at + 4) (fields_of_kind k) record_size
unfolding value_size fields_of_kind
kind-fields k subscription = (refl, (omega arith, omega arith))
kind-fields k restriction = (refl, (omega arith, omega arith))
kind-fields k plmns = (refl, (omega arith, (omega arith, omega arith)))
kind-fields k ambr = (refl, (omega arith, omega arith))

whole_take : (n : ℕ) (v : List ℕ) → length v ≡ n → v ≡ take n v
whole_take n v e = sym (ap (λ (m : ℕ). take m v) (sym e) ∙ take-length v)

-- a kind's value goes into the kind's fields
value_fields : (k : ℕ) (v r : List ℕ) → Corrects k → length v ≡ value_size k → with_value k v r ≡ put_fields (fields_of_kind k) v r
unfolding value_size fields_of_kind with_value put_fields
value_fields k v r subscription e = ap (λ (x : List ℕ). put subscription_at x r) (whole_take 1 v e)
value_fields k v r restriction e = ap (λ (x : List ℕ). put restriction_at x r) (whole_take 4 v e)
value_fields k v r plmns e = ap (λ (x : List ℕ). put plmns_at x (put plmn_count_at (take 1 v) r)) (whole_take 24 (drop 1 v) (simp length-drop (omega arith)))
value_fields k v r ambr e = ap (λ (x : List ℕ). put ambr_at x r) (whole_take 8 v e)

pub length_value : (k : ℕ) (v r : List ℕ) → Corrects k → length v ≡ value_size k → length r ≡ record_size → length (with_value k v r) ≡ record_size
length_value k v r kind sized long =
    ap length (value_fields k v r kind sized)
    ∙ length_put_fields (fields_of_kind k) v r (change_at + 4) ((kind-fields k kind).0 ∙ sym sized) (rw long (kind-fields k kind).1)
    ∙ long

-- ---- the record that a correction leaves

-- the value `v` of kind `k`, and `n` as the change number
corrected_record : ℕ → List ℕ → ℕ → List ℕ → List ℕ
corrected_record k v n r = put change_at (be 4 n) (with_value k v r)

module _ (k n : ℕ) (v r : List ℕ) (kind : Corrects k) (sized : length v ≡ value_size k) (long : length r ≡ record_size) (small : n < 2 ^ 32) where
  fields-size : size_of (fields_of_kind k) ≡ length v
  fields-size = (kind-fields k kind).0 ∙ sym sized

  fields_ascend : Ascend (change_at + 4) (fields_of_kind k) (length r)
  fields_ascend = rw long (kind-fields k kind).1

  -- the record with the value, before its change number is counted
  abbrev valued : List ℕ
  valued = with_value k v r

  valued_long : length valued ≡ record_size
  valued_long = length_value k v r kind sized long

  record_change : change_of (corrected_record k v n r) ≡ n
  unfolding corrected_record
  record_change = let h = valued_long in read_back change_at 4 n valued (omega arith) small

  record_held : held_in (fields_of_kind k) (corrected_record k v n r) ≡ v
  unfolding corrected_record
  record_held =
      let h = valued_long in
      held_behind (fields_of_kind k) change_at (be 4 n) valued (omega arith) (rw h (kind-fields k kind).1)
      ∙ ap (held_in (fields_of_kind k)) (value_fields k v r kind sized)
      ∙ held_put_fields (fields_of_kind k) v r (change_at + 4) fields-size fields_ascend

  record_byte : (at : ℕ) → lies_in (change_field ∷ fields_of_kind k) at ≡ false → get_or (corrected_record k v n r) at 0 ≡ get_or r at 0
  unfolding corrected_record lies_in
  record_byte at e =
      go (outside change_field at (or-false-left (leb change_at at && ltb at (change_at + 4)) (lies_in (fields_of_kind k) at) e))
      ∙ ap (λ (l : List ℕ). get_or l at 0) (value_fields k v r kind sized)
      ∙ byte_put_fields (fields_of_kind k) v r (change_at + 4) at fields-size fields_ascend (or-false-right (leb change_at at && ltb at (change_at + 4)) (lies_in (fields_of_kind k) at) e)
    where
      go : (at < change_at) ⊎ (change_at + 4 ≤ at) → get_or (put change_at (be 4 n) valued) at 0 ≡ get_or valued at 0
      go (inl h) = let l = valued_long in put-before change_at at (be 4 n) valued (omega arith) h
      go (inr h) = let l = valued_long in put-after change_at at (be 4 n) valued (omega arith) h

  record_imsi : imsi_of (corrected_record k v n r) ≡ imsi_of r
  unfolding corrected_record
  record_imsi = let h = valued_long in imsi-put change_at (be 4 n) valued (omega arith) (omega arith) ∙ imsi_value k v r kind sized long

  record_right_lem : value_right k v ≡ true → record_right r ≡ true → record_right (corrected_record k v n r) ≡ true
  unfolding corrected_record
  record_right_lem g right = let h = valued_long in free_right change_at 4 (be 4 n) valued change_free refl (omega arith) (value_right_lem k v r kind sized g long right)

-- ---- an accepted frame

-- what an accepted frame has passed
pub record Passed (t f : List ℕ) : Type 0 where
  pub right : valid t ≡ true
  pub kind : Corrects (frame_kind f)
  pub sized : length f ≡ frame_head + value_size (frame_kind f)
  pub value : value_right (frame_kind f) (frame_value f) ≡ true
  pub place : ℕ
  pub found : lookup (frame_imsi f) t ≡ some place
  pub seen : change_of (record_of t place) ≡ frame_seen f
  pub comes_to_lem : corrected t f ≡ accepted place f t

-- a frame that passes the tests of its own bytes comes to what the record says
pub comes_to_record : (t f : List ℕ) → valid t ≡ true → ltb (length f) frame_head || not (eqb (num_at 2 f 0) (length f)) ≡ false
    → not (eqb (get_or f 2 0) frame_version) ≡ false → eqb (value_size (frame_kind f)) 0 ≡ false → eqb (length f) (frame_head + value_size (frame_kind f)) ≡ true
    → value_right (frame_kind f) (frame_value f) ≡ true → corrected t f ≡ on_record (lookup (frame_imsi f) t) f t
unfolding corrected
comes_to_record t f e₀ e₁ e₂ e₃ e₄ e₅ = rw (e₀, e₁, e₂, e₃, e₄, e₅)

pub on_record_accepted : (t f : List ℕ) (i : ℕ) → lookup (frame_imsi f) t ≡ some i → eqb (change_of (record_of t i)) (frame_seen f) ≡ true
    → on_record (lookup (frame_imsi f) t) f t ≡ accepted i f t
unfolding on_record
on_record_accepted t f i e₀ e₁ = rw (e₀, e₁)

some_place : (o : Option ℕ) → is_none o ≡ false → (i : ℕ) × (o ≡ some i)
some_place none e = absurd (true≢false e)
some_place (some i) e = (i, refl)

pub passed : (t f : List ℕ) → (corrected t f).number ≡ 0 → Passed t f
unfolding none_holds tests record_with record_at_place
passed t f e =
    let n₀ = no_case_holds t f e in
    let n₁ = (and_parts (not (not (valid t))) _ n₀).1 in
    let short = ltb (length f) frame_head || not (eqb (num_at 2 f 0) (length f)) in
    let n₂ = (and_parts (not short) _ n₁).1 in
    let version = not (eqb (get_or f 2 0) frame_version) in
    let n₃ = (and_parts (not version) _ n₂).1 in
    let kind = eqb (value_size (frame_kind f)) 0 in
    let n₄ = (and_parts (not kind) _ n₃).1 in
    let sized = eqb (length f) (frame_head + value_size (frame_kind f)) in
    let n₅ = (and_parts (not (not sized)) _ n₄).1 in
    let value = value_right (frame_kind f) (frame_value f) in
    let n₆ = (and_parts (not (not value)) _ n₅).1 in
    let n₇ = (and_parts (not (is_none (lookup (frame_imsi f) t))) _ n₆).1 in
    let e₀ : valid t ≡ true = not-false _ (not-true _ (and_parts (not (not (valid t))) _ n₀).0) in
    let e₁ : short ≡ false = not-true _ (and_parts (not short) _ n₁).0 in
    let e₂ : version ≡ false = not-true _ (and_parts (not version) _ n₂).0 in
    let e₃ : kind ≡ false = not-true _ (and_parts (not kind) _ n₃).0 in
    let e₄ : sized ≡ true = not-false _ (not-true _ (and_parts (not (not sized)) _ n₄).0) in
    let e₅ : value ≡ true = not-false _ (not-true _ (and_parts (not (not value)) _ n₅).0) in
    let at = some_place (lookup (frame_imsi f) t) (not-true _ (and_parts (not (is_none (lookup (frame_imsi f) t))) _ n₆).0) in
    let same = eqb (change_of (record_with (frame_imsi f) t)) (frame_seen f) in
    let e₇ : same ≡ true = not-false _ (not-true _ (and_parts (not (not same)) _ n₇).0) in
    let e₈ : eqb (change_of (record_of t at.0)) (frame_seen f) ≡ true = subst (λ (o : Option ℕ). eqb (change_of (record_at_place o t)) (frame_seen f) ≡ true) at.1 e₇ in
    record {
      right = e₀;
      kind = corrects (frame_kind f) e₃;
      sized = eqb-true _ _ e₄;
      value = e₅;
      place = at.0;
      found = at.1;
      seen = eqb-true _ _ e₈;
      comes_to_lem = comes_to_record t f e₀ e₁ e₂ e₃ e₄ e₅ ∙ on_record_accepted t f at.0 at.1 e₈;
    }

next_small : (n : ℕ) → next_change n < 2 ^ 32
unfolding next_change
next_small n = omega arith

-- the table after an accepted frame
module _ (t f : List ℕ) (p : Passed t f) where
  -- the record that the frame names, before and after
  abbrev named : List ℕ
  named = record_of t p.place

  abbrev next : ℕ
  next = next_change (change_of named)

  abbrev renewed : List ℕ
  renewed = corrected_record (frame_kind f) (frame_value f) next named

  table_valid : Valid t
  table_valid = valid_parts t p.right

  inside : record_at p.place + record_size ≤ length t
  inside = lookup-inside (frame_imsi f) t p.place table_valid p.found

  named-long : length named ≡ record_size
  named-long = length_record t p.place inside

  value_sized : length (frame_value f) ≡ value_size (frame_kind f)
  value_sized = let s = p.sized in simp length-drop (omega arith)

  corrected_replaced : Replaced p.place renewed t (corrected t f).table
  unfolding corrected_record accepted
  corrected_replaced =
      let a = replaced_value (frame_kind f) p.place (frame_value f) t p.kind inside value_sized in
      let l = a.same_length in
      let h = inside in
      let b = replaced_store p.place change_at (be 4 next) (store_value (frame_kind f) p.place (frame_value f) t) (omega arith) (omega arith) in
      rw p.comes_to_lem (rw a.own at (replaced_then p.place _ _ t _ _ a b))

  renewed_imsi : imsi_of renewed ≡ imsi_of named
  renewed_imsi = record_imsi (frame_kind f) next (frame_value f) named p.kind value_sized named-long (next_small (change_of named))

  -- every IMSI is found where it was
  pub corrected-lookup : (imsi : List ℕ) → lookup imsi (corrected t f).table ≡ lookup imsi t
  corrected-lookup = replaced_lookup p.place renewed t (corrected t f).table corrected_replaced renewed_imsi

  pub corrected-right : valid (corrected t f).table ≡ true
  corrected-right =
      let k = lookup_some (frame_imsi f) t p.place p.found in
      let right = record_right_lem (frame_kind f) next (frame_value f) named p.kind value_sized named-long (next_small (change_of named)) p.value (table_valid.right p.place k.0) in
      valid-whole (corrected t f).table (replaced_valid p.place renewed t (corrected t f).table corrected_replaced renewed_imsi table_valid right)

  pub passed_alters : Alters t f (corrected t f).table p.place
  unfolding record_of count_of next_change
  passed_alters =
      let z = corrected_replaced in
      let s = next_small (change_of named) in
      let k = lookup_some (frame_imsi f) t p.place p.found in
      record {
        inside = k.0;
        named = k.1;
        seen = p.seen;
        counted = ap change_of z.own ∙ record_change (frame_kind f) next (frame_value f) named p.kind value_sized named-long s ∙ ap next_change p.seen;
        stored = ap (held_in (fields_of_kind (frame_kind f))) z.own ∙ record_held (frame_kind f) next (frame_value f) named p.kind value_sized named-long s;
        other_bytes = λ at e. ap (λ (l : List ℕ). get_or l at 0) z.own ∙ record_byte (frame_kind f) next (frame_value f) named p.kind value_sized named-long s at e;
        other_records = z.others;
        header = z.same-header;
        size = z.same_length;
        right = corrected-right;
      }

-- an accepted correction alters the record that it names as 01 says, and nothing else
pub accepted_alters : (t f : List ℕ) → (corrected t f).number ≡ 0 → (i : ℕ) × Alters t f (corrected t f).table i
accepted_alters t f e = let p = passed t f e in (p.place, passed_alters t f p)

-- the first test that holds says what a correction comes to
pub first-refused : (t f : List ℕ) (n : ℕ) → n ≢ 0 → First t f tests n → corrected t f ≡ refused n t
unfolding refused
first-refused t f n z h =
    let e : (corrected t f).number ≡ n = corrected-number t f ∙ first-number h in
    let s : (corrected t f).table ≡ t = refused_alters_nothing t f (λ q. z (sym e ∙ q)) in
    λ j. record { number = e j; table = s j }

-- the table is valid again after every correction of a valid one
pub corrected-valid : (t f : List ℕ) → valid t ≡ true → valid (corrected t f).table ≡ true
corrected-valid t f e = go (eqb (corrected t f).number 0) refl
  where
    go : (b : Bool) → eqb (corrected t f).number 0 ≡ b → valid (corrected t f).table ≡ true
    go true q = corrected-right t f (passed t f (eqb-true _ _ q))
    go false q = ap valid (refused_alters_nothing t f (eqb-false _ _ q)) ∙ e
