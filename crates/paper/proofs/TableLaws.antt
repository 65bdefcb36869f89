-- Any table: what validity says, the order of the IMSIs, the one record that has an IMSI, and a record replaced by another.
-- Assumes nothing.
use mathlib.Core.Path.{◌≡◌, refl, sym, ap, ◌∙◌, subst}
use mathlib.Core.Bool.{Bool, true, false, cond, ◌&&◌}
use mathlib.Core.Option.{none, some}
use mathlib.Core.Logic.{◌⊎◌, inl, inr}
use mathlib.Core.List.{List, ◌++◌}
use Prim.Native.Nat.{ℕ, zero, suc, ◌+◌, ◌≤◌, ◌<◌}
use native.Mathlib.Nat.{not-suc-le-zero, lt_trans, zero-add}
use native.Mathlib.Numerals.{add-one}
use native.Mathlib.Omega.{arith}
use lib.Dec.{leb, ltb, eqb}
use lib.ListN.{length, take, drop, get_or, take-append-drop}
use lib.Seq.{length-take-le, drop-drop}
use borrow.Author.Tests.{le-leb, eq-eqb, ltb-true, ltb-false, leb-true, eqb-true, eqb-false}
use Rattle.std.proofs.lemmas.Bool.{and_from, and_left, and_parts, and_right}
use Rattle.wire.specs.Number.{num, num_at}
use Rattle.wire.specs.Put.{part, put}
use Rattle.wire.specs.Stretch.{same}
use Rattle.wire.proofs.ListLaws.{length_part, get_d_part, part-part, part_middle}
use Rattle.wire.proofs.NumberLaws.{num_at_agree, num_at-take, num_at-drop}
use Rattle.wire.proofs.PutLaws.{length-put, part-before, part-other, put-append-left, put-append-right}
use Rattle.wire.proofs.StretchLaws.{same_true, same-equal, same_differ}
use Rattle.paper.specs.Layout.{table_header, table_version, record_size, most_records, imsi_at, imsi_size}
use Rattle.paper.specs.Table.{record_right, record_at, record_of, count_of, imsi_of, imsi_number, all_below, ascends, header_right, valid, seek, lookup, store}

-- ---- a test at each number below another

pub all_below-at : (f : ℕ → Bool) (n i : ℕ) → all_below f n ≡ true → i < n → f i ≡ true
unfolding all_below
all_below-at f zero i e h = absurd (not-suc-le-zero h)
all_below-at f (suc n) i e h = go (all_below-at f n i (and_parts (all_below f n) (f n) e).0) (eqb i n) refl
  where
    go : (i < n → f i ≡ true) → (b : Bool) → eqb i n ≡ b → f i ≡ true
    go before true q = ap f (eqb-true i n q) ∙ (and_parts (all_below f n) (f n) e).1
    go before false q = let ne = eqb-false i n q in before (omega arith)

pub all_below-more : (f : ℕ → Bool) (n : ℕ) → all_below f n ≡ true → f n ≡ true → all_below f (n + 1) ≡ true
unfolding all_below
all_below-more f n e h = rw (add-one, e, h)

pub all_below_intro : (f : ℕ → Bool) (n : ℕ) → ((i : ℕ) → i < n → f i ≡ true) → all_below f n ≡ true
unfolding all_below
all_below_intro f zero h = refl
all_below_intro f (suc n) h = and_from (all_below f n) (f n) (all_below_intro f n (λ i k. h i (omega arith))) (h n (omega arith))

pub all_below-false : (f : ℕ → Bool) (n i : ℕ) → i < n → f i ≡ false → all_below f n ≡ false
unfolding all_below
all_below-false f zero i h e = absurd (not-suc-le-zero h)
all_below-false f (suc n) i h e = go (λ k. all_below-false f n i k e) (eqb i n) refl
  where
    go : (i < n → all_below f n ≡ false) → (b : Bool) → eqb i n ≡ b → all_below f n && f n ≡ false
    go before true q = and_right (all_below f n) (f n) (subst (λ (k : ℕ). f k ≡ false) (eqb-true i n q) e)
    go before false q = let ne = eqb-false i n q in and_left (all_below f n) (f n) (before (omega arith))

-- ---- what a valid table is

pub record Header (t : List ℕ) : Type 0 where
  pub long : table_header ≤ length t
  pub length_field : num_at 4 t 0 ≡ length t
  pub version : get_or t 4 0 ≡ table_version
  pub zero_byte : get_or t 5 0 ≡ 0
  pub few : count_of t ≤ most_records
  pub whole : length t ≡ record_at (count_of t)

pub header_parts : (t : List ℕ) → header_right t ≡ true → Header t
unfolding header_right
header_parts t e =
    let e₁ = (and_parts (leb table_header (length t)) _ e).1 in
    let e₂ = (and_parts (eqb (num_at 4 t 0) (length t)) _ e₁).1 in
    let e₃ = (and_parts (eqb (get_or t 4 0) table_version) _ e₂).1 in
    let e₄ = (and_parts (eqb (get_or t 5 0) 0) _ e₃).1 in
    record {
      long = leb-true _ _ (and_parts (leb table_header (length t)) _ e).0;
      length_field = eqb-true _ _ (and_parts (eqb (num_at 4 t 0) (length t)) _ e₁).0;
      version = eqb-true _ _ (and_parts (eqb (get_or t 4 0) table_version) _ e₂).0;
      zero_byte = eqb-true _ _ (and_parts (eqb (get_or t 5 0) 0) _ e₃).0;
      few = leb-true _ _ (and_parts (leb (count_of t) most_records) _ e₄).0;
      whole = eqb-true _ _ (and_parts (leb (count_of t) most_records) _ e₄).1;
    }

pub header-whole : (t : List ℕ) → Header t → header_right t ≡ true
unfolding header_right
header-whole t h =
    rw (le-leb _ _ h.long, eq-eqb _ _ h.length_field, eq-eqb _ _ h.version, eq-eqb _ _ h.zero_byte, le-leb _ _ h.few, eq-eqb _ _ h.whole)

pub record Valid (t : List ℕ) : Type 0 where
  pub header : Header t
  pub right : (i : ℕ) → i < count_of t → record_right (record_of t i) ≡ true
  pub rising : (i : ℕ) → i < count_of t → ascends t i ≡ true

pub valid_parts : (t : List ℕ) → valid t ≡ true → Valid t
unfolding valid
valid_parts t e =
    let records = (and_parts (header_right t) _ e).1 in
    record {
      header = header_parts t (and_parts (header_right t) _ e).0;
      right = λ i h. all_below-at (λ j. record_right (record_of t j)) (count_of t) i (and_parts (all_below (λ j. record_right (record_of t j)) (count_of t)) _ records).0 h;
      rising = λ i h. all_below-at (ascends t) (count_of t) i (and_parts (all_below (λ j. record_right (record_of t j)) (count_of t)) _ records).1 h;
    }

pub valid-whole : (t : List ℕ) → Valid t → valid t ≡ true
unfolding valid
valid-whole t v =
    rw (header-whole t v.header, all_below_intro (λ i. record_right (record_of t i)) (count_of t) v.right, all_below_intro (ascends t) (count_of t) v.rising)

pub record_inside : (t : List ℕ) (i : ℕ) → Header t → i < count_of t → record_at i + record_size ≤ length t
record_inside t i h k = omega arith

-- ---- the bytes of a record

pub length_record : (t : List ℕ) (i : ℕ) → record_at i + record_size ≤ length t → length (record_of t i) ≡ record_size
unfolding record_of
length_record t i h = length_part (record_at i) record_size t h

pub byte_of_record : (t : List ℕ) (i at : ℕ) → at < record_size → get_or (record_of t i) at 0 ≡ get_or t (record_at i + at) 0
unfolding record_of
byte_of_record t i at h = get_d_part (record_at i) record_size t at h

pub part_of_record : (t : List ℕ) (i at n : ℕ) → at + n ≤ record_size → part at n (record_of t i) ≡ part (record_at i + at) n t
unfolding record_of
part_of_record t i at n h = part-part (record_at i) record_size at n t h

pub number_of_record : (n : ℕ) (t : List ℕ) (i at : ℕ) → at + n ≤ record_size → num_at n (record_of t i) at ≡ num_at n t (record_at i + at)
unfolding record_of
number_of_record n t i at h = num_at-take n record_size (drop (record_at i) t) at h ∙ num_at-drop n (record_at i) t at

-- ---- the IMSIs ascend

pub ascending : (t : List ℕ) → Valid t → (i j : ℕ) → i < j → j < count_of t → imsi_number t i < imsi_number t j
unfolding ascends
ascending t v i zero h k = absurd (not-suc-le-zero h)
ascending t v i (suc j) h k = go (ascending t v i j) (eqb i j) refl
  where
    next : imsi_number t j < imsi_number t (suc j)
    next = ltb-true (imsi_number t j) (imsi_number t (suc j)) (v.rising (suc j) k)

    go : (i < j → j < count_of t → imsi_number t i < imsi_number t j) → (b : Bool) → eqb i j ≡ b → imsi_number t i < imsi_number t (suc j)
    go before true q = subst (λ (m : ℕ). imsi_number t m < imsi_number t (suc j)) (sym (eqb-true i j q)) next
    go before false q = let ne = eqb-false i j q in lt_trans (before (omega arith) (omega arith)) next

-- at most one record has an IMSI
pub imsi_once : (t : List ℕ) → Valid t → (i j : ℕ) → i < count_of t → j < count_of t → imsi_of (record_of t i) ≡ imsi_of (record_of t j) → i ≡ j
unfolding imsi_number
imsi_once t v i j hi hj e = go (ltb i j) refl (ltb j i) refl
  where
    equal : imsi_number t i ≡ imsi_number t j
    equal = ap num e

    go : (a : Bool) → ltb i j ≡ a → (b : Bool) → ltb j i ≡ b → i ≡ j
    go true p b q = let h = ascending t v i j (ltb-true i j p) hj in absurd (omega (arith, equal))
    go false p true q = let h = ascending t v j i (ltb-true j i q) hi in absurd (omega (arith, equal))
    go false p false q = let h = ltb-false i j p in let k = ltb-false j i q in omega arith

-- ---- the record that a lookup finds

seek_some : (imsi t : List ℕ) (i n j : ℕ) → seek imsi t i n ≡ some j → (j < i + n) × (imsi_of (record_of t j) ≡ imsi)
unfolding seek
seek_some imsi t i zero j e = let z : ◌≡◌ {A = ℕ} 0 1 = cc in absurd (omega arith)
seek_some imsi t i (suc n) j e = go (seek_some imsi t (suc i) n j) (same (imsi_of (record_of t i)) imsi) refl
  where
    go : (seek imsi t (suc i) n ≡ some j → (j < suc i + n) × (imsi_of (record_of t j) ≡ imsi)) → (b : Bool) → same (imsi_of (record_of t i)) imsi ≡ b
        → (j < i + suc n) × (imsi_of (record_of t j) ≡ imsi)
    go later true q =
        let p : some i ≡ some j = rw q at e in
        let here : i ≡ j = cc in
        (omega arith, subst (λ (k : ℕ). imsi_of (record_of t k) ≡ imsi) here (same_true (imsi_of (record_of t i)) imsi q))
    go later false q =
        let p : seek imsi t (suc i) n ≡ some j = rw q at e in
        let found = later p in
        (omega arith, found.1)

pub lookup_some : (imsi t : List ℕ) (i : ℕ) → lookup imsi t ≡ some i → (i < count_of t) × (imsi_of (record_of t i) ≡ imsi)
unfolding lookup
lookup_some imsi t i e = let found = seek_some imsi t 0 (count_of t) i e in (omega arith, found.1)

seek-at : (imsi t : List ℕ) (a n i : ℕ) → a ≤ i → i < a + n → imsi_of (record_of t i) ≡ imsi → ((j : ℕ) → j < i → imsi_of (record_of t j) ≡ imsi → ⊥) → seek imsi t a n ≡ some i
unfolding seek
seek-at imsi t a zero i lo hi e others = absurd (omega arith)
seek-at imsi t a (suc n) i lo hi e others = go (λ l h. seek-at imsi t (suc a) n i l h e others) (eqb a i) refl
  where
    go : (suc a ≤ i → i < suc a + n → seek imsi t (suc a) n ≡ some i) → (b : Bool) → eqb a i ≡ b
        → cond (same (imsi_of (record_of t a)) imsi) (some a) (seek imsi t (suc a) n) ≡ some i
    go later true q = let here : a ≡ i = eqb-true a i q in rw (here, same-equal (imsi_of (record_of t i)) imsi e)
    go later false q =
        let ne = eqb-false a i q in
        rw (same_differ (imsi_of (record_of t a)) imsi (others a (omega arith))) (later (omega arith) (omega arith))

pub lookup-at : (imsi t : List ℕ) (i : ℕ) → Valid t → i < count_of t → imsi_of (record_of t i) ≡ imsi → lookup imsi t ≡ some i
unfolding lookup
lookup-at imsi t i v h e =
    seek-at imsi t 0 (count_of t) i (omega arith) (omega arith) e
    (λ j k e'. let z = imsi_once t v j i (omega arith) h (e' ∙ sym e) in absurd (omega arith))

seek_none : (imsi t : List ℕ) (a n : ℕ) → ((j : ℕ) → a ≤ j → j < a + n → imsi_of (record_of t j) ≡ imsi → ⊥) → seek imsi t a n ≡ none
unfolding seek
seek_none imsi t a zero others = refl
seek_none imsi t a (suc n) others =
    rw (same_differ (imsi_of (record_of t a)) imsi (others a (omega arith) (omega arith))) (seek_none imsi t (suc a) n (λ j p q. others j (omega arith) (omega arith)))

pub lookup_none : (imsi t : List ℕ) → ((i : ℕ) → i < count_of t → imsi_of (record_of t i) ≡ imsi → ⊥) → lookup imsi t ≡ none
unfolding lookup
lookup_none imsi t others = seek_none imsi t 0 (count_of t) (λ j p q. others j (omega arith))

pub none_found : (imsi t : List ℕ) (i : ℕ) → Valid t → lookup imsi t ≡ none → i < count_of t → imsi_of (record_of t i) ≡ imsi → ⊥
none_found imsi t i v e h same =
    let at = lookup-at imsi t i v h same in
    let z : ◌≡◌ {A = ℕ} 0 1 = cc in
    omega arith

pub lookup-inside : (imsi t : List ℕ) (i : ℕ) → Valid t → lookup imsi t ≡ some i → record_at i + record_size ≤ length t
lookup-inside imsi t i v e = record_inside t i v.header (lookup_some imsi t i e).0

-- ---- a record replaced

three_parts : (at n : ℕ) (t : List ℕ) → t ≡ take at t ++ (part at n t ++ drop (at + n) t)
three_parts at n t = sym (take-append-drop at t) ∙ ap (λ (l : List ℕ). take at t ++ l) (sym (take-append-drop n (drop at t)) ∙ ap (λ (l : List ℕ). part at n t ++ l) (drop-drop n at t))

-- `t'` is `t` with the bytes `r` as record `i`: the header, and every other record, is as it was
pub record Replaced (i : ℕ) (r t t' : List ℕ) : Type 0 where
  pub same_length : length t' ≡ length t
  pub same-header : part 0 table_header t' ≡ part 0 table_header t
  pub own : record_of t' i ≡ r
  pub others : (j : ℕ) → (j ≡ i → ⊥) → record_of t' j ≡ record_of t j

pub replaced_then : (i : ℕ) (r r' t t' t'' : List ℕ) → Replaced i r t t' → Replaced i r' t' t'' → Replaced i r' t t''
replaced_then i r r' t t' t'' p q =
    record {
      same_length = q.same_length ∙ p.same_length;
      same-header = q.same-header ∙ p.same-header;
      own = q.own;
      others = λ j ne. q.others j ne ∙ p.others j ne;
    }

module _ (i at : ℕ) (xs t : List ℕ) (inside : record_at i + record_size ≤ length t) (fits : at + length xs ≤ record_size) where
  pub length-store : length (store i at xs t) ≡ length t
  unfolding store
  length-store = length-put (record_at i + at) xs t (omega arith)

  -- a store is a put into the record
  pub own-store : record_of (store i at xs t) i ≡ put at xs (record_of t i)
  unfolding store record_of
  own-store =
      let a = take (record_at i) t in
      let r = part (record_at i) record_size t in
      let b = drop (record_at i + record_size) t in
      let split : t ≡ a ++ (r ++ b) = three_parts (record_at i) record_size t in
      let na : length a ≡ record_at i = length-take-le (record_at i) t (omega arith) in
      let nr : length r ≡ record_size = length_part (record_at i) record_size t inside in
      let np : length (put at xs r) ≡ record_size = length-put at xs r (rw nr fits) ∙ nr in
      ap (λ (l : List ℕ). part (record_at i) record_size (put (record_at i + at) xs l)) split
      ∙ ap (λ (k : ℕ). part (record_at i) record_size (put (k + at) xs (a ++ (r ++ b)))) (sym na)
      ∙ ap (part (record_at i) record_size) (put-append-right at xs a (r ++ b) ∙ ap (λ (l : List ℕ). a ++ l) (put-append-left at xs r b (rw nr fits)))
      ∙ part_middle (record_at i) record_size a (put at xs r) b na np

  -- it leaves every other record, and the header, as they are
  pub store-elsewhere : (j : ℕ) → (j ≡ i → ⊥) → record_of (store i at xs t) j ≡ record_of t j
  unfolding store record_of
  store-elsewhere j ne = part-other (record_at i + at) (record_at j) record_size xs t (omega arith) (go (ltb j i) refl)
    where
      go : (b : Bool) → ltb j i ≡ b → (record_at j + record_size ≤ record_at i + at) ⊎ (record_at i + at + length xs ≤ record_at j)
      go true q = let h = ltb-true j i q in inl (omega arith)
      go false q = let h = ltb-false j i q in inr (omega arith)

  pub header-store : part 0 table_header (store i at xs t) ≡ part 0 table_header t
  unfolding store
  header-store = part-before (record_at i + at) 0 table_header xs t (omega arith) (omega arith)

  pub replaced_store : Replaced i (put at xs (record_of t i)) t (store i at xs t)
  replaced_store = record { same_length = length-store; same-header = header-store; own = own-store; others = store-elsewhere }

-- one more store into the record
pub replaced_more : (i at : ℕ) (xs r t t' : List ℕ) → record_at i + record_size ≤ length t → at + length xs ≤ record_size → Replaced i r t t' → Replaced i (put at xs r) t (store i at xs t')
replaced_more i at xs r t t' inside fits p =
    replaced_then i r (put at xs r) t t' (store i at xs t') p
    (subst (λ (s : List ℕ). Replaced i (put at xs s) t' (store i at xs t')) p.own (replaced_store i at xs t' (rw p.same_length inside) fits))

module _ (i : ℕ) (r t t' : List ℕ) (p : Replaced i r t t') where
  header_byte : (q : ℕ) → q < table_header → get_or t' q 0 ≡ get_or t q 0
  header_byte q h =
      simp zero-add at (sym (get_d_part 0 table_header t' q h) ∙ ap (λ (s : List ℕ). get_or s q 0) p.same-header ∙ get_d_part 0 table_header t q h)

  pub replaced_count : count_of t' ≡ count_of t
  unfolding count_of
  replaced_count = num_at_agree 2 6 6 t' t (λ k h. header_byte (6 + k) (omega arith))

  replaced_header : Header t → Header t'
  replaced_header h =
      let e = p.same_length in
      let n = replaced_count in
      let f : num_at 4 t' 0 ≡ num_at 4 t 0 = num_at_agree 4 0 0 t' t (λ k b. header_byte (0 + k) (omega arith)) in
      record {
        long = rw e h.long;
        length_field = f ∙ h.length_field ∙ sym e;
        version = header_byte 4 (omega arith) ∙ h.version;
        zero_byte = header_byte 5 (omega arith) ∙ h.zero_byte;
        few = rw n h.few;
        whole = rw (e, n) h.whole;
      }

  module _ (imsi : imsi_of r ≡ imsi_of (record_of t i)) where
    replaced_imsi : (j : ℕ) → imsi_of (record_of t' j) ≡ imsi_of (record_of t j)
    replaced_imsi j = go (eqb j i) refl
      where
        go : (b : Bool) → eqb j i ≡ b → imsi_of (record_of t' j) ≡ imsi_of (record_of t j)
        go true q = subst (λ (k : ℕ). imsi_of (record_of t' k) ≡ imsi_of (record_of t k)) (sym (eqb-true j i q)) (ap imsi_of p.own ∙ imsi)
        go false q = ap imsi_of (p.others j (eqb-false j i q))

    replaced_ascends : (j : ℕ) → ascends t' j ≡ ascends t j
    unfolding ascends imsi_number
    replaced_ascends zero = refl
    replaced_ascends (suc j) = rw (replaced_imsi j, replaced_imsi (suc j))

    -- a right record with the same IMSI in the place of another keeps the table valid
    pub replaced_valid : Valid t → record_right r ≡ true → Valid t'
    replaced_valid v right =
        record {
          header = replaced_header v.header;
          right = λ j h. go j h (eqb j i) refl;
          rising = λ j h. replaced_ascends j ∙ v.rising j (rw replaced_count at h);
        }
      where
        go : (j : ℕ) → j < count_of t' → (b : Bool) → eqb j i ≡ b → record_right (record_of t' j) ≡ true
        go j h true q = subst (λ (k : ℕ). record_right (record_of t' k) ≡ true) (sym (eqb-true j i q)) (ap record_right p.own ∙ right)
        go j h false q = ap record_right (p.others j (eqb-false j i q)) ∙ v.right j (rw replaced_count at h)

    replaced_seek : (imsi₀ : List ℕ) (a n : ℕ) → seek imsi₀ t' a n ≡ seek imsi₀ t a n
    unfolding seek
    replaced_seek imsi₀ a zero = refl
    replaced_seek imsi₀ a (suc n) = rw (replaced_imsi a, replaced_seek imsi₀ (suc a) n)

    -- and every IMSI is found where it was
    pub replaced_lookup : (imsi₀ : List ℕ) → lookup imsi₀ t' ≡ lookup imsi₀ t
    unfolding lookup
    replaced_lookup imsi₀ = rw replaced_count (replaced_seek imsi₀ 0 (count_of t))

-- ---- one store

-- the IMSI stays where a store begins behind it
pub imsi-put : (at : ℕ) (xs r : List ℕ) → at + length xs ≤ length r → imsi_size ≤ at → imsi_of (put at xs r) ≡ imsi_of r
imsi-put at xs r h k = part-before at imsi_at imsi_size xs r h k

-- a stored value behind the IMSI that keeps the record right keeps the table valid
pub store-valid : (i at : ℕ) (xs t : List ℕ) → valid t ≡ true → i < count_of t → at + length xs ≤ record_size → record_right (put at xs (record_of t i)) ≡ true → imsi_size ≤ at
    → valid (store i at xs t) ≡ true
store-valid i at xs t e h fits right behind =
    let v = valid_parts t e in
    let inside = record_inside t i v.header h in
    let n : length (record_of t i) ≡ record_size = length_record t i inside in
    let r = put at xs (record_of t i) in
    valid-whole (store i at xs t)
    (replaced_valid i r t (store i at xs t) (replaced_store i at xs t inside fits) (imsi-put at xs (record_of t i) (rw n fits) behind) v right)
