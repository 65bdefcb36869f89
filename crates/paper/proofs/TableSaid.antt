-- A table is valid exactly if 01's section "The table" holds of its bytes.
-- Assumes nothing.
use mathlib.Core.Path.{◌≡◌, refl, sym, ap, ◌∙◌}
use mathlib.Core.Logic.{◌⊎◌, inl, inr, ⊎_elim, ◌↔◌}
use mathlib.Core.Bool.{Bool, true, false, ◌||◌, not}
use mathlib.Core.List.{List}
use Prim.Native.Nat.{ℕ, zero, suc, ◌+◌, ◌-◌, ◌*◌, ◌/◌, ◌%◌, ◌≤◌, ◌<◌}
use native.Mathlib.Nat.{zero-add}
use native.Mathlib.Numerals.{add-one}
use native.Mathlib.Omega.{arith}
use lib.Dec.{leb, ltb, eqb}
use lib.ListN.{length, get_or, get_or-eq_default}
use borrow.Author.Tests.{leb-true, ltb-true, ltb-false, eqb-true, le-leb, lt-ltb, eq-eqb}
use Rattle.std.proofs.lemmas.Bool.{and_from, and_parts}
use Rattle.wire.specs.Number.{num, num_at, Bytes}
use Rattle.wire.specs.Put.{part}
use Rattle.wire.specs.Stretch.{all_in, zeros}
use Rattle.wire.proofs.ListLaws.{length_part, get_d_part}
use Rattle.wire.proofs.StretchLaws.{all_in-at, all_in_intro}
use Rattle.paper.specs.Table.{counted, imsi_right, two_bits, plmn_count_right, plmns_right, bit_at, name_right, purged_right, imei_right, record_right, record_of, count_of, imsi_of, imsi_number, ascends, valid}
use Rattle.paper.specs.TableSaid.{Within, Zero, RecordSaid, Before, TableSaid}
use Rattle.paper.proofs.RecordLaws.{or_cases, imsi_count, name_count, imei_count}
use Rattle.paper.proofs.FieldLaws.{right_parts, right-whole}
use Rattle.paper.proofs.TestLaws.{or_implies, implies_or}
use Rattle.paper.proofs.TableLaws.{Header, Valid, valid_parts, valid-whole, record_inside, length_record}
use Rattle.paper.proofs.OrderLaws.{before-number, number-before}

-- ---- bytes of a range

-- a part whose bytes lie between two bounds, as its `n` bytes from `from` to `to`
module _ (low high from n to : ℕ) (r : List ℕ) (whole : from + n ≡ suc to) (inside : suc to ≤ length r) where
  part-size : length (part from n r) ≡ n
  part-size = length_part from n r (omega arith)

  within-said : all_in low high (part from n r) ≡ true → Within low high r from to
  within-said e j a b =
      let k : from + (j - from) ≡ j = omega arith in
      let h : j - from < n = omega arith in
      let byte : get_or (part from n r) (j - from) 0 ≡ get_or r j 0 = get_d_part from n r (j - from) h ∙ ap (λ (i : ℕ). get_or r i 0) k in
      rw byte at (all_in-at low high (part from n r) e (j - from) (rw part-size h))

  said-within : Within low high r from to → all_in low high (part from n r) ≡ true
  said-within w =
      all_in_intro low high (part from n r)
      (λ i h. let b : i < n = rw part-size at h in rw (get_d_part from n r i b) (w (from + i) (omega arith) (omega arith)))

module _ (from n to : ℕ) (r : List ℕ) (whole : from + n ≡ suc to) (inside : suc to ≤ length r) where
  zero-said : zeros (part from n r) ≡ true → Zero r from to
  zero-said e j a b = let w = within-said 0 0 from n to r whole inside e j a b in omega arith

  said-zero : Zero r from to → zeros (part from n r) ≡ true
  said-zero z = said-within 0 0 from n to r whole inside (λ j a b. let e = z j a b in (omega arith, omega arith))

-- a field of a count and as many bytes; `last` is the last of them
module _ (count : ℕ → Bool) (low high most at last : ℕ) (r : List ℕ) (small : (n : ℕ) → count n ≡ true → n ≤ most) (inside : at + most < length r) (end : at + get_or r at 0 ≡ last) where
  counted-said : counted count (all_in low high) most at r ≡ true
      → (count (get_or r at 0) ≡ true) × Within low high r (at + 1) last × Zero r (at + 1 + get_or r at 0) (at + most)
  unfolding counted
  counted-said e =
      let n = get_or r at 0 in
      let c : count n ≡ true = (and_parts (count n) _ e).0 in
      let k : n ≤ most = small n c in
      let d = (and_parts (count n) _ e).1 in
      let b = (and_parts (all_in low high (part (at + 1) n r)) _ d).0 in
      let z = (and_parts (all_in low high (part (at + 1) n r)) _ d).1 in
      (c, within-said low high (at + 1) n last r (omega arith) (omega arith) b, zero-said (at + 1 + n) (most - n) (at + most) r (omega arith) (omega arith) z)

  said-counted : count (get_or r at 0) ≡ true → Within low high r (at + 1) last → Zero r (at + 1 + get_or r at 0) (at + most)
      → counted count (all_in low high) most at r ≡ true
  unfolding counted
  said-counted c w z =
      let n = get_or r at 0 in
      let k : n ≤ most = small n c in
      and_from (count n) _ c
      (and_from (all_in low high (part (at + 1) n r)) _ (said-within low high (at + 1) n last r (omega arith) (omega arith) w)
      (said-zero (at + 1 + n) (most - n) (at + most) r (omega arith) (omega arith) z))

-- ---- a record

-- "a purge bit needs a name"
needs_name : (bit name : ℕ) → (not (eqb bit 1) || ltb 0 name ≡ true) ↔ (bit ≡ 1 → 0 < name)
needs_name bit name = (
  (λ e q. ltb-true 0 name (or_implies (eqb bit 1) (ltb 0 name) e (eq-eqb bit 1 q))),
  (λ h. implies_or (eqb bit 1) (ltb 0 name) (λ q. lt-ltb 0 name (h (eqb-true bit 1 q)))),
)

imei-counts : (n : ℕ) → (eqb n 0 || (eqb n 14 || eqb n 15) ≡ true) ↔ ((n ≡ 0) ⊎ ((n ≡ 14) ⊎ (n ≡ 15)))
imei-counts n = (
  (λ e. ⊎_elim (λ a. inl (eqb-true n 0 a)) (λ o. inr (⊎_elim (λ b. inl (eqb-true n 14 b)) (λ c. inr (eqb-true n 15 c)) (or_cases (eqb n 14) (eqb n 15) o))) (or_cases (eqb n 0) (eqb n 14 || eqb n 15) e)),
  ⊎_elim (λ e. rw e) (⊎_elim (λ e. rw e) (λ e. rw e)),
)

module _ (r : List ℕ) (long : length r ≡ 256) where
  pub record_said : record_right r ≡ true → RecordSaid r
  unfolding imsi_right two_bits plmn_count_right plmns_right purged_right name_right imei_right
  record_said e =
      let p = right_parts r e in
      let imsi = counted-said _ 48 57 15 0 (get_or r 0 0) r imsi_count (omega arith) (omega arith) p.imsi in
      let plmns : get_or r 28 0 ≤ 8 = leb-true (get_or r 28 0) 8 p.plmn_count in
      let bits = (and_parts (ltb (get_or r 56 0) 4) _ p.purged).1 in
      let mme-bit = (and_parts (not (bit_at 56 0 r) || ltb 0 (get_or r 64 0)) _ bits).0 in
      let sgsn-bit = (and_parts (not (bit_at 56 0 r) || ltb 0 (get_or r 64 0)) _ bits).1 in
      let mme = counted-said _ 0x21 0x7E 64 64 (64 + get_or r 64 0) r name_count (omega arith) refl p.mme_name in
      let sgsn = counted-said _ 0x21 0x7E 64 129 (129 + get_or r 129 0) r name_count (omega arith) refl p.sgsn_name in
      let imei = counted-said _ 48 57 15 204 (204 + get_or r 204 0) r imei_count (omega arith) refl p.imei in
      record {
        imsi_count = (leb-true 6 (get_or r 0 0) (and_parts (leb 6 (get_or r 0 0)) _ imsi.0).0, leb-true (get_or r 0 0) 15 (and_parts (leb 6 (get_or r 0 0)) _ imsi.0).1);
        imsi_digits = imsi.1;
        imsi_end = imsi.2;
        subscription = ltb-true (get_or r 20 0) 4 p.subscription;
        unlisted_21 = zero-said 21 3 23 r refl (omega arith) p.unlisted_21;
        plmn_count = plmns;
        unlisted_29 = zero-said 29 3 31 r refl (omega arith) p.unlisted_29;
        plmn_end = zero-said (32 + 3 * get_or r 28 0) (24 - 3 * get_or r 28 0) 55 r (omega arith) (omega arith) p.plmns;
        purged = ltb-true (get_or r 56 0) 4 (and_parts (ltb (get_or r 56 0) 4) _ p.purged).0;
        purged_mme = λ q. (needs_name (get_or r 56 0 / 1 % 2) (get_or r 64 0)).0 mme-bit (omega arith);
        purged_sgsn = (needs_name (get_or r 56 0 / 2 % 2) (get_or r 129 0)).0 sgsn-bit;
        unlisted_57 = zero-said 57 7 63 r refl (omega arith) p.unlisted_57;
        mme_length = name_count (get_or r 64 0) mme.0;
        mme_name = mme.1;
        mme_end = mme.2;
        sgsn_length = name_count (get_or r 129 0) sgsn.0;
        sgsn_name = sgsn.1;
        sgsn_end = sgsn.2;
        unlisted_194 = zero-said 194 2 195 r refl (omega arith) p.unlisted_194;
        imei_count = (imei-counts (get_or r 204 0)).0 imei.0;
        imei_digits = imei.1;
        imei_end = imei.2;
        unlisted_220 = zero-said 220 36 255 r refl (omega arith) p.unlisted_220;
      }

  pub said_record : RecordSaid r → record_right r ≡ true
  unfolding imsi_right two_bits plmn_count_right plmns_right purged_right name_right imei_right
  said_record s =
      let digits-counted = and_from (leb 6 (get_or r 0 0)) _ (le-leb 6 (get_or r 0 0) s.imsi_count.0) (le-leb (get_or r 0 0) 15 s.imsi_count.1) in
      let few = s.plmn_count in
      let mme-bit = (needs_name (get_or r 56 0 / 1 % 2) (get_or r 64 0)).1 (λ q. s.purged_mme (omega arith)) in
      let sgsn-bit = (needs_name (get_or r 56 0 / 2 % 2) (get_or r 129 0)).1 s.purged_sgsn in
      right-whole r
      record {
        imsi = said-counted _ 48 57 15 0 (get_or r 0 0) r imsi_count (omega arith) (omega arith) digits-counted s.imsi_digits s.imsi_end;
        subscription = lt-ltb (get_or r 20 0) 4 s.subscription;
        unlisted_21 = said-zero 21 3 23 r refl (omega arith) s.unlisted_21;
        plmn_count = le-leb (get_or r 28 0) 8 few;
        unlisted_29 = said-zero 29 3 31 r refl (omega arith) s.unlisted_29;
        plmns = said-zero (32 + 3 * get_or r 28 0) (24 - 3 * get_or r 28 0) 55 r (omega arith) (omega arith) s.plmn_end;
        purged = and_from (ltb (get_or r 56 0) 4) _ (lt-ltb (get_or r 56 0) 4 s.purged) (and_from (not (bit_at 56 0 r) || ltb 0 (get_or r 64 0)) _ mme-bit sgsn-bit);
        unlisted_57 = said-zero 57 7 63 r refl (omega arith) s.unlisted_57;
        mme_name = said-counted _ 0x21 0x7E 64 64 (64 + get_or r 64 0) r name_count (omega arith) refl (le-leb (get_or r 64 0) 64 s.mme_length) s.mme_name s.mme_end;
        sgsn_name = said-counted _ 0x21 0x7E 64 129 (129 + get_or r 129 0) r name_count (omega arith) refl (le-leb (get_or r 129 0) 64 s.sgsn_length) s.sgsn_name s.sgsn_end;
        unlisted_194 = said-zero 194 2 195 r refl (omega arith) s.unlisted_194;
        imei = said-counted _ 48 57 15 204 (204 + get_or r 204 0) r imei_count (omega arith) refl ((imei-counts (get_or r 204 0)).1 s.imei_count) s.imei_digits s.imei_end;
        unlisted_220 = said-zero 220 36 255 r refl (omega arith) s.unlisted_220;
      }

-- ---- the order

-- the IMSI's bytes are bytes
imsi_small : (r : List ℕ) → RecordSaid r → (j : ℕ) → j < 16 → get_or r j 0 < 256
imsi_small r s j h = go j h (ltb (get_or r 0 0) j) refl
  where
    go : (i : ℕ) → i < 16 → (b : Bool) → ltb (get_or r 0 0) i ≡ b → get_or r i 0 < 256
    go zero k b q = let c = s.imsi_count in omega arith
    go (suc i) k true q = let l = ltb-true (get_or r 0 0) (suc i) q in let z = s.imsi_end (suc i) (omega arith) (omega arith) in omega arith
    go (suc i) k false q = let d = s.imsi_digits (suc i) (omega arith) (ltb-false (get_or r 0 0) (suc i) q) in omega arith

imsi_byte : (r : List ℕ) (j : ℕ) → j < 16 → get_or (imsi_of r) j 0 ≡ get_or r j 0
imsi_byte r j h = simp zero-add at (get_d_part 0 16 r j h)

imsi-long : (r : List ℕ) → length r ≡ 256 → length (imsi_of r) ≡ 16
imsi-long r n = length_part 0 16 r (omega arith)

imsi-bytes : (r : List ℕ) → length r ≡ 256 → RecordSaid r → Bytes (imsi_of r)
imsi-bytes r n s j = go (ltb j 16) refl
  where
    go : (b : Bool) → ltb j 16 ≡ b → get_or (imsi_of r) j 0 < 256
    go true q = let h = ltb-true j 16 q in rw (imsi_byte r j h) (imsi_small r s j h)
    go false q = let h = ltb-false j 16 q in rw (get_or-eq_default (imsi_of r) 0 {n = j} (rw (imsi-long r n) h)) (omega arith)

-- "strictly ascending by bytes 0–15"
module _ (r s : List ℕ) (m : length r ≡ 256) (n : length s ≡ 256) (p : RecordSaid r) (q : RecordSaid s) where
  same-long : length (imsi_of r) ≡ length (imsi_of s)
  same-long = imsi-long r m ∙ sym (imsi-long s n)

  number-said : num (imsi_of r) < num (imsi_of s) → Before 16 r s
  number-said h =
      let b = number-before (imsi_of r) (imsi_of s) same-long (imsi-bytes r m p) (imsi-bytes s n q) h in
      let k : b.place < 16 = rw (imsi-long r m) at b.inside in
      record {
        place = b.place;
        inside = k;
        equal = λ j i. sym (imsi_byte r j (omega arith)) ∙ b.equal j i ∙ imsi_byte s j (omega arith);
        smaller = rw (imsi_byte r b.place k, imsi_byte s b.place k) at b.smaller;
      }

  said-number : Before 16 r s → num (imsi_of r) < num (imsi_of s)
  said-number b =
      let k = b.inside in
      before-number (imsi_of r) (imsi_of s) b.place same-long (imsi-bytes r m p) (rw (imsi-long r m) k)
      (λ j i. imsi_byte r j (omega arith) ∙ b.equal j i ∙ sym (imsi_byte s j (omega arith)))
      (rw (imsi_byte r b.place k, imsi_byte s b.place k) b.smaller)

-- ---- a table

module _ (t : List ℕ) where
  record_long : Header t → (i : ℕ) → i < count_of t → length (record_of t i) ≡ 256
  record_long h i k = length_record t i (record_inside t i h k)

  valid-said : Valid t → TableSaid t
  unfolding count_of record_of ascends imsi_number
  valid-said v =
      let h = v.header in
      let said : (i : ℕ) → i < num_at 2 t 6 → RecordSaid (record_of t i) = λ i k. record_said (record_of t i) (record_long h i k) (v.right i k) in
      record {
        long = h.long;
        length_field = h.length_field;
        version = h.version;
        zero_byte = h.zero_byte;
        few = h.few;
        whole = h.whole;
        records = said;
        ascending = λ i k.
            let next : suc i < num_at 2 t 6 = omega arith in
            let here : i < num_at 2 t 6 = omega arith in
            rw (add-one i)
            (number-said (record_of t i) (record_of t (suc i)) (record_long h i here) (record_long h (suc i) next) (said i here) (said (suc i) next)
            (ltb-true (imsi_number t i) (imsi_number t (suc i)) (v.rising (suc i) next)));
      }

  said-valid : TableSaid t → Valid t
  unfolding count_of record_of ascends imsi_number
  said-valid s = record { header = h; right = λ i k. said_record (record_of t i) (record_long h i k) (s.records i k); rising = rising }
    where
      h : Header t
      h = record { long = s.long; length_field = s.length_field; version = s.version; zero_byte = s.zero_byte; few = s.few; whole = s.whole }

      rising : (i : ℕ) → i < count_of t → ascends t i ≡ true
      rising zero k = refl
      rising (suc i) k =
          let here : i < count_of t = omega arith in
          let before : Before 16 (record_of t i) (record_of t (suc i)) = rw (add-one i) at (s.ascending i (omega arith)) in
          lt-ltb (imsi_number t i) (imsi_number t (suc i))
          (said-number (record_of t i) (record_of t (suc i)) (record_long h i here) (record_long h (suc i) k) (s.records i here) (s.records (suc i) k) before)

-- "A table is valid exactly if all this holds"
pub table-said : (t : List ℕ) → (valid t ≡ true) ↔ TableSaid t
table-said t = ((λ e. valid-said t (valid_parts t e)), (λ s. valid-whole t (said-valid t s)))
