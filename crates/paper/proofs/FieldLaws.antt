-- Each field of a record with another value: the record stays right. Free fields, the values of a correction, a node, its purge bit, the IMEI.
-- Assumes nothing.
use mathlib.Core.Path.{◌≡◌, refl, sym, ap, ◌∙◌}
use mathlib.Core.Bool.{Bool, true, false, ◌&&◌, ◌||◌, not, or-true}
use mathlib.Core.List.{List, [], ◌∷◌, ◌++◌}
use Prim.Native.Nat.{ℕ, zero, suc, ◌+◌, ◌-◌, ◌*◌, ◌/◌, ◌%◌, ◌^◌, ◌≤◌, ◌<◌}
use native.Mathlib.Nat.{add-zero}
use native.Mathlib.Numerals.{one-add}
use native.Mathlib.Omega.{arith}
use lib.Dec.{leb, ltb, eqb}
use lib.ListN.{length, take, drop, get_or, replicate, length-append, length-drop, length-replicate}
use lib.Seq.{take_at, take-length, drop_at, drop-drop, get_or-take, length-take-le}
use borrow.Author.Tests.{le-leb, lt-ltb, leb-true, ltb-true}
use Rattle.std.proofs.lemmas.Bool.{and_from, and_parts}
use Rattle.wire.specs.Put.{part, put}
use Rattle.wire.specs.Stretch.{name_bytes, digits, zeros}
use Rattle.wire.proofs.ListLaws.{get_d_part, part-part}
use Rattle.wire.proofs.PutLaws.{length-put, part-put, put-before, put-after}
use Rattle.wire.proofs.StretchLaws.{all_in-take, all_in-replicate}
use Rattle.paper.specs.Layout.{record_size, imsi_size, change_at, subscription_at, restriction_at, plmn_count_at, plmns_at, plmn_size, most_plmns, purged_at, mme_at, sgsn_at, most_name, ambr_at, imei_at, least_imei, most_digits}
use Rattle.paper.specs.Table.{Rule, counted, imsi_right, two_bits, plmn_count_right, plmns_right, bit_at, name_right, purged_right, imei_right, rules, all_hold, record_right, Slot, mme, sgsn}
use Rattle.paper.specs.Fields.{filled, with_bit, without_bit}
use Rattle.paper.proofs.RecordLaws.{range, apart, apart_from, all_apart, differ_put, differ_then, counted-own, watched, touched, right_again, imei_count, name_count}

-- ---- what a right record's fields are

all_hold-at : (xs : List Rule) (r : List ℕ) (d : Rule) (k : ℕ) → all_hold xs r ≡ true → k < length xs → (get_or xs k d).holds r ≡ true
unfolding all_hold
all_hold-at [] r d k e h = absurd (omega arith)
all_hold-at (x ∷ xs) r d zero e h = (and_parts (x.holds r) (all_hold xs r) e).0
all_hold-at (x ∷ xs) r d (suc k) e h = all_hold-at xs r d k (and_parts (x.holds r) (all_hold xs r) e).1 (omega arith)

pub record Right (r : List ℕ) : Type 0 where
  pub imsi : imsi_right r ≡ true
  pub subscription : two_bits subscription_at r ≡ true
  pub unlisted_21 : zeros (part 21 3 r) ≡ true
  pub plmn_count : plmn_count_right r ≡ true
  pub unlisted_29 : zeros (part 29 3 r) ≡ true
  pub plmns : plmns_right r ≡ true
  pub purged : purged_right r ≡ true
  pub unlisted_57 : zeros (part 57 7 r) ≡ true
  pub mme_name : name_right mme_at r ≡ true
  pub sgsn_name : name_right sgsn_at r ≡ true
  pub unlisted_194 : zeros (part 194 2 r) ≡ true
  pub imei : imei_right r ≡ true
  pub unlisted_220 : zeros (part 220 36 r) ≡ true

pub right_parts : (r : List ℕ) → record_right r ≡ true → Right r
unfolding record_right rules
right_parts r e =
    record {
      imsi = rule 0 (omega arith);
      subscription = rule 1 (omega arith);
      unlisted_21 = rule 2 (omega arith);
      plmn_count = rule 3 (omega arith);
      unlisted_29 = rule 4 (omega arith);
      plmns = rule 5 (omega arith);
      purged = rule 6 (omega arith);
      unlisted_57 = rule 7 (omega arith);
      mme_name = rule 8 (omega arith);
      sgsn_name = rule 9 (omega arith);
      unlisted_194 = rule 10 (omega arith);
      imei = rule 11 (omega arith);
      unlisted_220 = rule 12 (omega arith);
    }
  where
    rule : (k : ℕ) → k < 13 → (get_or rules k (record { at = 0; holds = imsi_right })).holds r ≡ true
    rule k h = all_hold-at rules r (record { at = 0; holds = imsi_right }) k e h

pub right-whole : (r : List ℕ) → Right r → record_right r ≡ true
unfolding record_right rules all_hold
right-whole r p =
    rw (p.imsi, p.subscription, p.unlisted_21, p.plmn_count, p.unlisted_29, p.plmns, p.purged, p.unlisted_57, p.mme_name, p.sgsn_name, p.unlisted_194, p.imei, p.unlisted_220)

-- a slot of 01: of the MME or of the SGSN
pub data Node : Slot → Type 0 where
  the_mme : Node mme
  the_sgsn : Node sgsn

pub node-name : (slot : Slot) (r : List ℕ) → Node slot → record_right r ≡ true → name_right slot.at r ≡ true
node-name slot r the_mme e = (right_parts r e).mme_name
node-name slot r the_sgsn e = (right_parts r e).sgsn_name

-- the counts of a right record fit their fields
pub name-size : (slot : Slot) (r : List ℕ) → Node slot → record_right r ≡ true → get_or r slot.at 0 ≤ most_name
unfolding name_right counted
name-size slot r node e = leb-true (get_or r slot.at 0) most_name (and_parts (leb (get_or r slot.at 0) most_name) _ (node-name slot r node e)).0

pub purged-size : (r : List ℕ) → record_right r ≡ true → get_or r purged_at 0 < 4
unfolding purged_right two_bits
purged-size r e = ltb-true (get_or r purged_at 0) 4 (and_parts (ltb (get_or r purged_at 0) 4) _ (right_parts r e).purged).0

pub plmn_count_size : (r : List ℕ) → record_right r ≡ true → get_or r plmn_count_at 0 ≤ most_plmns
unfolding plmn_count_right
plmn_count_size r e = leb-true (get_or r plmn_count_at 0) most_plmns (right_parts r e).plmn_count

pub slot_inside : (slot : Slot) → Node slot → (imsi_size ≤ slot.at) × (slot.at + 1 + most_name ≤ record_size) × (slot.purge_bit < 2)
slot_inside slot the_mme = (omega arith, omega arith, omega arith)
slot_inside slot the_sgsn = (omega arith, omega arith, omega arith)

-- ---- free fields

-- no rule looks into what is stored
pub free_right : (at n : ℕ) (xs r : List ℕ) → touched (range at n ∷ []) watched ≡ [] → length xs ≡ n → at + n ≤ length r → record_right r ≡ true → record_right (put at xs r) ≡ true
unfolding all_hold
free_right at n xs r none e h right = right_again (range at n ∷ []) r (put at xs r) (differ_put at n xs r e h) right (rw none)

pub change_free : touched (range change_at 4 ∷ []) watched ≡ []
unfolding touched watched all_apart apart_from apart
change_free = refl

pub restriction_free : touched (range restriction_at 4 ∷ []) watched ≡ []
unfolding touched watched all_apart apart_from apart
restriction_free = refl

pub ambr_free : touched (range ambr_at 8 ∷ []) watched ≡ []
unfolding touched watched all_apart apart_from apart
ambr_free = refl

-- ---- a byte and a counted field that were put

byte_put : (at j : ℕ) (xs r : List ℕ) → at ≤ length r → j < length xs → get_or (put at xs r) (at + j) 0 ≡ get_or xs j 0
byte_put at j xs r h k = sym (get_d_part at (length xs) (put at xs r) j k) ∙ ap (λ (s : List ℕ). get_or s j 0) (part-put at xs r h)

pub first-put : (at : ℕ) (xs r : List ℕ) → at ≤ length r → 0 < length xs → get_or (put at xs r) at 0 ≡ get_or xs 0 0
first-put at xs r h k = simp add-zero at (byte_put at 0 xs r h k)

pub length-filled : (most : ℕ) (xs : List ℕ) → length xs ≤ most → length (filled most xs) ≡ 1 + most
unfolding filled
length-filled most xs h = simp (length-append, length-replicate) (omega arith)

counted-filled : (count : ℕ → Bool) (bytes : List ℕ → Bool) (most : ℕ) (xs : List ℕ) → count (length xs) ≡ true → bytes xs ≡ true
    → counted count bytes most 0 (filled most xs) ≡ true
unfolding counted filled
counted-filled count bytes most xs c b =
    let n = length xs in
    let zs = replicate {A = ℕ} (most - n) 0 in
    let front : take n (xs ++ zs) ≡ xs = take_at xs zs n refl in
    let back : drop n (xs ++ zs) ≡ zs = drop_at xs zs n refl in
    let z : zeros (take (most - n) zs) ≡ true = all_in-take 0 0 (most - n) zs (all_in-replicate 0 0 (most - n) 0 (omega arith) (omega arith)) in
    rw (one-add, c, front, b, back, z)

-- a counted field, filled
pub field-filled : (count : ℕ → Bool) (bytes : List ℕ → Bool) (most at : ℕ) (xs r : List ℕ) → ((n : ℕ) → count n ≡ true → n ≤ most) → at ≤ length r
    → count (length xs) ≡ true → bytes xs ≡ true → counted count bytes most at (put at (filled most xs) r) ≡ true
field-filled count bytes most at xs r small h c b =
    let n : length (filled most xs) ≡ 1 + most = length-filled most xs (small (length xs) c) in
    let e : part at (1 + most) (put at (filled most xs) r) ≡ filled most xs = rw n at (part-put at (filled most xs) r h) in
    counted-own count bytes most at (put at (filled most xs) r) small ∙ ap (counted count bytes most 0) e ∙ counted-filled count bytes most xs c b

-- ---- the values of a correction

pub subscription-right : (v r : List ℕ) → length v ≡ 1 → length r ≡ record_size → ltb (get_or v 0 0) 4 ≡ true → record_right r ≡ true → record_right (put subscription_at v r) ≡ true
unfolding touched watched all_apart apart_from apart all_hold two_bits
subscription-right v r e h small right =
    right_again (range subscription_at 1 ∷ []) r (put subscription_at v r) (differ_put subscription_at 1 v r e (omega arith)) right
    (rw (first-put subscription_at v r (omega arith) (omega arith), small))

-- a count of PLMNs and their 24 bytes, stored: what the rules of the two fields look at
module _ (v r : List ℕ) (sized : length v ≡ 25) (long : length r ≡ record_size) where
  abbrev counts : List ℕ
  counts = put plmn_count_at (take 1 v) r

  abbrev stored : List ℕ
  stored = put plmns_at (drop 1 v) counts

  count_size : length (take 1 v) ≡ 1
  count_size = length-take-le 1 v (omega arith)

  plmns_size : length (drop 1 v) ≡ 24
  plmns_size = simp length-drop (omega arith)

  counts-long : length counts ≡ record_size
  counts-long = let n = count_size in length-put plmn_count_at (take 1 v) r (omega arith) ∙ long

  pub count_stored : get_or stored plmn_count_at 0 ≡ get_or v 0 0
  count_stored =
      let n = count_size in
      let m = counts-long in
      put-before plmns_at plmn_count_at (drop 1 v) counts (omega arith) (omega arith) ∙ first-put plmn_count_at (take 1 v) r (omega arith) (omega arith) ∙ get_or-take 1 v 0 0 (omega arith)

  -- the bytes behind the counted PLMNs
  pub unused_stored : (k : ℕ) → k ≤ 24 → part (plmns_at + k) (24 - k) stored ≡ drop (1 + k) v
  unused_stored k h =
      let n = plmns_size in
      let m = counts-long in
      let field : part plmns_at 24 stored ≡ drop 1 v = rw n at (part-put plmns_at (drop 1 v) counts (omega arith)) in
      let size : length (drop (1 + k) v) ≡ 24 - k = simp length-drop (omega arith) in
      sym (part-part plmns_at 24 k (24 - k) stored (omega arith))
      ∙ ap (part k (24 - k)) field
      ∙ ap (take (24 - k)) (drop-drop k 1 v)
      ∙ ap (λ (m : ℕ). take m (drop (1 + k) v)) (sym size)
      ∙ take-length (drop (1 + k) v)

  pub plmns_right_lem : leb (get_or v 0 0) most_plmns && zeros (drop (1 + plmn_size * get_or v 0 0) v) ≡ true → record_right r ≡ true → record_right stored ≡ true
  unfolding touched watched all_apart apart_from apart all_hold plmn_count_right plmns_right
  plmns_right_lem good right =
      let m = counts-long in
      let c = get_or v 0 0 in
      let few : leb c most_plmns ≡ true = (and_parts (leb c most_plmns) _ good).0 in
      let small : c ≤ most_plmns = leb-true c most_plmns few in
      let z : zeros (drop (1 + plmn_size * c) v) ≡ true = (and_parts (leb c most_plmns) _ good).1 in
      let differ =
      differ_then (range plmn_count_at 1) (range plmns_at 24 ∷ []) r counts stored (differ_put plmn_count_at 1 (take 1 v) r count_size (omega arith)) (differ_put plmns_at 24 (drop 1 v) counts plmns_size (omega arith)) in
      right_again (range plmn_count_at 1 ∷ range plmns_at 24 ∷ []) r stored differ right (rw (count_stored, few, unused_stored (plmn_size * c) (omega arith), z))

-- ---- the purge bits

below_four : (P : ℕ → Type 0) → P 0 → P 1 → P 2 → P 3 → (b : ℕ) → b < 4 → P b
below_four P p₀ p₁ p₂ p₃ zero h = p₀
below_four P p₀ p₁ p₂ p₃ (suc zero) h = p₁
below_four P p₀ p₁ p₂ p₃ (suc (suc zero)) h = p₂
below_four P p₀ p₁ p₂ p₃ (suc (suc (suc zero))) h = p₃
below_four P p₀ p₁ p₂ p₃ (suc (suc (suc (suc b)))) h = absurd (omega arith)

-- "a purge bit needs a name": the byte `b` beside a registered MME (`m`) and SGSN (`s`)
unfoldable pub allowed : ℕ → Bool → Bool → Bool
allowed b m s = ltb b 4 && ((not (eqb (b / 2 ^ 0 % 2) 1) || m) && (not (eqb (b / 2 ^ 1 % 2) 1) || s))

clear-mme : (m s : Bool) (b : ℕ) → b < 4 → allowed b m s ≡ true → allowed (without_bit 0 b) m s ≡ true
unfolding allowed without_bit
clear-mme m s = below_four (λ b. allowed b m s ≡ true → allowed (without_bit 0 b) m s ≡ true) (λ e. e) (λ e. refl) (λ e. e) (λ e. (and_parts m s e).1)

clear-sgsn : (m s : Bool) (b : ℕ) → b < 4 → allowed b m s ≡ true → allowed (without_bit 1 b) m s ≡ true
unfolding allowed without_bit
clear-sgsn m s =
    below_four (λ b. allowed b m s ≡ true → allowed (without_bit 1 b) m s ≡ true) (λ e. e) (λ e. e) (λ e. refl)
    (λ e. and_from m true (and_parts m s e).0 refl)

set-mme : (m s : Bool) (b : ℕ) → b < 4 → allowed b m s ≡ true → allowed (with_bit 0 b) true s ≡ true
unfolding allowed with_bit
set-mme m s = below_four (λ b. allowed b m s ≡ true → allowed (with_bit 0 b) true s ≡ true) (λ e. refl) (λ e. refl) (λ e. e) (λ e. (and_parts m s e).1)

set-sgsn : (m s : Bool) (b : ℕ) → b < 4 → allowed b m s ≡ true → allowed (with_bit 1 b) m true ≡ true
unfolding allowed with_bit
set-sgsn m s =
    below_four (λ b. allowed b m s ≡ true → allowed (with_bit 1 b) m true ≡ true) (λ e. refl) (λ e. e) (λ e. refl)
    (λ e. and_from m true (and_parts m s e).0 refl)

pub bit_cleared : (slot : Slot) → Node slot → (b : ℕ) → b < 4 → eqb (without_bit slot.purge_bit b / 2 ^ slot.purge_bit % 2) 1 ≡ false
unfolding without_bit
bit_cleared slot the_mme = below_four (λ b. eqb (without_bit 0 b / 2 ^ 0 % 2) 1 ≡ false) refl refl refl refl
bit_cleared slot the_sgsn = below_four (λ b. eqb (without_bit 1 b / 2 ^ 1 % 2) 1 ≡ false) refl refl refl refl

pub bit-set : (slot : Slot) → Node slot → (b : ℕ) → b < 4 → eqb (with_bit slot.purge_bit b / 2 ^ slot.purge_bit % 2) 1 ≡ true
unfolding with_bit
bit-set slot the_mme = below_four (λ b. eqb (with_bit 0 b / 2 ^ 0 % 2) 1 ≡ true) refl refl refl refl
bit-set slot the_sgsn = below_four (λ b. eqb (with_bit 1 b / 2 ^ 1 % 2) 1 ≡ true) refl refl refl refl

-- the rule of the purge bits, over its three bytes
purged_allowed : (r : List ℕ) → purged_right r ≡ allowed (get_or r purged_at 0) (ltb 0 (get_or r mme_at 0)) (ltb 0 (get_or r sgsn_at 0))
unfolding purged_right two_bits allowed
purged_allowed r = refl

-- another byte of purge bits
module _ (r : List ℕ) (b : ℕ) (long : length r ≡ record_size) where
  purge-bytes : purged_right (put purged_at (b ∷ []) r) ≡ allowed b (ltb 0 (get_or r mme_at 0)) (ltb 0 (get_or r sgsn_at 0))
  purge-bytes =
      purged_allowed (put purged_at (b ∷ []) r)
      ∙ rw (first-put purged_at (b ∷ []) r (omega arith) (omega arith), put-after purged_at mme_at (b ∷ []) r (omega arith) (omega arith), put-after purged_at sgsn_at (b ∷ []) r (omega arith) (omega arith))

  purge-right : record_right r ≡ true → allowed b (ltb 0 (get_or r mme_at 0)) (ltb 0 (get_or r sgsn_at 0)) ≡ true → record_right (put purged_at (b ∷ []) r) ≡ true
  unfolding touched watched all_apart apart_from apart all_hold
  purge-right right ok =
      right_again (range purged_at 1 ∷ []) r (put purged_at (b ∷ []) r) (differ_put purged_at 1 (b ∷ []) r refl (omega arith)) right (rw (purge-bytes, ok))

allowed_now : (r : List ℕ) → record_right r ≡ true → allowed (get_or r purged_at 0) (ltb 0 (get_or r mme_at 0)) (ltb 0 (get_or r sgsn_at 0)) ≡ true
allowed_now r right = sym (purged_allowed r) ∙ (right_parts r right).purged

pub cleared_right : (slot : Slot) (r : List ℕ) → Node slot → length r ≡ record_size → record_right r ≡ true → record_right (put purged_at (without_bit slot.purge_bit (get_or r purged_at 0) ∷ []) r) ≡ true
cleared_right slot r the_mme long right =
    purge-right r (without_bit 0 (get_or r purged_at 0)) long right (clear-mme _ _ (get_or r purged_at 0) (purged-size r right) (allowed_now r right))
cleared_right slot r the_sgsn long right =
    purge-right r (without_bit 1 (get_or r purged_at 0)) long right (clear-sgsn _ _ (get_or r purged_at 0) (purged-size r right) (allowed_now r right))

-- "each registered name [..] gets its purge bit"
pub purged-right : (slot : Slot) (r : List ℕ) → Node slot → length r ≡ record_size → 0 < get_or r slot.at 0 → record_right r ≡ true
    → record_right (put purged_at (with_bit slot.purge_bit (get_or r purged_at 0) ∷ []) r) ≡ true
purged-right slot r the_mme long named right =
    purge-right r (with_bit 0 (get_or r purged_at 0)) long right
    (rw (lt-ltb 0 (get_or r mme_at 0) named) (set-mme _ _ (get_or r purged_at 0) (purged-size r right) (allowed_now r right)))
purged-right slot r the_sgsn long named right =
    purge-right r (with_bit 1 (get_or r purged_at 0)) long right
    (rw (lt-ltb 0 (get_or r sgsn_at 0) named) (set-sgsn _ _ (get_or r purged_at 0) (purged-size r right) (allowed_now r right)))

-- ---- a node's name

-- where the slot's purge bit is clear the name is free
any_mme : (b : ℕ) (m m' s : Bool) → eqb (b / 2 ^ 0 % 2) 1 ≡ false → allowed b m s ≡ true → allowed b m' s ≡ true
unfolding allowed
any_mme b m m' s c e =
    let q : ltb b 4 && (true && (not (eqb (b / 2 ^ 1 % 2) 1) || s)) ≡ true = rw c at e in
    rw c q

any_sgsn : (b : ℕ) (m s s' : Bool) → eqb (b / 2 ^ 1 % 2) 1 ≡ false → allowed b m s ≡ true → allowed b m s' ≡ true
unfolding allowed
any_sgsn b m s s' c e =
    let q : ltb b 4 && ((not (eqb (b / 2 ^ 0 % 2) 1) || m) && true) ≡ true = rw c at e in
    rw c q

module _ (name r : List ℕ) (few : length name ≤ most_name) (good : name_bytes name ≡ true) (long : length r ≡ record_size) (right : record_right r ≡ true) where
  filled-long : length (filled most_name name) ≡ 1 + most_name
  filled-long = length-filled most_name name few

  filled-first : get_or (filled most_name name) 0 0 ≡ length name
  unfolding filled
  filled-first = refl

  filled-name : (at : ℕ) → at ≤ record_size → name_right at (put at (filled most_name name) r) ≡ true
  unfolding name_right
  filled-name at h = field-filled (λ n. leb n most_name) name_bytes most_name at name r name_count (rw long h) (le-leb (length name) most_name few) good

  named-right : (slot : Slot) → Node slot → bit_at purged_at slot.purge_bit r ≡ false → record_right (put slot.at (filled most_name name) r) ≡ true
  unfolding touched watched all_apart apart_from apart all_hold
  named-right slot the_mme clear =
      let n = filled-long in
      let r' = put mme_at (filled most_name name) r in
      let e : purged_right r' ≡ allowed (get_or r purged_at 0) (ltb 0 (length name)) (ltb 0 (get_or r sgsn_at 0)) =
      purged_allowed r'
      ∙ rw (put-before mme_at purged_at (filled most_name name) r (omega arith) (omega arith), put-after mme_at sgsn_at (filled most_name name) r (omega arith) (omega arith), first-put mme_at (filled most_name name) r (omega arith) (omega arith), filled-first) in
      let ok : purged_right r' ≡ true = e ∙ any_mme (get_or r purged_at 0) _ _ _ clear (allowed_now r right) in
      right_again (range mme_at (1 + most_name) ∷ []) r r' (differ_put mme_at (1 + most_name) (filled most_name name) r n (omega arith)) right
      (rw (ok, filled-name mme_at (omega arith)))
  named-right slot the_sgsn clear =
      let n = filled-long in
      let r' = put sgsn_at (filled most_name name) r in
      let e : purged_right r' ≡ allowed (get_or r purged_at 0) (ltb 0 (get_or r mme_at 0)) (ltb 0 (length name)) =
      purged_allowed r'
      ∙ rw (put-before sgsn_at purged_at (filled most_name name) r (omega arith) (omega arith), put-before sgsn_at mme_at (filled most_name name) r (omega arith) (omega arith), first-put sgsn_at (filled most_name name) r (omega arith) (omega arith), filled-first) in
      let ok : purged_right r' ≡ true = e ∙ any_sgsn (get_or r purged_at 0) _ _ _ clear (allowed_now r right) in
      right_again (range sgsn_at (1 + most_name) ∷ []) r r' (differ_put sgsn_at (1 + most_name) (filled most_name name) r n (omega arith)) right
      (rw (ok, filled-name sgsn_at (omega arith)))

-- the record with a node registered, or cleared
abbrev pub with_node : ℕ → ℕ → List ℕ → List ℕ → List ℕ
with_node at bit name r = put at (filled most_name name) (put purged_at (without_bit bit (get_or r purged_at 0) ∷ []) r)

pub node-right : (slot : Slot) (name r : List ℕ) → Node slot → length name ≤ most_name → name_bytes name ≡ true → length r ≡ record_size → record_right r ≡ true
    → record_right (with_node slot.at slot.purge_bit name r) ≡ true
node-right slot name r node few good long right =
    let b = get_or r purged_at 0 in
    let b' = without_bit slot.purge_bit b in
    let r₁ = put purged_at (b' ∷ []) r in
    let m : length r₁ ≡ record_size = length-put purged_at (b' ∷ []) r (omega arith) ∙ long in
    let e : get_or r₁ purged_at 0 ≡ b' = first-put purged_at (b' ∷ []) r (omega arith) (omega arith) in
    let clear : bit_at purged_at slot.purge_bit r₁ ≡ false = rw e (bit_cleared slot node b (purged-size r right)) in
    named-right name r₁ few good m (cleared_right slot r node long right) slot node clear

-- ---- the IMEI

imei-counted : (imei : List ℕ) → eqb (length imei) least_imei || eqb (length imei) most_digits ≡ true → eqb (length imei) 0 || (eqb (length imei) least_imei || eqb (length imei) most_digits) ≡ true
imei-counted imei size = rw size (or-true (eqb (length imei) 0))

pub imei-size : (imei : List ℕ) → eqb (length imei) least_imei || eqb (length imei) most_digits ≡ true → length imei ≤ most_digits
imei-size imei size = imei_count (length imei) (imei-counted imei size)

pub imei-right : (imei r : List ℕ) → eqb (length imei) least_imei || eqb (length imei) most_digits ≡ true → digits imei ≡ true → length r ≡ record_size → record_right r ≡ true
    → record_right (put imei_at (filled most_digits imei) r) ≡ true
unfolding touched watched all_apart apart_from apart all_hold imei_right
imei-right imei r size good long right =
    let c = imei-counted imei size in
    let n : length (filled most_digits imei) ≡ 1 + most_digits = length-filled most_digits imei (imei-size imei size) in
    right_again (range imei_at (1 + most_digits) ∷ []) r (put imei_at (filled most_digits imei) r) (differ_put imei_at (1 + most_digits) (filled most_digits imei) r n (omega arith)) right
    (rw (field-filled (λ k. eqb k 0 || (eqb k least_imei || eqb k most_digits)) digits most_digits imei_at imei r imei_count (omega arith) c good))
