-- The records behind the header one by one: each is `record_of`, and what is told of all of them is what 01 says of a table.
-- Assumes nothing.
use mathlib.Core.Path.{◌≡◌, refl, sym, ap, subst, ◌∙◌}
use mathlib.Core.Bool.{Bool, true, false, ◌&&◌, not, and_assoc, and_comm, and-true}
use mathlib.Core.List.{List, []}
use Prim.Native.Nat.{ℕ, zero, suc, ◌+◌, ◌-◌, ◌*◌, ◌/◌, ◌<◌}
use native.Mathlib.Numerals.{add-one}
use native.Mathlib.Omega.{arith}
use lib.Dec.{ltb}
use lib.ListN.{length, get_or, take, drop}
use lib.Seq.{drop-drop}
use borrow.Author.Tests.{not-true, not-false}
use Rattle.std.proofs.Common.{true≢false, Bor, Some, None, Option, MatchOption}
use Rattle.std.proofs.lemmas.Bool.{and_from, and_left, and_parts, and_right}
use Rattle.std.specs.Bool.{MatchBool}
use Rattle.std.specs.Slice.{IsItemAt}
use Rattle.std.specs.List.{AllWithin, HoldsAt, IsAllAdjacentAnswer, AllAdjacentBelow}
use Rattle.std.specs.Simd.{first_chunks}
use Rattle.wire.specs.Number.{num}
use Rattle.wire.specs.Put.{part}
use Rattle.wire.specs.Stretch.{zeros}
use Rattle.paper.specs.Layout.{table_header, record_size, subscription_at, mme_at, sgsn_at}
use Rattle.paper.specs.Table.{imsi_right, two_bits, plmn_count_right, plmns_right, purged_right, name_right, imei_right, rules, all_hold, record_right, record_of, count_of, imsi_of, imsi_number, all_below, ascends, header_right, valid}
use Rattle.paper.proofs.TableLaws.{Header, header_parts, all_below_intro, all_below-false}
use Rattle.table.specs.Records.{records_of}

-- ---- `a && b`, where `b` is asked only if `a` holds

pub asked : {a A v B : Bool} → a ≡ A → a ≡ true → v ≡ B → v ≡ A && B
asked e h w = rw (sym e ∙ h) w

pub not_asked : {a A v : Bool} (B : Bool) → a ≡ A → a ≡ false → v ≡ a → v ≡ A && B
not_asked B e h w = rw (sym e ∙ h) (w ∙ h)

-- ---- `if !test(..)`: what the test says on either way

pub told-false : {v f : Bool} → v ≡ f → not v ≡ true → f ≡ false
told-false {v} e h = sym e ∙ not-true v h

pub told-true : {v f : Bool} → v ≡ f → not v ≡ false → f ≡ true
told-true {v} e h = sym e ∙ not-false v h

-- ---- each is a record

length-chunks : (k : ℕ) (s : List ℕ) → length (first_chunks record_size k s) ≡ k
length-chunks zero s = refl
length-chunks (suc k) s = ap (λ (n : ℕ). suc n) (length-chunks k (drop record_size s))

chunk_at : (k i : ℕ) (s d : List ℕ) → i < k → get_or (first_chunks record_size k s) i d ≡ take record_size (drop (record_size * i) s)
chunk_at zero i s d h = absurd (omega arith)
chunk_at (suc k) zero s d h = refl
chunk_at (suc k) (suc i) s d h =
    let e : record_size + record_size * i ≡ record_size * suc i = omega arith in
    chunk_at k i (drop record_size s) d (omega arith) ∙ ap (take record_size) (drop-drop (record_size * i) record_size s ∙ ap (λ (n : ℕ). drop n s) e)

pub length-records : (t : List ℕ) → length (records_of t) ≡ (length t - table_header) / record_size
length-records t = length-chunks ((length t - table_header) / record_size) (drop table_header t)

pub records-at : (t : List ℕ) (i : ℕ) (d : List ℕ) → i < (length t - table_header) / record_size → get_or (records_of t) i d ≡ record_of t i
unfolding record_of
records-at t i d h =
    chunk_at ((length t - table_header) / record_size) i (drop table_header t) d h ∙ ap (take record_size) (drop-drop (record_size * i) table_header t)

-- ---- all of them

-- a record that may stand behind another: it is right, and its IMSI above
abbrev pub follows : List ℕ → List ℕ → Bool
follows before r = record_right r && ltb (num (imsi_of before)) (num (imsi_of r))

module _ (t : List ℕ) (h : Header t) where
  pub counted_records : length (records_of t) ≡ count_of t
  counted_records = let n = length-records t in let w = h.whole in omega arith

  pub record-counted : (i : ℕ) (d : List ℕ) → i < count_of t → get_or (records_of t) i d ≡ record_of t i
  record-counted i d k = records-at t i d (omega (arith, counted_records, length-records t))

  pub all_told : (b : Bool) → MatchBool b (AllWithin (λ r. record_right r ≡ true) (records_of t) 0 (length (records_of t))) ((k : ℕ) × (k < length (records_of t)) × HoldsAt (λ r. record_right r ≡ false) (records_of t) k)
      → b ≡ all_below (λ i. record_right (record_of t i)) (count_of t)
  all_told true w =
      sym (all_below_intro (λ i. record_right (record_of t i)) (count_of t) (λ i k. ap record_right (sym (record-counted i [] k)) ∙ w i [] (omega arith) (omega (arith, counted_records))))
  all_told false w =
      let k : w.0 < count_of t = omega (arith, counted_records, w.1) in
      sym (all_below-false (λ i. record_right (record_of t i)) (count_of t) w.0 k (ap record_right (sym (record-counted w.0 [] k)) ∙ w.2 []))

  -- a record and the next, as the code compares them
  next-ascends : (k : ℕ) (d : List ℕ) → k + 1 < count_of t → ltb (num (imsi_of (get_or (records_of t) k d))) (num (imsi_of (get_or (records_of t) (k + 1) d))) ≡ ascends t (suc k)
  unfolding ascends imsi_number
  next-ascends k d l = rw (record-counted k d (omega arith), record-counted (k + 1) d l, add-one) refl

  ascends-next : (w : AllAdjacentBelow (λ x y. true ≡ ltb (num (imsi_of x)) (num (imsi_of y))) (records_of t) (length (records_of t))) (i : ℕ) → i < count_of t → ascends t i ≡ true
  unfolding ascends
  ascends-next w zero k = refl
  ascends-next w (suc i) k = let l : i + 1 < count_of t = omega arith in sym (next-ascends i [] l) ∙ sym (w i [] (omega (arith, counted_records)))

  rising_told : (b : Bool) → IsAllAdjacentAnswer (λ x y b. b ≡ ltb (num (imsi_of x)) (num (imsi_of y))) (records_of t) b → b ≡ all_below (ascends t) (count_of t)
  rising_told true w = sym (all_below_intro (ascends t) (count_of t) (ascends-next w))
  rising_told false w =
      let l : w.0 + 1 < count_of t = omega (arith, counted_records, w.1) in
      sym (all_below-false (ascends t) (count_of t) (suc w.0) (omega arith) (sym (next-ascends w.0 [] l) ∙ sym (w.2 [])))

  pub ascending_told : (rs : List (List ℕ)) (b : Bool) → rs ≡ records_of t → IsAllAdjacentAnswer (λ x y b. b ≡ ltb (num (imsi_of x)) (num (imsi_of y))) rs b → b ≡ all_below (ascends t) (count_of t)
  ascending_told rs b e w = rising_told b (subst (λ (x : List (List ℕ)). IsAllAdjacentAnswer (λ x y b. b ≡ ltb (num (imsi_of x)) (num (imsi_of y))) x b) e w)

  -- a record and the next, as one pass tests them
  next-follows : (k : ℕ) (d : List ℕ) → k + 1 < count_of t → follows (get_or (records_of t) k d) (get_or (records_of t) (k + 1) d) ≡ record_right (record_of t (suc k)) && ascends t (suc k)
  next-follows k d l = rw (next-ascends k d l, record-counted (k + 1) d l, add-one) refl

  next_right : AllAdjacentBelow (λ x y. true ≡ follows x y) (records_of t) (length (records_of t)) → (k : ℕ) → suc k < count_of t → (record_right (record_of t (suc k)) ≡ true) × (ascends t (suc k) ≡ true)
  next_right w k l = let m : k + 1 < count_of t = omega arith in and_parts _ _ (sym (next-follows k [] m) ∙ sym (w k [] (omega (arith, counted_records))))

  each-right : (0 < count_of t → record_right (record_of t 0) ≡ true) → AllAdjacentBelow (λ x y. true ≡ follows x y) (records_of t) (length (records_of t)) → (i : ℕ) → i < count_of t → record_right (record_of t i) ≡ true
  each-right first w zero l = first l
  each-right first w (suc i) l = (next_right w i l).0

  each-ascends : AllAdjacentBelow (λ x y. true ≡ follows x y) (records_of t) (length (records_of t)) → (i : ℕ) → i < count_of t → ascends t i ≡ true
  unfolding ascends
  each-ascends w zero l = refl
  each-ascends w (suc i) l = (next_right w i l).1

  not-followed : (k : ℕ) → suc k < count_of t → record_right (record_of t (suc k)) && ascends t (suc k) ≡ false → all_below (λ i. record_right (record_of t i)) (count_of t) && all_below (ascends t) (count_of t) ≡ false
  not-followed k l e = go (record_right (record_of t (suc k))) refl
    where
      go : (b : Bool) → record_right (record_of t (suc k)) ≡ b → all_below (λ i. record_right (record_of t i)) (count_of t) && all_below (ascends t) (count_of t) ≡ false
      go true q = let f : ascends t (suc k) ≡ false = rw q at e in and_right (all_below (λ i. record_right (record_of t i)) (count_of t)) (all_below (ascends t) (count_of t)) (all_below-false (ascends t) (count_of t) (suc k) l f)
      go false q = and_left (all_below (λ i. record_right (record_of t i)) (count_of t)) (all_below (ascends t) (count_of t)) (all_below-false (λ i. record_right (record_of t i)) (count_of t) (suc k) l q)

  -- one pass: the first record is right, and each of the others may stand behind the one before it
  pass_told : (0 < count_of t → record_right (record_of t 0) ≡ true) → (b : Bool) → IsAllAdjacentAnswer (λ x y b. b ≡ follows x y) (records_of t) b → b ≡ all_below (λ i. record_right (record_of t i)) (count_of t) && all_below (ascends t) (count_of t)
  pass_told first true w = sym (and_from _ _ (all_below_intro (λ i. record_right (record_of t i)) (count_of t) (each-right first w)) (all_below_intro (ascends t) (count_of t) (each-ascends w)))
  pass_told first false w =
      let l : w.0 + 1 < count_of t = omega (arith, counted_records, w.1) in
      sym (not-followed w.0 (omega arith) (sym (next-follows w.0 [] l) ∙ sym (w.2 [])))

  -- the first record was judged `b`; where there is none, that is right
  first_right : (o : Option (Bor (List ℕ))) (b : Bool) → IsItemAt (records_of t) 0 o → MatchOption o (b ≡ true) (λ r. b ≡ record_right r.now) → b ≡ true → 0 < count_of t → record_right (record_of t 0) ≡ true
  first_right None b item told e l = absurd (omega (arith, item.3, counted_records))
  first_right (Some r) b item told e l = ap record_right (sym (item.3.1 [] ∙ record-counted 0 [] l)) ∙ sym told ∙ e

  first_wrong : (o : Option (Bor (List ℕ))) (b : Bool) → IsItemAt (records_of t) 0 o → MatchOption o (b ≡ true) (λ r. b ≡ record_right r.now) → b ≡ false → all_below (λ i. record_right (record_of t i)) (count_of t) && all_below (ascends t) (count_of t) ≡ false
  first_wrong None b item told e = absurd (true≢false (sym told ∙ e))
  first_wrong (Some r) b item told e =
      let l : 0 < count_of t = omega (arith, item.3.0, counted_records) in
      and_left (all_below (λ i. record_right (record_of t i)) (count_of t)) (all_below (ascends t) (count_of t))
      (all_below-false (λ i. record_right (record_of t i)) (count_of t) 0 l (ap record_right (sym (item.3.1 [] ∙ record-counted 0 [] l)) ∙ sym told ∙ e))

-- the pass over the records is what is left of a table with a right header
module _ (t : List ℕ) (h : header_right t ≡ true) (o : Option (Bor (List ℕ))) {a : Bool} (told : MatchOption o (a ≡ true) (λ r. a ≡ record_right r.now)) (rs : List (List ℕ)) (item : IsItemAt rs 0 o) (e : rs ≡ records_of t) where
  pub valid-pass : (rs' : List (List ℕ)) (b : Bool) → IsAllAdjacentAnswer (λ x y b. b ≡ follows x y) rs' b → rs' ≡ records_of t → a ≡ true → b ≡ valid t
  unfolding valid
  valid-pass rs' b w f right =
      let p = header_parts t h in
      rw h (pass_told t p (first_right t p o a (subst (λ (x : List (List ℕ)). IsItemAt x 0 o) e item) told right) b (subst (λ (x : List (List ℕ)). IsAllAdjacentAnswer (λ x y b. b ≡ follows x y) x b) f w))

  pub not_valid-first : a ≡ false → a ≡ valid t
  unfolding valid
  not_valid-first wrong = rw h (wrong ∙ sym (first_wrong t (header_parts t h) o a (subst (λ (x : List (List ℕ)). IsItemAt x 0 o) e item) told wrong))

-- both tests of all records are what is left of a table with a right header
module _ (t : List ℕ) (h : header_right t ≡ true) {a : Bool} (told : a ≡ all_below (λ i. record_right (record_of t i)) (count_of t)) where
  pub valid_by-both : {b : Bool} → a ≡ true → b ≡ all_below (ascends t) (count_of t) → b ≡ valid t
  unfolding valid
  valid_by-both right up = rw h (asked told right up)

  pub not_valid : a ≡ false → a ≡ valid t
  unfolding valid
  not_valid wrong = rw h (not_asked (all_below (ascends t) (count_of t)) told wrong refl)

-- ---- the rules of one record, as the code joins them: one after the other, the count of the PLMNs with the PLMNs

abbrev pub joined : List ℕ → Bool
joined r =
    (((((((((((imsi_right r && two_bits subscription_at r) && zeros (part 21 3 r)) && (plmn_count_right r && plmns_right r)) && zeros (part 29 3 r)) && purged_right r) && zeros (part 57 7 r)) && name_right mme_at r) && name_right sgsn_at r) && zeros (part 194 2 r)) && imei_right r)
    && zeros (part 220 36 r))

-- what stands behind the PLMNs goes before them
moved : (x p q d : Bool) → (x && (p && q)) && d ≡ ((x && p) && d) && q
moved true true q d = and_comm q d
moved true false q d = refl
moved false p q d = refl

pub joined_rules : (r : List ℕ) → joined r ≡ record_right r
unfolding record_right all_hold rules
joined_rules r =
    ap (λ (b : Bool). ((((((b && purged_right r) && zeros (part 57 7 r)) && name_right mme_at r) && name_right sgsn_at r) && zeros (part 194 2 r)) && imei_right r) && zeros (part 220 36 r))
    (moved ((imsi_right r && two_bits subscription_at r) && zeros (part 21 3 r)) (plmn_count_right r) (plmns_right r) (zeros (part 29 3 r)))
    ∙ simp (and_assoc, and-true)
