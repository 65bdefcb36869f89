-- IMSIs as numbers, and what a search by halving among them finds.
-- Assumes nothing.
use mathlib.Core.Path.{◌≡◌, refl, sym, ap, ◌∙◌, subst}
use mathlib.Core.Bool.{Bool, true, false}
use mathlib.Core.Option.{none, some}
use mathlib.Core.List.{List, []}
use Prim.Native.Nat.{ℕ, ◌+◌, ◌-◌, ◌*◌, ◌^◌, ◌≤◌, ◌<◌}
use native.Mathlib.Nat.{lt_trans}
use native.Mathlib.Omega.{arith}
use lib.Dec.{ltb, eqb}
use lib.ListN.{length, take, drop, get_or}
use borrow.Author.Tests.{lt-ltb, le-ltb, ltb-true, ltb-false, eqb-true, eqb-false}
use Rattle.std.specs.Prelude.{Result, Ok, Err}
use Rattle.std.specs.Result.{result_ok}
use Rattle.std.specs.List.Sorted.{IsSearchInRange, IsBinarySearchResult, IsNonDecreasingBy}
use Rattle.std.specs.Cmp.{nat_cmp_is}
use Rattle.std.proofs.Common.{Ordering, Less, Equal, Greater}
use Rattle.std.specs.Ordering.{nat_cmp, ordering_index}
use Rattle.std.proofs.lemmas.Cmp.{ranked}
use Rattle.std.proofs.lemmas.Bool.Decides.{nat_tests}
use Rattle.wire.specs.Number.{num, num_at, be, Bytes}
use Rattle.wire.specs.Put.{part}
use Rattle.wire.proofs.NumberLaws.{be-num, bytes-part, num_at-part, num_at-split}
use Rattle.wire.proofs.ListLaws.{length_part, part-whole}
use Rattle.paper.specs.Layout.{record_size, imsi_size}
use Rattle.paper.specs.Table.{record_at, record_of, count_of, imsi_of, imsi_number, lookup}
use Rattle.paper.proofs.TableLaws.{Valid, part_of_record, record_inside, length_record, ascending, lookup-at, lookup_none}
use Rattle.table.specs.Found.{place_of}
use Rattle.table.specs.Records.{records_of}
use Rattle.table.proofs.PartLaws.{lent}
use Rattle.table.proofs.RecordLaws.{counted_records, record-counted}

-- 16 bytes are two numbers of 8
pub two_words : (s : List ℕ) (at hi lo : ℕ) → at + imsi_size ≤ length s → hi ≡ num_at 8 s at → lo ≡ num_at 8 s (at + 8) → hi * 256 ^ 8 + lo ≡ num (part at imsi_size s)
two_words s at hi lo h e f = rw (e, f) (sym (num_at-split 8 8 s at) ∙ num_at-part imsi_size s at h)

ltb_alike : (a b c d : ℕ) → (a < b → c < d) → (b ≤ a → d ≤ c) → ltb a b ≡ ltb c d
ltb_alike a b c d f g = go (ltb a b) refl
  where
    go : (t : Bool) → ltb a b ≡ t → ltb a b ≡ ltb c d
    go true e = e ∙ sym (lt-ltb c d (f (ltb-true a b e)))
    go false e = e ∙ sym (le-ltb c d (g (ltb-false a b e)))

-- two words in order are one number in order
pub less_low : (a₀ a₁ b₀ b₁ : ℕ) → a₀ ≡ b₀ → ltb a₁ b₁ ≡ ltb (a₀ * 256 ^ 8 + a₁) (b₀ * 256 ^ 8 + b₁)
less_low a₀ a₁ b₀ b₁ e = ltb_alike a₁ b₁ (a₀ * 256 ^ 8 + a₁) (b₀ * 256 ^ 8 + b₁) (λ h. omega arith) (λ h. omega arith)

pub less_high : (a₀ a₁ b₀ b₁ : ℕ) → (a₀ ≡ b₀ → ⊥) → a₁ < 2 ^ 64 → b₁ < 2 ^ 64 → ltb a₀ b₀ ≡ ltb (a₀ * 256 ^ 8 + a₁) (b₀ * 256 ^ 8 + b₁)
less_high a₀ a₁ b₀ b₁ e ha hb = ltb_alike a₀ b₀ (a₀ * 256 ^ 8 + a₁) (b₀ * 256 ^ 8 + b₁) (λ h. omega arith) (λ h. omega arith)

-- what their comparison answers is that of the number: where the first words are one, that of the second, or else that of the first
pub cmp_low : (a₀ a₁ b₀ b₁ : ℕ) → a₀ ≡ b₀ → nat_cmp a₁ b₁ ≡ nat_cmp (a₀ * 256 ^ 8 + a₁) (b₀ * 256 ^ 8 + b₁)
cmp_low a₀ a₁ b₀ b₁ e = go (nat_cmp a₁ b₁) refl
  where
    go : (r : Ordering) → r ≡ nat_cmp a₁ b₁ → r ≡ nat_cmp (a₀ * 256 ^ 8 + a₁) (b₀ * 256 ^ 8 + b₁)
    go Less q =
        let h : a₁ < b₁ = ranked a₁ b₁ Less q in
        let k : a₀ * 256 ^ 8 + a₁ < b₀ * 256 ^ 8 + b₁ = omega arith in
        nat_cmp_is (a₀ * 256 ^ 8 + a₁) (b₀ * 256 ^ 8 + b₁) Less k
    go Equal q =
        let h : a₁ ≡ b₁ = ranked a₁ b₁ Equal q in
        let k : a₀ * 256 ^ 8 + a₁ ≡ b₀ * 256 ^ 8 + b₁ = omega arith in
        nat_cmp_is (a₀ * 256 ^ 8 + a₁) (b₀ * 256 ^ 8 + b₁) Equal k
    go Greater q =
        let h : b₁ < a₁ = ranked a₁ b₁ Greater q in
        let k : b₀ * 256 ^ 8 + b₁ < a₀ * 256 ^ 8 + a₁ = omega arith in
        nat_cmp_is (a₀ * 256 ^ 8 + a₁) (b₀ * 256 ^ 8 + b₁) Greater k

pub cmp_high : (a₀ a₁ b₀ b₁ : ℕ) → (a₀ ≡ b₀ → ⊥) → a₁ < 2 ^ 64 → b₁ < 2 ^ 64 → nat_cmp a₀ b₀ ≡ nat_cmp (a₀ * 256 ^ 8 + a₁) (b₀ * 256 ^ 8 + b₁)
cmp_high a₀ a₁ b₀ b₁ ne ha hb = go (nat_cmp a₀ b₀) refl
  where
    go : (r : Ordering) → r ≡ nat_cmp a₀ b₀ → r ≡ nat_cmp (a₀ * 256 ^ 8 + a₁) (b₀ * 256 ^ 8 + b₁)
    go Less q =
        let h : a₀ < b₀ = ranked a₀ b₀ Less q in
        let k : a₀ * 256 ^ 8 + a₁ < b₀ * 256 ^ 8 + b₁ = omega arith in
        nat_cmp_is (a₀ * 256 ^ 8 + a₁) (b₀ * 256 ^ 8 + b₁) Less k
    go Equal q = absurd (ne (ranked a₀ b₀ Equal q))
    go Greater q =
        let h : b₀ < a₀ = ranked a₀ b₀ Greater q in
        let k : b₀ * 256 ^ 8 + b₁ < a₀ * 256 ^ 8 + a₁ = omega arith in
        nat_cmp_is (a₀ * 256 ^ 8 + a₁) (b₀ * 256 ^ 8 + b₁) Greater k

-- the whole of an IMSI
pub whole-imsi : (imsi : List ℕ) → length imsi ≡ imsi_size → imsi_of imsi ≡ imsi
whole-imsi imsi e = ap (λ (n : ℕ). part 0 n imsi) (sym e) ∙ part-whole imsi

record-bytes : (t : List ℕ) (i : ℕ) → Bytes t → Bytes (record_of t i)
unfolding record_of
record-bytes t i b = bytes-part (record_at i) record_size t b

-- bytes of one length are what their number says
same-number : (xs ys : List ℕ) → Bytes xs → Bytes ys → length xs ≡ length ys → num xs ≡ num ys → xs ≡ ys
same-number xs ys b c l e = sym (be-num xs b) ∙ ap (λ (n : ℕ). be n (num xs)) l ∙ ap (be (length ys)) e ∙ be-num ys c

higher : (a b x : ℕ) → a ≤ b → ordering_index (nat_cmp a x) ≤ ordering_index (nat_cmp b x)
higher a b x le = grind (arith, nat_tests)

module _ (t imsi : List ℕ) (v : Valid t) where
  numbers-up : (i j : ℕ) → i ≤ j → j < count_of t → imsi_number t i ≤ imsi_number t j
  numbers-up i j le k = go (eqb i j) refl
    where
      go : (c : Bool) → eqb i j ≡ c → imsi_number t i ≤ imsi_number t j
      go true q = subst (λ (n : ℕ). imsi_number t i ≤ imsi_number t n) (eqb-true i j q) (omega arith)
      go false q = let ne = eqb-false i j q in omega (arith, ascending t v i j (omega arith) k)

  -- the comparisons with the IMSI rise along the records, as the search asks
  comparisons_rise : IsNonDecreasingBy (λ r. ordering_index (nat_cmp (num (imsi_of r)) (num imsi))) (records_of t)
  unfolding imsi_number
  comparisons_rise i j d le in_range =
      let k : j < count_of t = omega (arith, counted_records t v.header) in
      rw (record-counted t v.header i d (omega arith), record-counted t v.header j d k) (higher (imsi_number t i) (imsi_number t j) (num imsi) (numbers-up i j le k))

  searched : Bytes t → Bytes imsi → length imsi ≡ imsi_size → (r : Result ℕ ℕ) → IsSearchInRange r (length (records_of t))
      → IsBinarySearchResult (λ r. nat_cmp (num (imsi_of r)) (num imsi)) (records_of t) r → place_of (result_ok r) ≡ lookup imsi t
  searched b c l (Ok i) in_range equal =
      let k : i < count_of t = omega (arith, counted_records t v.header) in
      let e : num (imsi_of (record_of t i)) ≡ num imsi = ap (λ (r : List ℕ). num (imsi_of r)) (sym (record-counted t v.header i [] k)) ∙ ranked (num (imsi_of (get_or (records_of t) i []))) (num imsi) _ (sym (equal [])) in
      let size : length (imsi_of (record_of t i)) ≡ imsi_size = length_part 0 imsi_size (record_of t i) (omega (arith, length_record t i (record_inside t i v.header k))) in
      sym (lookup-at imsi t i v k (same-number (imsi_of (record_of t i)) imsi (bytes-part 0 imsi_size (record_of t i) (record-bytes t i b)) c (size ∙ sym l) e))
  searched b c l (Err i) in_range parted = sym (lookup_none imsi t (λ j k e. go j k (ap num e) (ltb j i) refl))
    where
      go : (j : ℕ) → j < count_of t → num (imsi_of (record_of t j)) ≡ num imsi → (w : Bool) → ltb j i ≡ w → ⊥
      go j k e true q =
          let less = ranked (num (imsi_of (get_or (records_of t) j []))) (num imsi) _ (sym ((parted comparisons_rise).0 j [] (omega arith) (ltb-true j i q))) in
          omega (arith, less, e, ap (λ (r : List ℕ). num (imsi_of r)) (record-counted t v.header j [] k))
      go j k e false q =
          let more = ranked (num (imsi_of (get_or (records_of t) j []))) (num imsi) _ (sym ((parted comparisons_rise).1 j [] (ltb-false j i q) (omega (arith, counted_records t v.header)))) in
          omega (arith, more, e, ap (λ (r : List ℕ). num (imsi_of r)) (record-counted t v.header j [] k))

  -- the same of the records and the number as the code has them
  pub found_by-number : Bytes t → Bytes imsi → length imsi ≡ imsi_size → (rs : List (List ℕ)) (n : ℕ) (r : Result ℕ ℕ) → rs ≡ records_of t → n ≡ num imsi → IsSearchInRange r (length rs)
      → IsBinarySearchResult (λ y. nat_cmp (num (imsi_of y)) n) rs r → place_of (result_ok r) ≡ lookup imsi t
  found_by-number b c l rs n r e f in_range found =
      searched b c l r (subst (λ (x : List (List ℕ)). IsSearchInRange r (length x)) e in_range)
      (subst (λ (x : List (List ℕ)). IsBinarySearchResult (λ y. nat_cmp (num (imsi_of y)) (num imsi)) x r) e (subst (λ (m : ℕ). IsBinarySearchResult (λ y. nat_cmp (num (imsi_of y)) m) rs r) f found))

  -- and of the number that is answered
  pub found-at : Bytes t → Bytes imsi → length imsi ≡ imsi_size → (rs : List (List ℕ)) (r : Result ℕ ℕ) → rs ≡ records_of t → IsSearchInRange r (length rs)
      → IsBinarySearchResult (λ y. nat_cmp (num (imsi_of y)) (num (imsi_of imsi))) rs r → (i j : ℕ) → r ≡ Ok i → j ≡ i → some j ≡ lookup imsi t
  found-at b c l rs r e in_range found i j is same =
      ap some same ∙ ap (λ (q : Result ℕ ℕ). place_of (result_ok q)) (sym is) ∙ found_by-number b c l rs (num (imsi_of imsi)) r e (ap num (whole-imsi imsi l)) in_range found

  pub found-nowhere : Bytes t → Bytes imsi → length imsi ≡ imsi_size → (rs : List (List ℕ)) (r : Result ℕ ℕ) → rs ≡ records_of t → IsSearchInRange r (length rs)
      → IsBinarySearchResult (λ y. nat_cmp (num (imsi_of y)) (num (imsi_of imsi))) rs r → (i : ℕ) → r ≡ Err i → none ≡ lookup imsi t
  found-nowhere b c l rs r e in_range found i is =
      ap (λ (q : Result ℕ ℕ). place_of (result_ok q)) (sym is) ∙ found_by-number b c l rs (num (imsi_of imsi)) r e (ap num (whole-imsi imsi l)) in_range found

-- the IMSI of record `i`, read off the table at the record's place, and lent off it
pub imsi-at : (t : List ℕ) (from i : ℕ) → from ≡ record_at i → part from imsi_size t ≡ imsi_of (record_of t i)
imsi-at t from i e =
    let z : from ≡ record_at i + 0 = omega arith in
    ap (λ (k : ℕ). part k imsi_size t) z ∙ sym (part_of_record t i 0 imsi_size (omega arith))

pub imsi-lent : (t : List ℕ) (from i : ℕ) → from ≡ record_at i → take (from + imsi_size - from) (drop from t) ≡ imsi_of (record_of t i)
imsi-lent t from i e = lent from imsi_size t ∙ imsi-at t from i e

-- ---- one test in the middle

module _ (t imsi : List ℕ) (v : Valid t) where
  pub low_half : (mid : ℕ) → mid < count_of t → imsi_number t mid < num imsi → (j : ℕ) → j < mid + 1 → imsi_number t j < num imsi
  low_half mid b h j p = go (eqb j mid) refl
    where
      go : (c : Bool) → eqb j mid ≡ c → imsi_number t j < num imsi
      go true q = subst (λ (i : ℕ). imsi_number t i < num imsi) (sym (eqb-true j mid q)) h
      go false q = let ne = eqb-false j mid q in lt_trans (ascending t v j mid (omega arith) b) h

  -- the middle one is not the IMSI, and those above it are greater
  pub high_half : (mid : ℕ) → num imsi ≤ imsi_number t mid → (imsi_of (record_of t mid) ≡ imsi → ⊥) → (j : ℕ) → mid ≤ j → j < count_of t → imsi_of (record_of t j) ≡ imsi → ⊥
  unfolding imsi_number
  high_half mid h other j p b e = go (eqb mid j) refl
    where
      equal : imsi_number t j ≡ num imsi
      equal = ap num e

      go : (c : Bool) → eqb mid j ≡ c → ⊥
      go true q = other (subst (λ (i : ℕ). imsi_of (record_of t i) ≡ imsi) (sym (eqb-true mid j q)) e)
      go false q = let ne = eqb-false mid j q in let a = ascending t v mid j (omega arith) b in omega (arith, equal)

-- where nothing is left in the middle no record has the IMSI
pub no_middle : (t imsi : List ℕ) (lo hi : ℕ) → hi ≤ lo → ((j : ℕ) → j < lo → imsi_number t j < num imsi)
    → ((j : ℕ) → hi ≤ j → j < count_of t → imsi_of (record_of t j) ≡ imsi → ⊥) → lookup imsi t ≡ none
unfolding imsi_number
no_middle t imsi lo hi h below above = lookup_none imsi t (λ j p e. go j p e (ltb j lo) refl)
  where
    go : (j : ℕ) → j < count_of t → imsi_of (record_of t j) ≡ imsi → (c : Bool) → ltb j lo ≡ c → ⊥
    go j p e true q =
        let a = below j (ltb-true j lo q) in
        let equal : imsi_number t j ≡ num imsi = ap num e in
        omega arith
    go j p e false q = let g = ltb-false j lo q in above j (omega arith) p e
