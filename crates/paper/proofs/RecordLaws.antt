-- A record with other bytes in some places is right where the rules that look there hold: each rule looks at a few ranges of the record alone.
-- Assumes nothing.
use mathlib.Core.Path.{◌≡◌, refl, sym, ap, ◌∙◌}
use mathlib.Core.Bool.{Bool, true, false, cond, ◌&&◌, ◌||◌}
use mathlib.Core.Logic.{◌⊎◌, inl, inr, ⊎_elim}
use mathlib.Core.List.{List, [], ◌∷◌, map}
use Prim.Native.Nat.{ℕ, ◌+◌, ◌-◌, ◌*◌, ◌≤◌, ◌<◌}
use native.Mathlib.Nat.{add-zero}
use native.Mathlib.Omega.{arith}
use lib.Dec.{leb, ltb, eqb}
use lib.ListN.{length, get_or}
use borrow.Author.Tests.{leb-true, leb-false, eqb-true}
use Rattle.std.proofs.lemmas.Bool.{and_from, and_parts}
use Rattle.wire.specs.Put.{part, put}
use Rattle.wire.specs.Stretch.{name_bytes, digits, zeros}
use Rattle.wire.proofs.ListLaws.{get_d_part, part-part}
use Rattle.wire.proofs.PutLaws.{part-other}
use Rattle.paper.specs.Layout.{imsi_at, imsi_size, subscription_at, plmn_count_at, plmns_at, plmn_size, most_plmns, purged_at, mme_at, sgsn_at, most_name, imei_at, least_imsi, least_imei, most_digits}
use Rattle.paper.specs.Table.{Rule, counted, unlisted, imsi_right, two_bits, plmn_count_right, plmns_right, name_right, purged_right, imei_right, rules, all_hold, record_right}

-- ---- ranges of a record

pub record Range : Type 0 where
  pub from : ℕ
  pub size : ℕ

abbrev pub range : ℕ → ℕ → Range
range from size = record { from = from; size = size }

abbrev pub cut : Range → List ℕ → List ℕ
cut x r = part x.from x.size r

-- no place in common
unfoldable pub apart : Range → Range → Bool
apart a b = leb (a.from + a.size) b.from || leb (b.from + b.size) a.from

-- the range has no place in common with any of the others
unfoldable pub apart_from : List Range → Range → Bool
apart_from [] x = true
apart_from (c ∷ cs) x = apart c x && apart_from cs x

unfoldable pub all_apart : List Range → List Range → Bool
all_apart cs [] = true
all_apart cs (x ∷ xs) = apart_from cs x && all_apart cs xs

-- the two records are the same on each of the ranges
abbrev pub SameOn : List Range → List ℕ → List ℕ → Type 0
SameOn [] r r' = Unit
SameOn (x ∷ xs) r r' = (cut x r' ≡ cut x r) × SameOn xs r r'

-- the two records differ in the ranges `cs` at most
abbrev pub DifferIn : List Range → List ℕ → List ℕ → Type 0
DifferIn cs r r' = (x : Range) → apart_from cs x ≡ true → cut x r' ≡ cut x r

pub or_cases : (a b : Bool) → a || b ≡ true → (a ≡ true) ⊎ (b ≡ true)
or_cases true b e = inl refl
or_cases false b e = inr e

apart_cases : (a b : Range) → apart a b ≡ true → (b.from + b.size ≤ a.from) ⊎ (a.from + a.size ≤ b.from)
unfolding apart
apart_cases a b e =
    ⊎_elim (λ h. inr (leb-true _ _ h)) (λ h. inl (leb-true _ _ h))
    (or_cases (leb (a.from + a.size) b.from) (leb (b.from + b.size) a.from) e)

-- a record with bytes put into it
pub differ_put : (at n : ℕ) (xs r : List ℕ) → length xs ≡ n → at + n ≤ length r → DifferIn (range at n ∷ []) r (put at xs r)
unfolding apart_from
differ_put at n xs r e h x a =
    part-other at x.from x.size xs r (rw e h)
    (rw e (apart_cases (range at n) x (and_parts (apart (range at n) x) true a).0))

-- and with more bytes put into it
pub differ_then : (c : Range) (cs : List Range) (r r₁ r₂ : List ℕ) → DifferIn (c ∷ []) r r₁ → DifferIn cs r₁ r₂ → DifferIn (c ∷ cs) r r₂
unfolding apart_from
differ_then c cs r r₁ r₂ d₁ d₂ x a =
    d₂ x (and_parts (apart c x) (apart_from cs x) a).1
    ∙ d₁ x (and_from (apart c x) true (and_parts (apart c x) (apart_from cs x) a).0 refl)

same_on : (cs xs : List Range) (r r' : List ℕ) → DifferIn cs r r' → all_apart cs xs ≡ true → SameOn xs r r'
unfolding all_apart
same_on cs [] r r' d a = tt
same_on cs (x ∷ xs) r r' d a =
    (d x (and_parts (apart_from cs x) (all_apart cs xs) a).0, same_on cs xs r r' d (and_parts (apart_from cs x) (all_apart cs xs) a).1)

-- ---- what a rule looks at

-- the test goes by these ranges of the record alone
abbrev pub LooksAt : List Range → (List ℕ → Bool) → Type 0
LooksAt xs f = (r r' : List ℕ) → SameOn xs r r' → f r' ≡ f r

byte_same : (at n i : ℕ) (r r' : List ℕ) → i < n → part at n r' ≡ part at n r → get_or r' (at + i) 0 ≡ get_or r (at + i) 0
byte_same at n i r r' h e = sym (get_d_part at n r' i h) ∙ ap (λ (s : List ℕ). get_or s i 0) e ∙ get_d_part at n r i h

first-same : (at n : ℕ) (r r' : List ℕ) → 0 < n → part at n r' ≡ part at n r → get_or r' at 0 ≡ get_or r at 0
first-same at n r r' h e = simp add-zero at (byte_same at n 0 r r' h e)

-- one byte
abbrev pub one_byte : ℕ → Range
one_byte at = range at 1

pub looks_byte : (f : ℕ → Bool) (at : ℕ) → LooksAt (one_byte at ∷ []) (λ r. f (get_or r at 0))
looks_byte f at r r' s = ap f (first-same at 1 r r' (omega arith) s.0)

pub looks_zeros : (at n : ℕ) → LooksAt (range at n ∷ []) (λ r. zeros (part at n r))
looks_zeros at n r r' s = ap zeros s.0

-- a counted field, read off its own bytes
pub counted-own : (count : ℕ → Bool) (bytes : List ℕ → Bool) (most at : ℕ) (r : List ℕ) → ((n : ℕ) → count n ≡ true → n ≤ most)
    → counted count bytes most at r ≡ counted count bytes most 0 (part at (1 + most) r)
unfolding counted
counted-own count bytes most at r small = go (count (get_or r at 0)) refl
  where
    first : get_or (part at (1 + most) r) 0 0 ≡ get_or r at 0
    first = simp add-zero at (get_d_part at (1 + most) r 0 (omega arith))

    go : (b : Bool) → count (get_or r at 0) ≡ b → counted count bytes most at r ≡ counted count bytes most 0 (part at (1 + most) r)
    go true e =
        let n = get_or r at 0 in
        let h : n ≤ most = small n e in
        let a : part 1 n (part at (1 + most) r) ≡ part (at + 1) n r = part-part at (1 + most) 1 n r (omega arith) in
        let k : at + (1 + n) ≡ at + 1 + n = omega arith in
        let b : part (1 + n) (most - n) (part at (1 + most) r) ≡ part (at + 1 + n) (most - n) r =
        part-part at (1 + most) (1 + n) (most - n) r (omega arith) ∙ ap (λ (p : ℕ). part p (most - n) r) k in
        rw (first, a, b)
    go false e = rw (first, e)

pub looks_counted : (count : ℕ → Bool) (bytes : List ℕ → Bool) (most at : ℕ) → ((n : ℕ) → count n ≡ true → n ≤ most)
    → LooksAt (range at (1 + most) ∷ []) (counted count bytes most at)
looks_counted count bytes most at small r r' s =
    counted-own count bytes most at r' small ∙ ap (counted count bytes most 0) s.0 ∙ sym (counted-own count bytes most at r small)

-- ---- the counts of 01's counted fields are at most what the field holds

pub imsi_count : (n : ℕ) → leb least_imsi n && leb n most_digits ≡ true → n ≤ most_digits
imsi_count n e = leb-true n most_digits (and_parts (leb least_imsi n) (leb n most_digits) e).1

pub name_count : (n : ℕ) → leb n most_name ≡ true → n ≤ most_name
name_count n e = leb-true n most_name e

pub imei_count : (n : ℕ) → eqb n 0 || (eqb n least_imei || eqb n most_digits) ≡ true → n ≤ most_digits
imei_count n e =
    ⊎_elim (λ z. let h = eqb-true n 0 z in omega arith)
    (λ o. ⊎_elim (λ z. let h = eqb-true n least_imei z in omega arith) (λ z. let h = eqb-true n most_digits z in omega arith) (or_cases (eqb n least_imei) (eqb n most_digits) o))
    (or_cases (eqb n 0) (eqb n least_imei || eqb n most_digits) e)

-- ---- every rule with the ranges that it looks at

pub looks_plmns : LooksAt (one_byte plmn_count_at ∷ range plmns_at (plmn_size * most_plmns) ∷ []) plmns_right
unfolding plmns_right
looks_plmns r r' s = rw (first-same plmn_count_at 1 r r' (omega arith) s.0) (go (leb (plmn_size * get_or r plmn_count_at 0) 24) refl)
  where
    go : (b : Bool) → leb (plmn_size * get_or r plmn_count_at 0) 24 ≡ b
        → zeros (part (plmns_at + plmn_size * get_or r plmn_count_at 0) (plmn_size * most_plmns - plmn_size * get_or r plmn_count_at 0) r')
        ≡ zeros (part (plmns_at + plmn_size * get_or r plmn_count_at 0) (plmn_size * most_plmns - plmn_size * get_or r plmn_count_at 0) r)
    go true e =
        let k = plmn_size * get_or r plmn_count_at 0 in
        let h : k ≤ 24 = leb-true k 24 e in
        ap zeros (sym (part-part plmns_at 24 k (24 - k) r' (omega arith)) ∙ ap (part k (24 - k)) s.1.0 ∙ part-part plmns_at 24 k (24 - k) r (omega arith))
    go false e =
        let k = plmn_size * get_or r plmn_count_at 0 in
        let h : 24 < k = leb-false k 24 e in
        let z : 24 - k ≡ 0 = omega arith in
        rw z

pub looks_purged : LooksAt (one_byte purged_at ∷ one_byte mme_at ∷ one_byte sgsn_at ∷ []) purged_right
unfolding purged_right two_bits
looks_purged r r' s =
    let a = first-same purged_at 1 r r' (omega arith) s.0 in
    let b = first-same mme_at 1 r r' (omega arith) s.1.0 in
    let c = first-same sgsn_at 1 r r' (omega arith) s.1.1.0 in
    rw (a, b, c)

pub record Watched : Type 0 where
  pub rule : Rule
  pub ranges : List Range
  pub looks : LooksAt ranges rule.holds

unfoldable pub watched : List Watched
unfolding rules imsi_right two_bits plmn_count_right name_right imei_right
watched =
    record { rule = record { at = imsi_at; holds = imsi_right }; ranges = range imsi_at imsi_size ∷ []; looks = looks_counted _ digits most_digits imsi_at imsi_count } ∷
    record { rule = record { at = subscription_at; holds = two_bits subscription_at }; ranges = one_byte subscription_at ∷ []; looks = looks_byte (λ b. ltb b 4) subscription_at } ∷
    record { rule = unlisted 21 3; ranges = range 21 3 ∷ []; looks = looks_zeros 21 3 } ∷
    record { rule = record { at = plmn_count_at; holds = plmn_count_right }; ranges = one_byte plmn_count_at ∷ []; looks = looks_byte (λ b. leb b most_plmns) plmn_count_at } ∷
    record { rule = unlisted 29 3; ranges = range 29 3 ∷ []; looks = looks_zeros 29 3 } ∷
    record { rule = record { at = plmns_at; holds = plmns_right }; ranges = one_byte plmn_count_at ∷ range plmns_at (plmn_size * most_plmns) ∷ []; looks = looks_plmns } ∷
    record { rule = record { at = purged_at; holds = purged_right }; ranges = one_byte purged_at ∷ one_byte mme_at ∷ one_byte sgsn_at ∷ []; looks = looks_purged } ∷
    record { rule = unlisted 57 7; ranges = range 57 7 ∷ []; looks = looks_zeros 57 7 } ∷
    record { rule = record { at = mme_at; holds = name_right mme_at }; ranges = range mme_at (1 + most_name) ∷ []; looks = looks_counted _ name_bytes most_name mme_at name_count } ∷
    record { rule = record { at = sgsn_at; holds = name_right sgsn_at }; ranges = range sgsn_at (1 + most_name) ∷ []; looks = looks_counted _ name_bytes most_name sgsn_at name_count } ∷
    record { rule = unlisted 194 2; ranges = range 194 2 ∷ []; looks = looks_zeros 194 2 } ∷
    record { rule = record { at = imei_at; holds = imei_right }; ranges = range imei_at (1 + most_digits) ∷ []; looks = looks_counted _ digits most_digits imei_at imei_count } ∷
    record { rule = unlisted 220 36; ranges = range 220 36 ∷ []; looks = looks_zeros 220 36 } ∷
    []

unfoldable pub rule_of : Watched → Rule
rule_of w = w.rule

rules_watched : map rule_of watched ≡ rules
unfolding watched rule_of rules
rules_watched = refl

-- the rules that look into the ranges `cs`
unfoldable pub touched : List Range → List Watched → List Rule
touched cs [] = []
touched cs (w ∷ ws) = cond (all_apart cs w.ranges) (touched cs ws) (w.rule ∷ touched cs ws)

touched_enough : (cs : List Range) (r r' : List ℕ) → DifferIn cs r r' → (ws : List Watched) → all_hold (map rule_of ws) r ≡ true → all_hold (touched cs ws) r' ≡ true → all_hold (map rule_of ws) r' ≡ true
unfolding all_hold touched rule_of
touched_enough cs r r' d [] e h = refl
touched_enough cs r r' d (w ∷ ws) e h = go (touched_enough cs r r' d ws rest) (all_apart cs w.ranges) refl
  where
    own : w.rule.holds r ≡ true
    own = (and_parts (w.rule.holds r) (all_hold (map rule_of ws) r) e).0

    rest : all_hold (map rule_of ws) r ≡ true
    rest = (and_parts (w.rule.holds r) (all_hold (map rule_of ws) r) e).1

    go : (all_hold (touched cs ws) r' ≡ true → all_hold (map rule_of ws) r' ≡ true) → (b : Bool) → all_apart cs w.ranges ≡ b
        → w.rule.holds r' && all_hold (map rule_of ws) r' ≡ true
    go more true q =
        let k : all_hold (touched cs ws) r' ≡ true = rw q at h in
        and_from (w.rule.holds r') (all_hold (map rule_of ws) r') (w.looks r r' (same_on cs w.ranges r r' d q) ∙ own) (more k)
    go more false q =
        let k : w.rule.holds r' && all_hold (touched cs ws) r' ≡ true = rw q at h in
        and_from (w.rule.holds r') (all_hold (map rule_of ws) r') (and_parts (w.rule.holds r') (all_hold (touched cs ws) r') k).0
        (more (and_parts (w.rule.holds r') (all_hold (touched cs ws) r') k).1)

-- a record that was right is right again where the rules that look into what changed hold
pub right_again : (cs : List Range) (r r' : List ℕ) → DifferIn cs r r' → record_right r ≡ true → all_hold (touched cs watched) r' ≡ true → record_right r' ≡ true
unfolding record_right
right_again cs r r' d e h =
    ap (λ (xs : List Rule). all_hold xs r') (sym rules_watched) ∙ touched_enough cs r r' d watched (ap (λ (xs : List Rule). all_hold xs r) rules_watched ∙ e) h
