-- The static holds the specification's rows and their keys ascend, by computed tests over all rows; the row with a key, in any rows whose keys ascend, and what a
-- search by halves uses of it.
use Rattle.std.proofs.Common.{◌≡◌, refl, sym, ap, ◌∙◌, ℕ, zero, suc, ◌≤◌, ◌<◌, Bool, true, ◌&&◌, List, [], ◌∷◌, length, get_or, Ok, Err, arith}
use mathlib.Core.Path.{ap₂}
use lib.Dec.{eqb, ltb}
use borrow.Author.Tests.{eq-eqb, ne_eqb, eqb-true, ltb-true}
use native.Mathlib.Nat.{not-suc-le-zero, le_of_suc-le-suc, lt_trans}
use Rattle.std.specs.List.Sorted.{IsNonDecreasingBy, IsBinarySearchResult}
use Rattle.std.specs.Ordering.{nat_cmp, ordering_index}
use Rattle.std.proofs.lemmas.Bool.Decides.{nat_tests}
use Rattle.std.proofs.lemmas.Cmp.{ranked}
use Rattle.dictionary.specs.declared.Kind.TheVariants.{Unknown}
use Rattle.dictionary.specs.declared.Row.{Row}
use Rattle.dictionary.specs.declared.rows.TheConstants.{ROWS}
use Rattle.dictionary.specs.Rows.{rows, keys, key_of, keys_of, rising, kind_with, kind_in, kind_of}

-- the whole table

pub rows_held : ROWS ≡ rows
unfolding rows
rows_held = refl

pub keys-rise : rising 0 keys ≡ true
unfolding rising keys rows keys_of key_of
keys-rise = refl

-- rows that are the dictionary's ascend, and a lookup in them is one in the dictionary
pub rows_rise : {rs : List Row} → rs ≡ rows → rising 0 (keys_of rs) ≡ true
unfolding keys
rows_rise e = ap (λ l. rising 0 (keys_of l)) e ∙ keys-rise

pub kind_of_rows : {rs : List Row} → rs ≡ rows → (vendor code : ℕ) → kind_in rs vendor code ≡ kind_of vendor code
unfolding kind_of
kind_of_rows e vendor code = ap (λ l. kind_in l vendor code) e

-- rising lists

both_true : (a b : Bool) → a && b ≡ true → (a ≡ true) × (b ≡ true)
both_true a b e = grind (arith, nat_tests)

above : (b : ℕ) (xs : List ℕ) → rising b xs ≡ true → (j : ℕ) → j < length xs → b < get_or xs j 0
unfolding rising
above b [] e j h = absurd (not-suc-le-zero h)
above b (x ∷ xs) e zero h = ltb-true b x (both_true (ltb b x) (rising x xs) e).0
above b (x ∷ xs) e (suc j) h =
    let p = both_true (ltb b x) (rising x xs) e in
    lt_trans (ltb-true b x p.0) (above x xs p.1 j (le_of_suc-le-suc h))

pub ascending : (b : ℕ) (xs : List ℕ) → rising b xs ≡ true → (i j : ℕ) → i < j → j < length xs → get_or xs i 0 < get_or xs j 0
unfolding rising
ascending b [] e i j h l = absurd (not-suc-le-zero l)
ascending b (x ∷ xs) e i zero h l = absurd (not-suc-le-zero h)
ascending b (x ∷ xs) e zero (suc j) h l = above x xs (both_true (ltb b x) (rising x xs) e).1 j (le_of_suc-le-suc l)
ascending b (x ∷ xs) e (suc i) (suc j) h l =
    ascending x xs (both_true (ltb b x) (rising x xs) e).1 i j (le_of_suc-le-suc h) (le_of_suc-le-suc l)

-- one row a key
pub key_once : (ks : List ℕ) → rising 0 ks ≡ true → (i j : ℕ) → i < length ks → j < length ks → get_or ks i 0 ≡ get_or ks j 0 → i ≡ j
key_once ks r i j h g e = grind (arith, ascending 0 ks r i j, ascending 0 ks r j i)

-- what a step of a search by halves leaves out
module _ (ks : List ℕ) (r : rising 0 ks ≡ true) where
  pub all_below : (k mid : ℕ) → mid < length ks → get_or ks mid 0 < k → (j : ℕ) → j ≤ mid → get_or ks j 0 < k
  all_below k mid b h j p = grind (arith, ascending 0 ks r j mid, λ (same : j ≡ mid). ap (λ n. get_or ks n 0) same)

  pub all_above : (k mid : ℕ) → k < get_or ks mid 0 → (j : ℕ) → mid ≤ j → j < length ks → k < get_or ks j 0
  all_above k mid h j p b = grind (arith, ascending 0 ks r mid j, λ (same : mid ≡ j). ap (λ n. get_or ks n 0) same)

-- rows and their keys

abbrev number : Row → ℕ
number r = key_of r.key.vendor r.key.code

pub length-keys : (rs : List Row) → length (keys_of rs) ≡ length rs
unfolding keys_of
length-keys [] = refl
length-keys (r ∷ rs) = ap suc (length-keys rs)

pub key_at : (rs : List Row) (i : ℕ) (d : Row) → i < length rs → get_or (keys_of rs) i 0 ≡ number (get_or rs i d)
unfolding keys_of
key_at [] i d h = absurd (not-suc-le-zero h)
key_at (r ∷ rs) zero d h = refl
key_at (r ∷ rs) (suc i) d h = key_at rs i d (le_of_suc-le-suc h)

-- the row with a key, and none

with_at : (k b : ℕ) (rs : List Row) → rising b (keys_of rs) ≡ true → (i : ℕ) (d : Row) → i < length rs → number (get_or rs i d) ≡ k
    → kind_with k rs ≡ (get_or rs i d).kind
unfolding kind_with keys_of rising
with_at k b [] e i d h n = absurd (not-suc-le-zero h)
with_at k b (r ∷ rs) e zero d h n = rw (eq-eqb (number r) k n) refl
with_at k b (r ∷ rs) e (suc i) d h n =
    let p = (both_true (ltb b (number r)) (rising (number r) (keys_of rs)) e).1 in
    let l : i < length (keys_of rs) = omega (arith, length-keys rs) in
    let a = above (number r) (keys_of rs) p i l in
    rw (ne_eqb (number r) k (λ z. omega (arith, key_at rs i d))) (with_at k (number r) rs p i d (le_of_suc-le-suc h) n)

with_none : (k : ℕ) (rs : List Row) → ((j : ℕ) (d : Row) → j < length rs → number (get_or rs j d) ≡ k → ⊥) → kind_with k rs ≡ Unknown
unfolding kind_with
with_none k [] n = refl
with_none k (r ∷ rs) n = rw (ne_eqb (number r) k (n 0 r (omega arith))) (with_none k rs (λ j d h. n (suc j) d (omega arith)))

pub kind_at : (rs : List Row) → rising 0 (keys_of rs) ≡ true → (vendor code i : ℕ) (d : Row) → i < length rs → get_or (keys_of rs) i 0 ≡ key_of vendor code
    → kind_in rs vendor code ≡ (get_or rs i d).kind
unfolding kind_in
kind_at rs r vendor code i d h e = with_at (key_of vendor code) 0 rs r i d h (sym (key_at rs i d h) ∙ e)

pub kind_none : (rs : List Row) (vendor code : ℕ) → ((j : ℕ) → j < length rs → get_or (keys_of rs) j 0 ≡ key_of vendor code → ⊥) → kind_in rs vendor code ≡ Unknown
unfolding kind_in
kind_none rs vendor code n = with_none (key_of vendor code) rs (λ j d h e. n j h (key_at rs j d h ∙ e))

-- nothing is left between the keys below and the keys above
pub kind_nowhere : (rs : List Row) (vendor code lo hi : ℕ) → hi ≤ lo → ((j : ℕ) → j < lo → get_or (keys_of rs) j 0 < key_of vendor code)
    → ((j : ℕ) → hi ≤ j → j < length rs → key_of vendor code < get_or (keys_of rs) j 0) → kind_in rs vendor code ≡ Unknown
kind_nowhere rs vendor code lo hi h below over = kind_none rs vendor code (λ j p e. grind (arith, below j, over j))

-- what a search by halves answers among rows whose keys ascend

module _ (rs : List Row) (rise : rising 0 (keys_of rs) ≡ true) (vendor code k : ℕ) (key : k ≡ key_of vendor code) where
  -- the comparisons with a key rise along the rows
  comparisons_rise : IsNonDecreasingBy (λ r. ordering_index (nat_cmp (number r) k)) rs
  comparisons_rise i j d le h =
      let l = length-keys rs in
      let a = ascending 0 (keys_of rs) rise i j in
      let up : number (get_or rs i d) ≤ number (get_or rs j d) = grind (arith, a, key_at rs i d, key_at rs j d, λ (same : i ≡ j). ap (λ n. number (get_or rs n d)) same) in
      grind (arith, nat_tests)

  pub found_in : (i : ℕ) (d : Row) → i < length rs → IsBinarySearchResult (λ r. nat_cmp (number r) k) rs (Ok i) → (get_or rs i d).kind ≡ kind_in rs vendor code
  unfolding kind_in
  found_in i d h at = sym (with_at k 0 rs rise i d h (ranked _ _ _ (sym (at d)))) ∙ ap (λ n. kind_with n rs) key

  pub absent_in : (i : ℕ) → IsBinarySearchResult (λ r. nat_cmp (number r) k) rs (Err i) → Unknown ≡ kind_in rs vendor code
  unfolding kind_in
  absent_in i parted = sym (with_none k rs none) ∙ ap (λ n. kind_with n rs) key
    where
      none : (j : ℕ) (d : Row) → j < length rs → number (get_or rs j d) ≡ k → ⊥
      none j d h e =
          let p = parted comparisons_rise in
          let below : j < i → number (get_or rs j d) < k = λ l. ranked _ _ _ (sym (p.0 j d (omega arith) l)) in
          let over : i ≤ j → k < number (get_or rs j d) = λ l. ranked _ _ _ (sym (p.1 j d l h)) in
          grind (arith, below, over)

-- the same among the dictionary's rows

module _ (rs : List Row) (held : rs ≡ rows) (vendor code k : ℕ) (key : k ≡ key_of vendor code) where
  pub kind_found : (i : ℕ) (d : Row) → i < length rs → IsBinarySearchResult (λ r. nat_cmp (number r) k) rs (Ok i) → (get_or rs i d).kind ≡ kind_of vendor code
  kind_found i d h at = found_in rs (rows_rise held) vendor code k key i d h at ∙ kind_of_rows held vendor code

  pub kind_absent : (i : ℕ) → IsBinarySearchResult (λ r. nat_cmp (number r) k) rs (Err i) → Unknown ≡ kind_of vendor code
  kind_absent i parted = absent_in rs (rows_rise held) vendor code k key i parted ∙ kind_of_rows held vendor code

-- a row whose key compares equal, field by field
pub kind_met : (rs : List Row) → rs ≡ rows → (vendor code i : ℕ) (d : Row) {t : Bool} → i < length rs
    → t ≡ (eqb (get_or rs i d).key.code code && eqb (get_or rs i d).key.vendor vendor) → t ≡ true → (get_or rs i d).kind ≡ kind_of vendor code
kind_met rs held vendor code i d h e t =
    let p = both_true (eqb (get_or rs i d).key.code code) (eqb (get_or rs i d).key.vendor vendor) (sym e ∙ t) in
    let same : number (get_or rs i d) ≡ key_of vendor code = ap₂ key_of (eqb-true _ _ p.1) (eqb-true _ _ p.0) in
    sym (kind_at rs (rows_rise held) vendor code i d h (key_at rs i d h ∙ same)) ∙ kind_of_rows held vendor code
