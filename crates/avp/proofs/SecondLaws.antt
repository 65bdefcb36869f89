-- The search for the first second of a key: what the flags say of the keys that were met, and how a step goes on.
-- Assumes nothing.
use mathlib.Core.Path.{◌≡◌, refl, sym, ap, ◌∙◌}
use mathlib.Core.Bool.{Bool, true, false, cond, not, ◌||◌}
use mathlib.Core.List.{List, [], ◌∷◌, map}
use Prim.Native.Nat.{ℕ, zero, suc, ◌+◌, ◌≤◌, ◌<◌}
use Prim.Native.Nat.compare
use native.Mathlib.Nat.{le_of_suc-le-suc, not-suc-le-zero}
use native.Mathlib.Omega.{arith}
use lib.ListN.{length, get_or, set, replicate}
use lib.Seq.{get_or-set_same, get_or-set_other}
use lib.Dec.{eqb, ltb}
use borrow.Author.Tests.{eqb-true, eqb-false, eq-eqb, ne_eqb, lt-ltb, le-ltb}
use Rattle.std.specs.Prelude.{Some, None, is_some}
use Rattle.std.specs.List.{position_or_len}
use Rattle.std.proofs.lemmas.List.Quantifiers.{position-Some}
use Rattle.std.proofs.lemmas.Option.{same_Some}
use Rattle.dictionary.specs.Rows.{key_of}
use Rattle.dictionary.specs.declared.Key.{Key}
use Rattle.paper.specs.Find.{member}
use Rattle.avp.specs.Step.{key_at}
use Rattle.avp.specs.Found.{number, index_of}
use Rattle.avp.specs.declared.cursor.Avp.{Avp}
use Rattle.avp.proofs.WalkLaws.{second_in}

-- ---- the index of a key

module _ (k : ℕ) (keys : List Key) {i : ℕ} (e : index_of k keys ≡ Some i) where
  pub index_below : i < length keys
  index_below = (position-Some (λ x. eqb (number x) k) keys i (record { vendor = 0; code = 0 }) e).0

  -- a key that is there stands at its index
  pub index_at : number (get_or keys i (record { vendor = 0; code = 0 })) ≡ k
  index_at = eqb-true _ _ (position-Some (λ x. eqb (number x) k) keys i (record { vendor = 0; code = 0 }) e).1

-- two numbers have two indexes
pub index_apart : (j k : ℕ) (keys : List Key) {i : ℕ} → index_of j keys ≡ Some i → index_of k keys ≡ Some i → j ≡ k
index_apart j k keys e f = sym (index_at j keys e) ∙ index_at k keys f

-- a key is among the keys where it has an index
pub member_index : (k : ℕ) (keys : List Key) → member k (map number keys) ≡ is_some (index_of k keys)
unfolding member
member_index k keys = among keys ∙ sym (answers (ltb (position_or_len (λ x. eqb (number x) k) keys) (length keys)))
  where
    answers : (b : Bool) → is_some (cond b (Some (position_or_len (λ x. eqb (number x) k) keys)) None) ≡ b
    answers true = refl
    answers false = refl

    among : (xs : List Key) → member k (map number xs) ≡ ltb (position_or_len (λ x. eqb (number x) k) xs) (length xs)
    among [] = refl
    among (x ∷ xs) = go (eqb (number x) k) refl (among xs)
      where
        go : (b : Bool) → eqb (number x) k ≡ b → member k (map number xs) ≡ ltb (position_or_len (λ y. eqb (number y) k) xs) (length xs)
            → eqb k (number x) || member k (map number xs) ≡ ltb (cond (not b) (1 + position_or_len (λ y. eqb (number y) k) xs) 0) (suc (length xs))
        go true e f = rw (eq-eqb k (number x) (sym (eqb-true (number x) k e))) (sym (lt-ltb 0 (suc (length xs)) (omega arith)))
        go false e f =
            let n = position_or_len (λ y. eqb (number y) k) xs in
            let one : 1 + n ≡ suc n = omega arith in
            rw (ne_eqb k (number x) (λ q. eqb-false (number x) k e (sym q)), one, compare.suc-suc) f

pub index_member : (k : ℕ) (keys : List Key) → member k (map number keys) ≡ true → is_some (index_of k keys) ≡ true
index_member k keys e = sym (member_index k keys) ∙ e

pub no_member_index : (k : ℕ) (keys : List Key) → index_of k keys ≡ None → member k (map number keys) ≡ false
no_member_index k keys e = member_index k keys ∙ ap is_some e

-- a search that comes to the key's place: those before it are others
pub index_here : (k : ℕ) (keys : List Key) (i : ℕ) (d : Key) → i < length keys → ((j : ℕ) → j < i → number (get_or keys j d) ≡ k → ⊥) → number (get_or keys i d) ≡ k
    → index_of k keys ≡ Some i
index_here k keys i d h n e = rw (steps keys i h n e, lt-ltb i (length keys) h)
  where
    steps : (xs : List Key) (j : ℕ) → j < length xs → ((m : ℕ) → m < j → number (get_or xs m d) ≡ k → ⊥) → number (get_or xs j d) ≡ k
        → position_or_len (λ x. eqb (number x) k) xs ≡ j
    steps [] j l f q = absurd (not-suc-le-zero l)
    steps (x ∷ xs) zero l f q = rw (eq-eqb (number x) k q)
    steps (x ∷ xs) (suc j) l f q =
        rw (ne_eqb (number x) k (f 0 (omega arith)), steps xs j (le_of_suc-le-suc l) (λ m b. f (suc m) (omega arith)) q) (omega arith)

-- a search that comes to the end
pub index_none : (k : ℕ) (keys : List Key) (d : Key) → ((j : ℕ) → j < length keys → number (get_or keys j d) ≡ k → ⊥) → index_of k keys ≡ None
index_none k keys d n = rw (past keys n, le-ltb (length keys) (length keys) (omega arith))
  where
    past : (xs : List Key) → ((j : ℕ) → j < length xs → number (get_or xs j d) ≡ k → ⊥) → position_or_len (λ x. eqb (number x) k) xs ≡ length xs
    past [] f = refl
    past (x ∷ xs) f = rw (ne_eqb (number x) k (f 0 (omega arith)), past xs (λ j l. f (suc j) (omega arith))) (omega arith)

-- ---- the flags

-- `flags` says by the index of each key whether it is in `met`
abbrev Says : List Key → List Bool → List ℕ → Type 0
Says keys flags met = (k i : ℕ) → index_of k keys ≡ Some i → member k met ≡ get_or flags i false

-- a list of one value reads as that value everywhere
pub get_or-same : {A : Type 0} (n i : ℕ) (d : A) → get_or (replicate n d) i d ≡ d
get_or-same zero i d = refl
get_or-same (suc n) zero d = refl
get_or-same (suc n) (suc i) d = get_or-same n i d

says_nothing : (keys : List Key) (n : ℕ) → Says keys (replicate n false) []
unfolding member
says_nothing keys n k i e = sym (get_or-same n i false)

-- one more key that is met
says-more : (keys : List Key) (flags : List Bool) (met : List ℕ) (key at : ℕ) → index_of key keys ≡ Some at → at < length flags → Says keys flags met
    → Says keys (set flags at true) (key ∷ met)
unfolding member
says-more keys flags met key at here room says k i e = go (eqb k key) refl
  where
    go : (b : Bool) → eqb k key ≡ b → b || member k met ≡ get_or (set flags at true) i false
    go true q =
        let own : Some i ≡ Some at = sym e ∙ ap (λ (x : ℕ). index_of x keys) (eqb-true k key q) ∙ here in
        rw (same_Some i at own) (sym (get_or-set_same flags at true false room))
    go false q =
        says k i e
        ∙ sym (get_or-set_other flags at i true false (λ s. eqb-false k key q (index_apart k key keys e (rw s here))))

-- ---- the search

-- The search in the list `all` has come to `rest`: what it looks for is what is left to look for there, with the keys that the flags say were met.
pub record Walked (keys : List Key) (all : List Avp) (flags : List Bool) (rest : List Avp) : Type 0 where
  pub met : List ℕ
  pub says : (k i : ℕ) → index_of k keys ≡ Some i → member k met ≡ get_or flags i false
  pub same : second_in (map number keys) [] all ≡ second_in (map number keys) met rest

pub walked_start : (keys : List Key) (n : ℕ) {all rest : List Avp} → rest ≡ all → Walked keys all (replicate n false) rest
walked_start keys n e = record { met = []; says = says_nothing keys n; same = rw e }

module _ (keys : List Key) (all : List Avp) (flags : List Bool) {rest : List Avp} (w : Walked keys all flags rest) where
  pub second_over : rest ≡ [] → second_in (map number keys) [] all ≡ None
  unfolding second_in
  second_over e = w.same ∙ ap (second_in (map number keys) w.met) e

  module _ {a : Avp} {next : List Avp} (e : rest ≡ a ∷ next) {k : Key} (own : k ≡ key_at a) where
    abbrev key : ℕ
    key = key_of a.vendor a.code

    second_step : second_in (map number keys) [] all
        ≡ cond (member key (map number keys)) (cond (member key w.met) (Some a) (second_in (map number keys) (key ∷ w.met) next)) (second_in (map number keys) w.met next)
    unfolding second_in
    second_step = w.same ∙ ap (second_in (map number keys) w.met) e

    index : index_of key keys ≡ index_of (number k) keys
    index = ap (λ (x : Key). index_of (number x) keys) (sym own)

    -- a key that is not looked for
    pub second-other : None ≡ index_of (number k) keys → Walked keys all flags next
    second-other h = record { met = w.met; says = w.says; same = second_step ∙ rw (member_index key keys ∙ ap is_some (index ∙ sym h)) }

    module _ {i : ℕ} (found : Some i ≡ index_of (number k) keys) where
      here : index_of key keys ≡ Some i
      here = index ∙ sym found

      is_key : member key (map number keys) ≡ true
      is_key = member_index key keys ∙ ap is_some here

      pub second-here : get_or flags i false ≡ true → second_in (map number keys) [] all ≡ Some a
      second-here t = second_step ∙ rw (is_key, w.says key i here ∙ t)

      pub second_mark : length keys ≤ length flags → get_or flags i false ≡ false → Walked keys all (set flags i true) next
      second_mark room t =
          record {
            met = key ∷ w.met;
            says = says-more keys flags w.met key i here (let b = index_below key keys here in omega arith) w.says;
            same = second_step ∙ rw (is_key, w.says key i here ∙ t);
          }
