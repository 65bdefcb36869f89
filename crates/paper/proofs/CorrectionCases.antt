-- The tests of `corrected` as a list of cases: its number is that of the first that holds. A refused correction alters nothing.
-- Assumes nothing.
use mathlib.Core.Path.{◌≡◌, refl, sym, ◌∙◌}
use mathlib.Core.Logic.{◌≢◌}
use mathlib.Core.Bool.{Bool, true, false, cond, ◌&&◌, ◌||◌, not, false≢true}
use mathlib.Core.Option.{Option, none, some}
use mathlib.Core.List.{List, [], ◌∷◌}
use Prim.Native.Nat.{ℕ, ◌+◌, ◌<◌}
use native.Mathlib.Omega.{arith}
use lib.ListN.{length, get_or}
use lib.Dec.{ltb, eqb}
use borrow.Author.Tests.{ltb-true}
use Rattle.std.proofs.lemmas.Bool.{and_parts}
use Rattle.wire.specs.Number.{num_at}
use Rattle.paper.specs.Table.{valid, lookup, record_of, change_of}
use Rattle.paper.specs.Correction.{frame_head, frame_version, frame_kind, frame_imsi, frame_seen, frame_value, value_size, value_right, Corrected, accepted, refused, on_record, corrected}
use Rattle.paper.specs.Clerks.{record_at_place, record_with, is_none, Case, First, first, later, none_holds}

-- ---- over any list of cases

-- the number of the first case that holds, 0 where none does
unfoldable pub first_number : List ℕ → List ℕ → List Case → ℕ
first_number t f [] = 0
first_number t f (c ∷ cs) = cond (c.holds t f) c.number (first_number t f cs)

-- no case has the number 0
unfoldable pub positive : List Case → Bool
positive [] = true
positive (c ∷ cs) = ltb 0 c.number && positive cs

pub first-number : {t f : List ℕ} {cs : List Case} {n : ℕ} → First t f cs n → first_number t f cs ≡ n
unfolding first_number
first-number (first h) = rw h
first-number (later h r) = rw h (first-number r)

pub number-first : (t f : List ℕ) (cs : List Case) (n : ℕ) → n ≢ 0 → first_number t f cs ≡ n → First t f cs n
unfolding first_number
number-first t f [] n z e = absurd (z (sym e))
number-first t f (c ∷ cs) n z e = go (c.holds t f) refl (number-first t f cs n z)
  where
    go : (b : Bool) → c.holds t f ≡ b → (first_number t f cs ≡ n → First t f cs n) → First t f (c ∷ cs) n
    go true h more = let k : c.number ≡ n = rw h at e in rw (sym k) (first h)
    go false h more = let k : first_number t f cs ≡ n = rw h at e in later h (more k)

pub none_number : (t f : List ℕ) (cs : List Case) → none_holds t f cs ≡ true → first_number t f cs ≡ 0
unfolding first_number none_holds
none_number t f [] e = refl
none_number t f (c ∷ cs) e = go (c.holds t f) refl (none_number t f cs)
  where
    go : (b : Bool) → c.holds t f ≡ b → (none_holds t f cs ≡ true → first_number t f cs ≡ 0) → cond (c.holds t f) c.number (first_number t f cs) ≡ 0
    go true h more = let k : false ≡ true = rw h at e in absurd (false≢true k)
    go false h more = let k : none_holds t f cs ≡ true = rw h at e in rw h (more k)

pub number_none : (t f : List ℕ) (cs : List Case) → positive cs ≡ true → first_number t f cs ≡ 0 → none_holds t f cs ≡ true
unfolding first_number none_holds positive
number_none t f [] p e = refl
number_none t f (c ∷ cs) p e = go (c.holds t f) refl (number_none t f cs (and_parts (ltb 0 c.number) (positive cs) p).1)
  where
    go : (b : Bool) → c.holds t f ≡ b → (first_number t f cs ≡ 0 → none_holds t f cs ≡ true) → not (c.holds t f) && none_holds t f cs ≡ true
    go true h more =
        let k : c.number ≡ 0 = rw h at e in
        let q : 0 < c.number = ltb-true 0 c.number (and_parts (ltb 0 c.number) (positive cs) p).0 in
        absurd (omega arith)
    go false h more = let k : first_number t f cs ≡ 0 = rw h at e in rw h (more k)

-- ---- the tests of a correction, as its definition has them

unfoldable pub tests : List Case
tests =
    record { number = 4; holds = λ t f. not (valid t) } ∷
    record { number = 11; holds = λ t f. ltb (length f) frame_head || not (eqb (num_at 2 f 0) (length f)) } ∷
    record { number = 12; holds = λ t f. not (eqb (get_or f 2 0) frame_version) } ∷
    record { number = 13; holds = λ t f. eqb (value_size (frame_kind f)) 0 } ∷
    record { number = 14; holds = λ t f. not (eqb (length f) (frame_head + value_size (frame_kind f))) } ∷
    record { number = 15; holds = λ t f. not (value_right (frame_kind f) (frame_value f)) } ∷
    record { number = 16; holds = λ t f. is_none (lookup (frame_imsi f) t) } ∷
    record { number = 17; holds = λ t f. not (eqb (change_of (record_with (frame_imsi f) t)) (frame_seen f)) } ∷
    []

-- what a chain of refusals comes to: its number, and the table as it came
cond-number : (b : Bool) (n : ℕ) (t : List ℕ) (x : Corrected) → (cond b (refused n t) x).number ≡ cond b n x.number
unfolding refused
cond-number true n t x = refl
cond-number false n t x = refl

on_record_number : (o : Option ℕ) (f t : List ℕ)
    → (on_record o f t).number ≡ cond (is_none o) 16 (cond (not (eqb (change_of (record_at_place o t)) (frame_seen f))) 17 0)
unfolding on_record record_at_place refused accepted
on_record_number none f t = refl
on_record_number (some i) f t = go (eqb (change_of (record_of t i)) (frame_seen f))
  where
    go : (b : Bool) → (cond b (accepted i f t) (refused 17 t)).number ≡ cond (not b) 17 0
    go true = refl
    go false = refl

pub corrected-number : (t f : List ℕ) → (corrected t f).number ≡ first_number t f tests
unfolding corrected first_number tests record_with
corrected-number t f =
    simp cond-number (rw (on_record_number (lookup (frame_imsi f) t) f t))

-- a chain of refusals leaves the table as it came where what follows it does
refused-or : (b : Bool) (m : ℕ) (t : List ℕ) (x : Corrected) → (x.number ≢ 0 → x.table ≡ t) → (cond b (refused m t) x).number ≢ 0 → (cond b (refused m t) x).table ≡ t
unfolding refused
refused-or true m t x h z = refl
refused-or false m t x h z = h z

refused_on_record : (o : Option ℕ) (f t : List ℕ) → (on_record o f t).number ≢ 0 → (on_record o f t).table ≡ t
unfolding on_record refused accepted
refused_on_record none f t z = refl
refused_on_record (some j) f t z = go (eqb (change_of (record_of t j)) (frame_seen f)) z
  where
    go : (b : Bool) → (cond b (accepted j f t) (refused 17 t)).number ≢ 0 → (cond b (accepted j f t) (refused 17 t)).table ≡ t
    go true y = absurd (y refl)
    go false y = refl

-- a refused correction alters nothing
pub refused_alters_nothing : (t f : List ℕ) → (corrected t f).number ≢ 0 → (corrected t f).table ≡ t
unfolding corrected
refused_alters_nothing t f =
    refused-or (not (valid t)) 4 t _
    (refused-or (ltb (length f) frame_head || not (eqb (num_at 2 f 0) (length f))) 11 t _
    (refused-or (not (eqb (get_or f 2 0) frame_version)) 12 t _
    (refused-or (eqb (value_size (frame_kind f)) 0) 13 t _
    (refused-or (not (eqb (length f) (frame_head + value_size (frame_kind f)))) 14 t _
    (refused-or (not (value_right (frame_kind f) (frame_value f))) 15 t _ (refused_on_record (lookup (frame_imsi f) t) f t))))))

-- none of the tests holds of an accepted correction
pub no_case_holds : (t f : List ℕ) → (corrected t f).number ≡ 0 → none_holds t f tests ≡ true
unfolding positive tests
no_case_holds t f e = number_none t f tests refl (sym (corrected-number t f) ∙ e)
