-- What clerks may rely on, over 01's section "Corrections": the cases of refusal in their order, what an accepted correction alters,
-- and several clerks who correct one table in turn.
-- Assumes nothing.
use Rattle.std.specs.Prelude.{◌≡◌, ◌↔◌, ◌≢◌, ◌⊎◌, Bool, true, false, cond, ◌&&◌, ◌||◌, not, List, [], ◌∷◌, ◌++◌, ℕ, suc, ◌+◌, ◌*◌, ◌%◌, ◌<◌, length, take, drop, get_or, replicate, leb, ltb, eqb}
use Rattle.std.proofs.Math.Option.{Option, none, some}
use Rattle.wire.specs.Number.{num_at}
use Rattle.wire.specs.Put.{part, put}
use Rattle.wire.specs.Stretch.{same}
use Rattle.paper.specs.Table.{record_right, all_below, valid, lookup, record_of}
use Rattle.paper.specs.TableSaid.{RecordSaid}
use Rattle.paper.specs.Correction.{Corrected, corrected}

-- ---- the cases of refusal

-- the record of a table that has the IMSI; no bytes where none has it
unfoldable pub record_at_place : Option ℕ → List ℕ → List ℕ
record_at_place none t = []
record_at_place (some i) t = record_of t i

unfoldable pub record_with : List ℕ → List ℕ → List ℕ
record_with imsi t = record_at_place (lookup imsi t) t

abbrev pub is_none : Option ℕ → Bool
is_none none = true
is_none (some i) = false

-- the record `r` with the value `v` stored: "Kinds: 1 byte 20; 2 bytes 24–27; 3 byte 28 and 32–55 (25 bytes); 4 bytes 196–203"
unfoldable pub with_value : ℕ → List ℕ → List ℕ → List ℕ
with_value kind v r =
    cond (eqb kind 1) (put 20 v r)
    (cond (eqb kind 2) (put 24 v r)
    (cond (eqb kind 3) (put 32 (drop 1 v) (put 28 (take 1 v) r))
    (put 196 v r)))

-- a right record: the IMSI 000000, and nothing else
unfoldable pub plain_record : List ℕ
plain_record = 6 ∷ (replicate 6 48 ++ replicate 249 0)

-- a number of 01's list, and when its case holds of a table and a frame
pub record Case : Type 0 where
  pub number : ℕ
  pub holds : List ℕ → List ℕ → Bool

-- the frame is of this kind, and has a value of this many bytes behind its 24
abbrev pub framed : ℕ → ℕ → List ℕ → Bool
framed kind size f = eqb (get_or f 3 0) kind && eqb (length f) (24 + size)

-- the test holds of none of the places at which the records of a table begin: as many as bytes 6 and 7 say, 256 bytes each, from byte 8 on
unfoldable pub no_record : (ℕ → Bool) → List ℕ → Bool
no_record test t = all_below (λ i. not (test (8 + 256 * i))) (num_at 2 t 6)

-- "Frame: whole length (2), version 1, kind, IMSI (16, as stored), change number seen (4), value."
-- "4 table; 11 under 24 bytes or length field wrong; 12 version; 13 kind; 14 length wrong for the kind; 15 value not valid in a table;
-- 16 no such IMSI; 17 change number differs." 15 is tried on one right record: by `ValueJudged` every other gives the same.
unfoldable pub cases : List Case
cases =
    record { number = 4; holds = λ t f. not (valid t) } ∷
    record { number = 11; holds = λ t f. ltb (length f) 24 || not (eqb (num_at 2 f 0) (length f)) } ∷
    record { number = 12; holds = λ t f. not (eqb (get_or f 2 0) 1) } ∷
    record { number = 13; holds = λ t f. not (eqb (get_or f 3 0) 1 || (eqb (get_or f 3 0) 2 || (eqb (get_or f 3 0) 3 || eqb (get_or f 3 0) 4))) } ∷
    record { number = 14; holds = λ t f. not (framed 1 1 f || (framed 2 4 f || (framed 3 25 f || framed 4 8 f))) } ∷
    record { number = 15; holds = λ t f. not (record_right (with_value (get_or f 3 0) (drop 24 f) plain_record)) } ∷
    record { number = 16; holds = λ t f. no_record (λ at. same (part at 16 t) (part 4 16 f)) t } ∷
    record { number = 17; holds = λ t f. no_record (λ at. same (part at 16 t) (part 4 16 f) && eqb (num_at 4 t (at + 16)) (num_at 4 f 20)) t } ∷
    []

-- `First t f cs n`: of the cases `cs` the first that holds of the table and the frame is the one numbered `n`
pub data First (t f : List ℕ) : List Case → ℕ → Type 0 where
  first : {c : Case} {cs : List Case} → c.holds t f ≡ true → First t f (c ∷ cs) c.number
  later : {c : Case} {cs : List Case} {n : ℕ} → c.holds t f ≡ false → First t f cs n → First t f (c ∷ cs) n

-- none of the cases holds
unfoldable pub none_holds : List ℕ → List ℕ → List Case → Bool
none_holds t f [] = true
none_holds t f (c ∷ cs) = not (c.holds t f) && none_holds t f cs

-- the number of `x` is given as 01 says: a refusal's exactly if its case is the first of the list that holds, 0 exactly if none does;
-- and a refusal leaves the table as it came
pub record FirstThatHolds (t f : List ℕ) (x : Corrected) : Type 0 where
  pub refused : (n : ℕ) → n ≢ 0 → (x.number ≡ n) ↔ First t f cases n
  pub success : (x.number ≡ 0) ↔ (none_holds t f cases ≡ true)
  pub unchanged : x.number ≢ 0 → x.table ≡ t

-- "15 value not valid in a table": the value that a frame has from byte 24 on, of the kind in byte 3, is judged by what it would do to a right record.
-- Number 15 says that stored in any right record it breaks what 01 says of a record; the numbers behind 15, and success, that it breaks it in none.
pub record ValueJudged (f : List ℕ) (x : Corrected) : Type 0 where
  pub breaks : x.number ≡ 15 → (r : List ℕ) → length r ≡ 256 → RecordSaid r → RecordSaid (with_value (get_or f 3 0) (drop 24 f) r) → ⊥
  pub keeps : (x.number ≡ 0) ⊎ ((x.number ≡ 16) ⊎ (x.number ≡ 17)) → (r : List ℕ) → length r ≡ 256 → RecordSaid r → RecordSaid (with_value (get_or f 3 0) (drop 24 f) r)

-- ---- what an accepted correction alters

-- bytes of a record: the first, and how many
pub record Field : Type 0 where
  pub at : ℕ
  pub size : ℕ

abbrev pub field : ℕ → ℕ → Field
field at size = record { at = at; size = size }

-- "16–19: change number"
abbrev pub change_field : Field
change_field = field 16 4

-- "Kinds: 1 byte 20; 2 bytes 24–27; 3 byte 28 and 32–55 (25 bytes); 4 bytes 196–203"
unfoldable pub fields_of_kind : ℕ → List Field
fields_of_kind kind =
    cond (eqb kind 1) (field 20 1 ∷ [])
    (cond (eqb kind 2) (field 24 4 ∷ [])
    (cond (eqb kind 3) (field 28 1 ∷ field 32 24 ∷ [])
    (cond (eqb kind 4) (field 196 8 ∷ []) [])))

-- what a record holds in these fields
unfoldable pub held_in : List Field → List ℕ → List ℕ
held_in [] r = []
held_in (x ∷ xs) r = part x.at x.size r ++ held_in xs r

-- byte `at` of a record belongs to one of these fields
unfoldable pub lies_in : List Field → ℕ → Bool
lies_in [] at = false
lies_in (x ∷ xs) at = (leb x.at at && ltb at (x.at + x.size)) || lies_in xs at

-- the bytes of record `i` of a table
abbrev pub record_in : List ℕ → ℕ → List ℕ
record_in t i = part (8 + 256 * i) 256 t

-- `Alters t f u i`: the table `t` with the frame `f` accepted is `u`, and `i` is the record that the frame names
pub record Alters (t f u : List ℕ) (i : ℕ) : Type 0 where
  pub inside : i < num_at 2 t 6
  pub named : part 0 16 (record_in t i) ≡ part 4 16 f
  pub seen : num_at 4 (record_in t i) 16 ≡ num_at 4 f 20
  pub counted : num_at 4 (record_in u i) 16 ≡ (num_at 4 f 20 + 1) % 4294967296
  pub stored : held_in (fields_of_kind (get_or f 3 0)) (record_in u i) ≡ drop 24 f
  -- every other byte of this record, every other record, the header and the length are as they were
  pub other_bytes : (at : ℕ) → lies_in (change_field ∷ fields_of_kind (get_or f 3 0)) at ≡ false → get_or (record_in u i) at 0 ≡ get_or (record_in t i) at 0
  pub other_records : (j : ℕ) → j ≢ i → record_in u j ≡ record_in t j
  pub header : take 8 u ≡ take 8 t
  pub size : length u ≡ length t
  -- and the table is valid again
  pub right : valid u ≡ true

-- ---- several clerks

-- corrections one after another: the table after them
unfoldable pub run : List ℕ → List (List ℕ) → List ℕ
run t [] = t
run t (f ∷ fs) = run (corrected t f).table fs

-- the correction is accepted, and it is one of the record with this IMSI
unfoldable pub accepts : List ℕ → List ℕ → List ℕ → Bool
accepts imsi t f = eqb (corrected t f).number 0 && same (part 4 16 f) imsi

-- how many of the corrections are accepted and are of the record with this IMSI
unfoldable pub accepted_of : List ℕ → List ℕ → List (List ℕ) → ℕ
accepted_of imsi t [] = 0
accepted_of imsi t (f ∷ fs) = cond (accepts imsi t f) 1 0 + accepted_of imsi (corrected t f).table fs

-- What a record goes through. `A` is what is looked at of it, the change number with it; whatever else happens to a table may stand between.
-- `Course change a n b`: from `a` it came to `b` by `n` accepted corrections, of which each made the change number the next one,
-- and by other steps, which leave what is looked at as it is.
pub data Course {A : Type 0} (change : A → ℕ) : A → ℕ → A → Type 0 where
  stays : {a : A} → Course change a 0 a
  counts : {a b c : A} {n : ℕ} → change b ≡ (change a + 1) % 4294967296 → Course change b n c → Course change a (suc n) c
  passes : {a b c : A} {n : ℕ} → b ≡ a → Course change b n c → Course change a n c

-- what corrections alone alter of a record: its change number, and "bytes 20, 24–27, 28, 32–55, 196–203"
pub record Standing : Type 0 where
  pub change : ℕ
  pub fields : List ℕ

unfoldable pub standing_of : List ℕ → Standing
standing_of r =
    record {
      change = num_at 4 r 16;
      fields = held_in (fields_of_kind 1) r ++ (held_in (fields_of_kind 2) r ++ (held_in (fields_of_kind 3) r ++ held_in (fields_of_kind 4) r));
    }

-- the change number that the record with this IMSI has after these corrections was reached by the last of them, or stood at the start
pub data Reached (imsi : List ℕ) : List ℕ → List (List ℕ) → Type 0 where
  at_start : {t : List ℕ} → Reached imsi t []
  by_last : {t f : List ℕ} → accepts imsi t f ≡ true → Reached imsi t (f ∷ [])
  by_later : {t f g : List ℕ} {gs : List (List ℕ)} → Reached imsi (corrected t f).table (g ∷ gs) → Reached imsi t (f ∷ g ∷ gs)

-- the moment in a run of corrections at which the change number of the record with this IMSI was last reached:
-- no correction of it was accepted since, and the record is byte for byte what it was then
pub record LastReached (imsi t : List ℕ) (fs : List (List ℕ)) : Type 0 where
  pub before : List (List ℕ)
  pub since : List (List ℕ)
  pub split : fs ≡ before ++ since
  pub reached : Reached imsi t before
  pub none_since : accepted_of imsi (run t before) since ≡ 0
  pub same_record : record_with imsi (run t fs) ≡ record_with imsi (run t before)
