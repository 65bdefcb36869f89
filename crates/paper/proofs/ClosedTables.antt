-- Closed tables: the empty one, one record, two in order; and each rule of 01's table broken in turn, each by its own bytes.
-- Assumes nothing.
use mathlib.Core.Path.{◌≡◌, refl}
use mathlib.Core.Bool.{Bool, true, false, ◌&&◌, not}
use mathlib.Core.Option.{Option, none, some}
use mathlib.Core.List.{List, [], ◌∷◌, ◌++◌}
use Prim.Native.Nat.{ℕ, ◌+◌, ◌*◌}
use lib.ListN.{replicate}
use Rattle.wire.specs.Number.{be, num_at}
use Rattle.wire.specs.Put.{put}
use Rattle.wire.specs.Stretch.{same, all_in}
use Rattle.paper.specs.Table.{counted, imsi_right, two_bits, plmn_count_right, plmns_right, name_right, purged_right, imei_right, rules, all_hold, record_right, record_of, count_of, imsi_number, all_below, ascends, header_right, valid, seek, lookup}
use Rattle.paper.specs.TableSaid.{TableSaid}
use Rattle.paper.proofs.TableSaid.{table-said}

-- an IMSI of six digits, of which the last is `d`
abbrev imsi : ℕ → List ℕ
imsi d = 6 ∷ 48 ∷ 48 ∷ 49 ∷ 48 ∷ 49 ∷ (48 + d) ∷ replicate 9 0

-- a record with this IMSI and nothing else
abbrev bare : ℕ → List ℕ
bare d = imsi d ++ replicate 240 0

-- a table that says to have `n` records
abbrev table : ℕ → List ℕ → List ℕ
table n records = be 4 (8 + 256 * n) ++ (1 ∷ 0 ∷ (be 2 n ++ records))

-- bytes written over others
pub record Edit : Type 0 where
  pub at : ℕ
  pub bytes : List ℕ

abbrev edit : ℕ → List ℕ → Edit
edit at bytes = record { at = at; bytes = bytes }

-- the table of one record with these edits in the record
abbrev edited : List Edit → List ℕ → List ℕ
edited [] t = t
edited (e ∷ es) t = edited es (put (8 + e.at) e.bytes t)

judged : List ℕ → Bool
unfolding put valid header_right all_below record_right all_hold rules counted imsi_right two_bits plmn_count_right plmns_right name_right purged_right imei_right all_in ascends imsi_number record_of count_of num_at
judged t = valid t

-- each of the edits leaves the table valid, or each leaves it not valid
all_judged : Bool → List (List Edit) → Bool
unfolding judged
all_judged true [] = true
all_judged false [] = true
all_judged true (e ∷ es) = judged (edited e (table 1 (bare 0))) && all_judged true es
all_judged false (e ∷ es) = not (judged (edited e (table 1 (bare 0)))) && all_judged false es

-- ---- the table

empty_valid : judged (table 0 []) ≡ true
unfolding judged
empty_valid = refl

ascending-valid : judged (table 2 (bare 0 ++ bare 1)) ≡ true
unfolding judged
ascending-valid = refl

-- "ascending by bytes 0–15", of which byte 0 is the digit count: 999999 stands before 000000000000000
shorter_first : judged (table 2 ((6 ∷ (replicate 6 57 ++ replicate 249 0)) ++ (15 ∷ (replicate 15 48 ++ replicate 240 0)))) ≡ true
unfolding judged
shorter_first = refl

-- and what 01 says of a table holds of such a one, in its own words
ascending-said : TableSaid (table 2 (bare 0 ++ bare 1))
unfolding judged
ascending-said = (table-said (table 2 (bare 0 ++ bare 1))).0 ascending-valid

equal-not-valid : judged (table 2 (bare 1 ++ bare 1)) ≡ false
unfolding judged
equal-not-valid = refl

descending_not-valid : judged (table 2 (bare 1 ++ bare 0)) ≡ false
unfolding judged
descending_not-valid = refl

-- "A buffer under 8 bytes is no valid table": seven bytes, whose length field says so
short-not-valid : judged (0 ∷ 0 ∷ 0 ∷ 7 ∷ 1 ∷ 0 ∷ 0 ∷ []) ≡ false
unfolding judged
short-not-valid = refl

-- the header: length field, version, the zero, more bytes than records, fewer, over 240 records
abbrev wrong_headers : List (List ℕ)
wrong_headers =
    (0 ∷ 0 ∷ 0 ∷ 9 ∷ 1 ∷ 0 ∷ 0 ∷ 0 ∷ []) ∷
    (0 ∷ 0 ∷ 0 ∷ 8 ∷ 2 ∷ 0 ∷ 0 ∷ 0 ∷ []) ∷
    (0 ∷ 0 ∷ 0 ∷ 8 ∷ 1 ∷ 1 ∷ 0 ∷ 0 ∷ []) ∷
    (0 ∷ 0 ∷ 0 ∷ 8 ∷ 1 ∷ 0 ∷ 0 ∷ 1 ∷ []) ∷
    (0 ∷ 0 ∷ 0 ∷ 9 ∷ 1 ∷ 0 ∷ 0 ∷ 0 ∷ 0 ∷ []) ∷
    []

none_valid : List (List ℕ) → Bool
unfolding judged
none_valid [] = true
none_valid (t ∷ ts) = not (judged t) && none_valid ts

headers_not-valid : none_valid wrong_headers ≡ true
unfolding none_valid
headers_not-valid = refl

most-records : header_right (table 240 (replicate (256 * 240) 0)) ≡ true
unfolding judged
most-records = refl

over-most-records : header_right (table 241 (replicate (256 * 241) 0)) ≡ false
unfolding judged
over-most-records = refl

-- ---- a record

-- each field at its bounds
abbrev right_edits : List (List Edit)
right_edits =
    [] ∷
    (edit 0 (15 ∷ replicate 15 57) ∷ []) ∷
    (edit 16 (replicate 4 255) ∷ []) ∷
    (edit 20 (3 ∷ []) ∷ []) ∷
    (edit 24 (replicate 4 255) ∷ []) ∷
    (edit 28 (8 ∷ []) ∷ edit 32 (replicate 24 255) ∷ []) ∷
    (edit 28 (1 ∷ []) ∷ edit 32 (0 ∷ 241 ∷ 16 ∷ []) ∷ []) ∷
    (edit 64 (64 ∷ replicate 64 0x7E) ∷ edit 56 (1 ∷ []) ∷ []) ∷
    (edit 129 (64 ∷ replicate 64 0x21) ∷ edit 56 (2 ∷ []) ∷ []) ∷
    (edit 64 (1 ∷ 97 ∷ []) ∷ edit 129 (1 ∷ 97 ∷ []) ∷ edit 56 (3 ∷ []) ∷ []) ∷
    (edit 196 (replicate 8 255) ∷ []) ∷
    (edit 204 (14 ∷ replicate 14 48) ∷ []) ∷
    (edit 204 (15 ∷ replicate 15 57) ∷ []) ∷
    []

right_edits_valid : all_judged true right_edits ≡ true
unfolding all_judged
right_edits_valid = refl

-- each rule broken alone, in the order of 01's table
abbrev wrong_edits : List (List Edit)
wrong_edits =
    (edit 0 (5 ∷ 48 ∷ 48 ∷ 48 ∷ 48 ∷ 48 ∷ 0 ∷ []) ∷ []) ∷
    (edit 0 (16 ∷ replicate 15 48) ∷ []) ∷
    (edit 6 (47 ∷ []) ∷ []) ∷
    (edit 6 (58 ∷ []) ∷ []) ∷
    (edit 7 (48 ∷ []) ∷ []) ∷
    (edit 15 (48 ∷ []) ∷ []) ∷
    (edit 20 (4 ∷ []) ∷ []) ∷
    (edit 21 (1 ∷ []) ∷ []) ∷
    (edit 23 (1 ∷ []) ∷ []) ∷
    (edit 28 (9 ∷ []) ∷ []) ∷
    (edit 29 (1 ∷ []) ∷ []) ∷
    (edit 31 (1 ∷ []) ∷ []) ∷
    (edit 32 (1 ∷ []) ∷ []) ∷
    (edit 28 (7 ∷ []) ∷ edit 55 (1 ∷ []) ∷ []) ∷
    (edit 56 (1 ∷ []) ∷ []) ∷
    (edit 56 (2 ∷ []) ∷ []) ∷
    (edit 56 (1 ∷ []) ∷ edit 129 (1 ∷ 97 ∷ []) ∷ []) ∷
    (edit 56 (2 ∷ []) ∷ edit 64 (1 ∷ 97 ∷ []) ∷ []) ∷
    (edit 56 (4 ∷ []) ∷ edit 64 (1 ∷ 97 ∷ []) ∷ edit 129 (1 ∷ 97 ∷ []) ∷ []) ∷
    (edit 57 (1 ∷ []) ∷ []) ∷
    (edit 63 (1 ∷ []) ∷ []) ∷
    (edit 64 (65 ∷ replicate 128 97) ∷ []) ∷
    (edit 64 (1 ∷ 0x20 ∷ []) ∷ []) ∷
    (edit 64 (1 ∷ 0x7F ∷ []) ∷ []) ∷
    (edit 65 (1 ∷ []) ∷ []) ∷
    (edit 128 (97 ∷ []) ∷ []) ∷
    (edit 129 (65 ∷ replicate 64 97) ∷ []) ∷
    (edit 129 (1 ∷ 0x20 ∷ []) ∷ []) ∷
    (edit 129 (1 ∷ 0x7F ∷ []) ∷ []) ∷
    (edit 130 (1 ∷ []) ∷ []) ∷
    (edit 193 (1 ∷ []) ∷ []) ∷
    (edit 194 (1 ∷ []) ∷ []) ∷
    (edit 195 (1 ∷ []) ∷ []) ∷
    (edit 204 (13 ∷ replicate 13 48) ∷ []) ∷
    (edit 204 (16 ∷ replicate 16 48) ∷ []) ∷
    (edit 204 (14 ∷ 47 ∷ replicate 13 48) ∷ []) ∷
    (edit 204 (15 ∷ 58 ∷ replicate 14 48) ∷ []) ∷
    (edit 204 (14 ∷ replicate 15 48) ∷ []) ∷
    (edit 205 (48 ∷ []) ∷ []) ∷
    (edit 220 (1 ∷ []) ∷ []) ∷
    (edit 255 (1 ∷ []) ∷ []) ∷
    []

wrong_edits_not-valid : all_judged false wrong_edits ≡ true
unfolding all_judged
wrong_edits_not-valid = refl

-- ---- which record has an IMSI

sought : ℕ → Option ℕ
unfolding lookup seek same record_of count_of num_at
sought d = lookup (imsi d) (table 2 (bare 0 ++ bare 2))

finds_second : sought 2 ≡ some 1
unfolding sought
finds_second = refl

finds_none : sought 1 ≡ none
unfolding sought
finds_none = refl
