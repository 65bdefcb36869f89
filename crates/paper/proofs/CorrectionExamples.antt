-- Closed corrections: one at least for each number of 01's list, and the change number's turn to 0.
-- Assumes nothing.
use mathlib.Core.Path.{◌≡◌, refl}
use mathlib.Core.Bool.{Bool, true, ◌&&◌}
use mathlib.Core.List.{List, [], ◌∷◌, ◌++◌}
use Prim.Native.Nat.{ℕ, ◌+◌}
use lib.ListN.{replicate}
use lib.Dec.{eqb}
use Rattle.wire.specs.Number.{be, num_at}
use Rattle.wire.specs.Put.{put}
use Rattle.wire.specs.Stretch.{same, all_in}
use Rattle.paper.specs.Table.{counted, imsi_right, two_bits, plmn_count_right, plmns_right, name_right, purged_right, imei_right, rules, all_hold, record_right, record_of, count_of, imsi_number, all_below, ascends, header_right, valid, seek, lookup, store}
use Rattle.paper.specs.Correction.{value_size, value_right, store_value, next_change, Corrected, accepted, refused, on_record, corrected}

-- an IMSI of six digits, of which the last is `d`
abbrev imsi : ℕ → List ℕ
imsi d = 6 ∷ 48 ∷ 48 ∷ 49 ∷ 48 ∷ 49 ∷ (48 + d) ∷ replicate 9 0

-- two records: the first with change number 7, the second with these bytes at 16 to 19, at 20 and at 28 to 55
abbrev table : ℕ → ℕ → List ℕ → List ℕ
table change subscription plmns =
    be 4 520 ++ (1 ∷ 0 ∷ (be 2 2 ++ (imsi 1 ++ (be 4 7 ++ (replicate 236 0 ++ (imsi 2 ++ (be 4 change ++ (subscription ∷ (replicate 7 0 ++ (plmns ++ replicate 200 0))))))))))

abbrev lent : List ℕ
lent = table 4294967295 1 (replicate 28 0)

-- a frame with this length field, version, kind, IMSI, change number seen and value
abbrev framed : ℕ → ℕ → ℕ → ℕ → ℕ → List ℕ → List ℕ
framed size version kind d seen value = be 2 size ++ (version ∷ kind ∷ (imsi d ++ (be 4 seen ++ value)))

judged : List ℕ → List ℕ → Corrected
unfolding put valid header_right all_below record_right all_hold rules counted imsi_right two_bits plmn_count_right plmns_right name_right purged_right imei_right all_in ascends imsi_number record_of count_of num_at lookup seek same store value_size value_right store_value next_change accepted refused on_record corrected
judged t f = corrected t f

-- a refusal: its number, and the table and the frame that it is given for
pub record Refusal : Type 0 where
  pub number : ℕ
  pub table : List ℕ
  pub frame : List ℕ

abbrev refusal : ℕ → List ℕ → List ℕ → Refusal
refusal number table frame = record { number = number; table = table; frame = frame }

-- where the order matters cases further down the list hold too
abbrev refusals : List Refusal
refusals =
    refusal 4 (7 ∷ lent) (0 ∷ []) ∷
    refusal 11 lent (0 ∷ 23 ∷ replicate 21 2) ∷
    refusal 11 lent (framed 26 2 9 3 7 (4 ∷ [])) ∷
    refusal 12 lent (framed 25 2 9 3 7 (4 ∷ [])) ∷
    refusal 13 lent (framed 25 1 5 3 7 (4 ∷ [])) ∷
    refusal 13 lent (framed 25 1 0 3 7 (4 ∷ [])) ∷
    refusal 14 lent (framed 26 1 1 3 7 (4 ∷ 0 ∷ [])) ∷
    refusal 14 lent (framed 24 1 4 3 7 []) ∷
    refusal 15 lent (framed 25 1 1 3 7 (4 ∷ [])) ∷
    refusal 15 lent (framed 49 1 3 3 7 (9 ∷ replicate 24 0)) ∷
    refusal 15 lent (framed 49 1 3 3 7 (7 ∷ replicate 24 1)) ∷
    refusal 16 lent (framed 25 1 1 3 7 (3 ∷ [])) ∷
    refusal 17 lent (framed 25 1 1 2 7 (3 ∷ [])) ∷
    []

all_refused : List Refusal → Bool
unfolding judged
all_refused [] = true
all_refused (x ∷ xs) = (eqb (judged x.table x.frame).number x.number && same (judged x.table x.frame).table x.table) && all_refused xs

all_refused_lem : all_refused refusals ≡ true
unfolding all_refused
all_refused_lem = refl

-- "P change number 4,294,967,295 goes to 0"; MCC 001, MNC 01 becomes the one PLMN of the second record
stored-and_turned : judged lent (framed 49 1 3 2 4294967295 (1 ∷ 0 ∷ 241 ∷ 16 ∷ replicate 21 0)) ≡ record { number = 0; table = table 0 1 (1 ∷ 0 ∷ 0 ∷ 0 ∷ 0 ∷ 241 ∷ 16 ∷ replicate 21 0) }
unfolding judged
stored-and_turned = refl

stored-and-counted : judged (table 8 1 (replicate 28 0)) (framed 25 1 1 2 8 (3 ∷ [])) ≡ record { number = 0; table = table 9 3 (replicate 28 0) }
unfolding judged
stored-and-counted = refl
