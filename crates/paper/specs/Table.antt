-- 01's section "The table": when a record and a table are valid, which record has an IMSI, and what its fields hold.
-- Assumes nothing.
use Rattle.std.specs.Prelude.{Bool, true, cond, ◌&&◌, ◌||◌, not, List, [], ◌∷◌, ℕ, zero, suc, ◌+◌, ◌-◌, ◌*◌, ◌/◌, ◌%◌, ◌^◌, length, get_or, leb, ltb, eqb}
use Rattle.std.proofs.Math.Option.{Option, none, some}
use Rattle.wire.specs.Number.{num, num_at}
use Rattle.wire.specs.Put.{part, put}
use Rattle.wire.specs.Stretch.{same, name_bytes, digits, zeros}
use Rattle.paper.specs.Layout.{table_header, table_version, record_size, most_records, imsi_at, imsi_size, change_at, subscription_at, plmn_count_at, plmns_at, plmn_size, most_plmns, purged_at, mme_at, sgsn_at, most_name, imei_at, least_imsi, least_imei, most_digits}

-- ---- the rules of a record, row by row of 01's table

-- a rule of the field at `at`, as a test of the whole record
pub record Rule : Type 0 where
  pub at : ℕ
  pub holds : List ℕ → Bool

-- a field of a count and as many bytes as it says, `most` at most; "unused ends of fields are zero"
unfoldable pub counted : (ℕ → Bool) → (List ℕ → Bool) → ℕ → ℕ → List ℕ → Bool
counted count bytes most at r =
    count (get_or r at 0) && (bytes (part (at + 1) (get_or r at 0) r) && zeros (part (at + 1 + get_or r at 0) (most - get_or r at 0) r))

-- "unlisted bytes [..] are zero"
abbrev pub unlisted : ℕ → ℕ → Rule
unlisted at n = record { at = at; holds = λ r. zeros (part at n r) }

-- "IMSI: digit count 6–15, ASCII digits, then zeros"
unfoldable pub imsi_right : List ℕ → Bool
imsi_right = counted (λ n. leb least_imsi n && leb n most_digits) digits most_digits imsi_at

-- a byte of which bits 0 and 1 have a meaning: "other unused bits [..] are zero"
unfoldable pub two_bits : ℕ → List ℕ → Bool
two_bits at r = ltb (get_or r at 0) 4

-- "count 0–8 of PLMNs"
unfoldable pub plmn_count_right : List ℕ → Bool
plmn_count_right r = leb (get_or r plmn_count_at 0) most_plmns

-- "32–55 hold them, 3 bytes each"; "counted PLMNs are free"
unfoldable pub plmns_right : List ℕ → Bool
plmns_right r =
    zeros (part (plmns_at + plmn_size * get_or r plmn_count_at 0) (plmn_size * most_plmns - plmn_size * get_or r plmn_count_at 0) r)

-- bit `k` of the byte at `at`
abbrev pub bit_at : ℕ → ℕ → List ℕ → Bool
bit_at at k r = eqb (get_or r at 0 / 2 ^ k % 2) 1

-- "MME name length 0–64, name"
unfoldable pub name_right : ℕ → List ℕ → Bool
name_right = counted (λ n. leb n most_name) name_bytes most_name

-- "Length 0 means not registered; a purge bit needs a name."
unfoldable pub purged_right : List ℕ → Bool
purged_right r =
    two_bits purged_at r && ((not (bit_at purged_at 0 r) || ltb 0 (get_or r mme_at 0)) && (not (bit_at purged_at 1 r) || ltb 0 (get_or r sgsn_at 0)))

-- "IMEI digit count 0, 14 or 15, ASCII digits"
unfoldable pub imei_right : List ℕ → Bool
imei_right = counted (λ n. eqb n 0 || (eqb n least_imei || eqb n most_digits)) digits most_digits imei_at

-- the rows of 01's table in their order; "Bytes 24–27, 196–203 and counted PLMNs are free", and so is the change number
unfoldable pub rules : List Rule
rules =
    record { at = imsi_at; holds = imsi_right } ∷
    record { at = subscription_at; holds = two_bits subscription_at } ∷
    unlisted 21 3 ∷
    record { at = plmn_count_at; holds = plmn_count_right } ∷
    unlisted 29 3 ∷
    record { at = plmns_at; holds = plmns_right } ∷
    record { at = purged_at; holds = purged_right } ∷
    unlisted 57 7 ∷
    record { at = mme_at; holds = name_right mme_at } ∷
    record { at = sgsn_at; holds = name_right sgsn_at } ∷
    unlisted 194 2 ∷
    record { at = imei_at; holds = imei_right } ∷
    unlisted 220 36 ∷
    []

unfoldable pub all_hold : List Rule → List ℕ → Bool
all_hold [] r = true
all_hold (x ∷ xs) r = x.holds r && all_hold xs r

unfoldable pub record_right : List ℕ → Bool
record_right r = all_hold rules r

-- ---- the table

-- the place of record `i`, and its bytes
abbrev pub record_at : ℕ → ℕ
record_at i = table_header + record_size * i

unfoldable pub record_of : List ℕ → ℕ → List ℕ
record_of t i = part (record_at i) record_size t

unfoldable pub count_of : List ℕ → ℕ
count_of t = num_at 2 t 6

-- the IMSI of a record as stored, 16 bytes
abbrev pub imsi_of : List ℕ → List ℕ
imsi_of r = part imsi_at imsi_size r

-- "strictly ascending by bytes 0–15": bytes of one length are ordered as the numbers that they are
unfoldable pub imsi_number : List ℕ → ℕ → ℕ
imsi_number t i = num (imsi_of (record_of t i))

-- each of the first `n` numbers passes
unfoldable pub all_below : (ℕ → Bool) → ℕ → Bool
all_below f zero = true
all_below f (suc n) = all_below f n && f n

-- record `i` is above the one before it
unfoldable pub ascends : List ℕ → ℕ → Bool
ascends t zero = true
ascends t (suc i) = ltb (imsi_number t i) (imsi_number t (suc i))

-- "its count is at most 240 and its length field equals the buffer's length and 8 + 256 × count"; a buffer under 8 bytes is no valid table
unfoldable pub header_right : List ℕ → Bool
header_right t =
    leb table_header (length t) && (eqb (num_at 4 t 0) (length t) && (eqb (get_or t 4 0) table_version && (eqb (get_or t 5 0) 0 && (leb (count_of t) most_records && eqb (length t) (record_at (count_of t))))))

-- "A table is valid exactly if all this holds"
unfoldable pub valid : List ℕ → Bool
valid t = header_right t && (all_below (λ i. record_right (record_of t i)) (count_of t) && all_below (ascends t) (count_of t))

-- ---- which record has an IMSI: the first of the `n` from `i` on

unfoldable pub seek : List ℕ → List ℕ → ℕ → ℕ → Option ℕ
seek imsi t i zero = none
seek imsi t i (suc n) = cond (same (imsi_of (record_of t i)) imsi) (some i) (seek imsi t (suc i) n)

-- the record with these 16 bytes as its IMSI
unfoldable pub lookup : List ℕ → List ℕ → Option ℕ
lookup imsi t = seek imsi t 0 (count_of t)

-- ---- the fields of a record

abbrev pub change_of : List ℕ → ℕ
change_of r = num_at 4 r change_at

-- A node slot of a record: MME and SGSN are two of one description.
pub record Slot : Type 0 where
  pub number : ℕ  -- its number in the cancel buffer: "1 MME or 2 SGSN"
  pub at : ℕ  -- the name's length stands here, the name behind it
  pub purge_bit : ℕ

abbrev pub mme : Slot
mme = record { number = 1; at = mme_at; purge_bit = 0 }

abbrev pub sgsn : Slot
sgsn = record { number = 2; at = sgsn_at; purge_bit = 1 }

-- the name of the node, no bytes where none is registered
unfoldable pub name_of : Slot → List ℕ → List ℕ
name_of slot r = part (slot.at + 1) (get_or r slot.at 0) r

-- ---- a record with other fields, a table with another record

-- bytes of the record `i` replaced, from its byte `at` on
unfoldable pub store : ℕ → ℕ → List ℕ → List ℕ → List ℕ
store i at xs t = put (record_at i + at) xs t
