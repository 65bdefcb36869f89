-- Promise: when a table is valid, byte by byte. 01's section "The table" in its order, with its numbers in their places; it names no rule of Table.antt,
-- whose `valid` is the test behind number 4. That the one is the other is `table-said`.
-- Assumes nothing.
use Rattle.std.specs.Prelude.{◌≡◌, ◌⊎◌, List, ℕ, ◌+◌, ◌*◌, ◌/◌, ◌%◌, ◌≤◌, ◌<◌, length, get_or}
use Rattle.wire.specs.Number.{num_at}
use Rattle.wire.specs.Put.{part}

-- ---- a record

-- each of the bytes `from` to `to` is at least `low` and at most `high`
abbrev pub Within : ℕ → ℕ → List ℕ → ℕ → ℕ → Type 0
Within low high r from to = (j : ℕ) → from ≤ j → j ≤ to → (low ≤ get_or r j 0) × (get_or r j 0 ≤ high)

-- each of the bytes `from` to `to` is zero
abbrev pub Zero : List ℕ → ℕ → ℕ → Type 0
Zero r from to = (j : ℕ) → from ≤ j → j ≤ to → get_or r j 0 ≡ 0

-- The 256 bytes of a record. "Bytes 24–27, 196–203 and counted PLMNs are free; other unused bits, unlisted bytes and unused ends of fields are zero."
pub record RecordSaid (r : List ℕ) : Type 0 where
  -- "0–15: IMSI: digit count 6–15, ASCII digits, then zeros"
  pub imsi_count : (6 ≤ get_or r 0 0) × (get_or r 0 0 ≤ 15)
  pub imsi_digits : Within 48 57 r 1 (get_or r 0 0)
  pub imsi_end : Zero r (1 + get_or r 0 0) 15
  -- "16–19: change number", any
  -- "20: bit 0 EPS subscription, bit 1 GPRS subscription"
  pub subscription : get_or r 20 0 < 4
  pub unlisted_21 : Zero r 21 23
  -- "24–27: Access-Restriction-Data", free
  -- "28: count 0–8 of PLMNs; 32–55 hold them, 3 bytes each"
  pub plmn_count : get_or r 28 0 ≤ 8
  pub unlisted_29 : Zero r 29 31
  pub plmn_end : Zero r (32 + 3 * get_or r 28 0) 55
  -- "56: bit 0 purged in MME, bit 1 purged in SGSN"; "a purge bit needs a name"
  pub purged : get_or r 56 0 < 4
  pub purged_mme : get_or r 56 0 % 2 ≡ 1 → 0 < get_or r 64 0
  pub purged_sgsn : get_or r 56 0 / 2 % 2 ≡ 1 → 0 < get_or r 129 0
  pub unlisted_57 : Zero r 57 63
  -- "64, 65–128: MME name length 0–64, name"; "A name byte is 0x21 to 0x7E"
  pub mme_length : get_or r 64 0 ≤ 64
  pub mme_name : Within 0x21 0x7E r 65 (64 + get_or r 64 0)
  pub mme_end : Zero r (65 + get_or r 64 0) 128
  -- "129, 130–193: SGSN name length 0–64, name"
  pub sgsn_length : get_or r 129 0 ≤ 64
  pub sgsn_name : Within 0x21 0x7E r 130 (129 + get_or r 129 0)
  pub sgsn_end : Zero r (130 + get_or r 129 0) 193
  pub unlisted_194 : Zero r 194 195
  -- "196–199, 200–203: AMBR uplink, downlink", free
  -- "204, 205–219: IMEI digit count 0, 14 or 15, ASCII digits"
  pub imei_count : (get_or r 204 0 ≡ 0) ⊎ ((get_or r 204 0 ≡ 14) ⊎ (get_or r 204 0 ≡ 15))
  pub imei_digits : Within 48 57 r 205 (204 + get_or r 204 0)
  pub imei_end : Zero r (205 + get_or r 204 0) 219
  pub unlisted_220 : Zero r 220 255

-- ---- a table

-- of their first `n` bytes those of `a` come before those of `b`: they are equal up to a place, and there the byte of `a` is the smaller
pub record Before (n : ℕ) (a b : List ℕ) : Type 0 where
  pub place : ℕ
  pub inside : place < n
  pub equal : (j : ℕ) → j < place → get_or a j 0 ≡ get_or b j 0
  pub smaller : get_or a place 0 < get_or b place 0

-- "Eight bytes: whole length (4), version 1, one zero, record count (2). Then 256 bytes a record, strictly ascending by bytes 0–15."
-- "its count is at most 240 and its length field equals the buffer's length and 8 + 256 × count"
pub record TableSaid (t : List ℕ) : Type 0 where
  pub long : 8 ≤ length t
  pub length_field : num_at 4 t 0 ≡ length t
  pub version : get_or t 4 0 ≡ 1
  pub zero_byte : get_or t 5 0 ≡ 0
  pub few : num_at 2 t 6 ≤ 240
  pub whole : length t ≡ 8 + 256 * num_at 2 t 6
  pub records : (i : ℕ) → i < num_at 2 t 6 → RecordSaid (part (8 + 256 * i) 256 t)
  pub ascending : (i : ℕ) → i + 1 < num_at 2 t 6 → Before 16 (part (8 + 256 * i) 256 t) (part (8 + 256 * (i + 1)) 256 t)
