-- 01's sizes, and the places of its section "The table", each by name and once.
-- Assumes nothing.
use Rattle.std.specs.Prelude.{ℕ}

-- ---- the table: "Eight bytes: whole length (4), version 1, one zero, record count (2). Then 256 bytes a record"

abbrev pub table_header : ℕ
table_header = 8

abbrev pub table_version : ℕ
table_version = 1

abbrev pub record_size : ℕ
record_size = 256

-- "Table at most 240 records."
abbrev pub most_records : ℕ
most_records = 240

-- ---- the record, byte by byte

abbrev pub imsi_at : ℕ
imsi_at = 0

abbrev pub imsi_size : ℕ
imsi_size = 16

abbrev pub change_at : ℕ
change_at = 16

abbrev pub subscription_at : ℕ
subscription_at = 20

abbrev pub restriction_at : ℕ
restriction_at = 24

abbrev pub plmn_count_at : ℕ
plmn_count_at = 28

abbrev pub plmns_at : ℕ
plmns_at = 32

abbrev pub plmn_size : ℕ
plmn_size = 3

abbrev pub most_plmns : ℕ
most_plmns = 8

abbrev pub purged_at : ℕ
purged_at = 56

abbrev pub mme_at : ℕ
mme_at = 64

abbrev pub sgsn_at : ℕ
sgsn_at = 129

-- "MME name length 0–64, name"
abbrev pub most_name : ℕ
most_name = 64

abbrev pub ambr_at : ℕ
ambr_at = 196

abbrev pub imei_at : ℕ
imei_at = 204

-- "IMSI: digit count 6–15"
abbrev pub least_imsi : ℕ
least_imsi = 6

-- "IMEI digit count 0, 14 or 15"
abbrev pub least_imei : ℕ
least_imei = 14

-- the longest IMSI and IMEI
abbrev pub most_digits : ℕ
most_digits = 15

-- ---- "Sizes"

-- "Request 20 to 4,096 bytes."
abbrev pub least_request : ℕ
least_request = 20

abbrev pub most_request : ℕ
most_request = 4096

-- "Answer buffer at least 4,352 bytes; no answer is longer than 4,292."
abbrev pub least_answer : ℕ
least_answer = 4352

abbrev pub longest_answer : ℕ
longest_answer = 4292

-- "Cancel buffer at least 136": "two entries of 68 bytes"
abbrev pub entry_size : ℕ
entry_size = 68

abbrev pub most_entries : ℕ
most_entries = 2

abbrev pub cancel_size : ℕ
cancel_size = 136

-- the header of a message, RFC 6733 section 3
abbrev pub message_header : ℕ
message_header = 20
