-- 01's "Worked by hand (P: proved)": each case a row of one table, with the value that the paper gives as a literal; and the closed tables and
-- requests that the rows, and the examples of the promises, are made of. Assumes nothing.
use Rattle.std.specs.Prelude.{◌≡◌, Bool, true, ◌&&◌, List, [], ◌∷◌, ◌++◌, ℕ, ◌+◌, ◌-◌, ◌*◌, length, get_or, replicate}
use Rattle.wire.specs.Number.{be}
use Rattle.wire.specs.Put.{put}
use Rattle.wire.specs.Stretch.{same}
use Rattle.paper.specs.Layout.{record_size, table_header, change_at, restriction_at, purged_at, mme_at, sgsn_at, most_name, most_digits, least_answer, cancel_size}
use Rattle.paper.specs.Avp.{length_of}
use Rattle.paper.specs.Profile.{application, ulr, pur, nor, user_name, session_id, origin_host, auth_session_state, destination_realm, origin_realm, experimental_result, rat_type, subscription_data, terminal_information, imei, ulr_flags, visited_plmn_id, pur_flags, pua_flags}
use Rattle.paper.specs.Table.{record_of, change_of}
use Rattle.paper.specs.Fields.{filled}
use Rattle.paper.specs.Request.{number_of}
use Rattle.paper.specs.Correction.{corrected}
use Rattle.paper.specs.Answer.{item, number_item, message}
use Rattle.paper.specs.Outcome.{Lent, outcome}
use Rattle.paper.specs.Read.{answer_of, codes_in, size_in}

-- ---- Visited-PLMN-Id, clause 7.3.9

-- table 7.3.9/1: MCC digits 2 and 1; MNC digit 3 and MCC digit 3; MNC digits 2 and 1.
-- "If MNC is 2 digits long, bits 5 to 8 of octet 2 are coded as 1111."
unfoldable pub plmn_of : List ℕ → List ℕ → List ℕ
plmn_of mcc mnc = (16 * get_or mcc 1 0 + get_or mcc 0 0) ∷ (16 * get_or mnc 2 15 + get_or mcc 2 0) ∷ (16 * get_or mnc 1 0 + get_or mnc 0 0) ∷ []

-- ---- a table of one record

-- the IMSI 001010, and the names a, b, c and s
abbrev pub imsi : List ℕ
imsi = 48 ∷ 48 ∷ 49 ∷ 48 ∷ 49 ∷ 48 ∷ []

abbrev pub a : List ℕ
a = 97 ∷ []

abbrev pub b : List ℕ
b = 98 ∷ []

abbrev pub c : List ℕ
c = 99 ∷ []

abbrev pub s : List ℕ
s = 115 ∷ []

-- EPS subscription, and one PLMN allowed: the bytes 00 F1 10
unfoldable pub subscriber : List ℕ
subscriber =
    filled most_digits imsi ++ (replicate 4 0 ++ (1 ∷ (replicate 7 0 ++ (1 ∷ 0 ∷ 0 ∷ 0 ∷ 0x00 ∷ 0xF1 ∷ 0x10 ∷ replicate 221 0))))

-- fields of a record with other values
abbrev pub changed : ℕ → List ℕ → List ℕ
changed n r = put change_at (be 4 n) r

abbrev pub restricted : ℕ → List ℕ → List ℕ
restricted n r = put restriction_at (be 4 n) r

abbrev pub purged : ℕ → List ℕ → List ℕ
purged n r = put purged_at (n ∷ []) r

abbrev pub with_mme : List ℕ → List ℕ → List ℕ
with_mme name r = put mme_at (filled most_name name) r

abbrev pub with_sgsn : List ℕ → List ℕ → List ℕ
with_sgsn name r = put sgsn_at (filled most_name name) r

abbrev pub table_of : List ℕ → List ℕ
table_of r = be 4 (table_header + record_size) ++ (1 ∷ 0 ∷ (be 2 1 ++ r))

-- ---- requests and corrections

-- a request with its P bit, End-to-End Identifier 9 and Hop-by-Hop Identifier 7
abbrev pub request_of : ℕ → List ℕ → List ℕ
request_of command avps = message 192 (be 3 command ++ (be 4 application ++ (be 4 7 ++ be 4 9))) avps

-- what every command requires
abbrev pub required_from : List ℕ → List ℕ
required_from sender =
    item session_id (49 ∷ []) ++ (number_item auth_session_state 1 ++ (item origin_host sender ++ (item origin_realm (120 ∷ []) ++ (item destination_realm (121 ∷ []) ++ item user_name imsi))))

-- a ULR in MCC 001, MNC 01, with more AVPs behind those that are required.
-- ULR-Flags, clause 7.3.7: bit 0 Single-Registration, bit 1 S6a, bit 2 Skip-Subscriber-Data, bit 5 Initial-Attach
abbrev pub ulr_of : List ℕ → ℕ → ℕ → List ℕ → List ℕ
ulr_of sender rat flags avps =
    request_of ulr
    (required_from sender ++ (number_item rat_type rat ++ (number_item ulr_flags flags ++ (item visited_plmn_id (plmn_of (0 ∷ 0 ∷ 1 ∷ []) (0 ∷ 1 ∷ [])) ++ avps))))

abbrev pub ulr_from : List ℕ → ℕ → ℕ → List ℕ
ulr_from sender rat flags = ulr_of sender rat flags []

abbrev pub ulr_with : List ℕ → ℕ → List ℕ → List ℕ
ulr_with sender flags avps = ulr_of sender 1004 flags avps

abbrev pub pur_from : List ℕ → List ℕ
pur_from sender = request_of pur (required_from sender)

abbrev pub pur_with : List ℕ → ℕ → List ℕ
pur_with sender flags = request_of pur (required_from sender ++ number_item pur_flags flags)

abbrev pub nor_with : List ℕ → List ℕ → List ℕ
nor_with sender avps = request_of nor (required_from sender ++ avps)

-- IMEI 00000000000000, in Terminal-Information
abbrev pub digits14 : List ℕ
digits14 = replicate 14 48

abbrev pub terminal14 : List ℕ
terminal14 = item terminal_information (item imei digits14)

-- a correction of kind 2, with this change number seen
abbrev pub correction_of : ℕ → List ℕ
correction_of seen = be 2 28 ++ (1 ∷ 2 ∷ (filled most_digits imsi ++ (be 4 seen ++ be 4 1)))

-- the request over the table of this record; own host h, own realm r, and buffers whose bytes are all 255
abbrev pub ask : List ℕ → List ℕ → Lent
ask r m =
    record { table = table_of r; request = m; host = 104 ∷ []; realm = 114 ∷ []; answer = replicate least_answer 255; cancel = replicate cancel_size 255 }

-- ---- the table of cases

-- what the definitions come to, and what the paper says
pub record Row : Type 0 where
  pub comes : List ℕ
  pub says : List ℕ

abbrev pub row : List ℕ → List ℕ → Row
row comes says = record { comes = comes; says = says }

-- the codes of the answer: Result-Code and Experimental-Result-Code
abbrev pub codes : Lent → List ℕ
codes l = codes_in (answer_of l)

-- the codes, and the bytes of the cancel buffer
abbrev pub codes_and_list : Lent → List ℕ
codes_and_list l = codes l ++ (outcome l).cancel

-- the cancel buffer that lists one node: number, type and a name of one byte
abbrev pub one_entry : ℕ → ℕ → ℕ → List ℕ
one_entry node type name = node ∷ type ∷ 1 ∷ 0 ∷ name ∷ replicate 131 0

-- an AVP with the length field `n`
abbrev pub avp_of_length : ℕ → List ℕ
avp_of_length n = item user_name (replicate (n - 8) 48)

abbrev pub attach : List ℕ → ℕ → ℕ → Lent
attach r rat flags = ask r (ulr_from b rat flags)

unfoldable pub worked : List Row
worked =
    -- "an AVP of length 23 takes 24 bytes"
    row (length_of (avp_of_length 23) ∷ length (avp_of_length 23) ∷ []) (23 ∷ 24 ∷ []) ∷
    -- "Subscription-Data with restrictions takes 88 bytes, without 72"
    row (size_in subscription_data (answer_of (attach (restricted 8 subscriber) 1004 2)) ∷ []) (88 ∷ []) ∷
    row (size_in subscription_data (answer_of (attach subscriber 1004 2)) ∷ []) (72 ∷ []) ∷
    -- "restriction 16, RAT 1004: refused"; "RAT 1003: passes"; "1006: refused"
    row (codes (attach (restricted 16 subscriber) 1004 2)) (0 ∷ 5421 ∷ []) ∷
    row (codes (attach (restricted 16 subscriber) 1003 2)) (2001 ∷ 0 ∷ []) ∷
    row (codes (attach (restricted 16 subscriber) 1006 2)) (0 ∷ 5421 ∷ []) ∷
    -- "MCC 001, MNC 01 is 00 F1 10"
    row (plmn_of (0 ∷ 0 ∷ 1 ∷ []) (0 ∷ 1 ∷ [])) (0x00 ∷ 0xF1 ∷ 0x10 ∷ []) ∷
    -- "Experimental-Result takes 32 bytes"
    row (size_in experimental_result (answer_of (attach (restricted 16 subscriber) 1004 2)) ∷ []) (32 ∷ []) ∷
    -- "MME a, ULR on S6a from b: one entry (1, 0, a)"; "from a: none"
    row (codes_and_list (ask (with_mme a subscriber) (ulr_from b 1004 2))) (2001 ∷ 0 ∷ one_entry 1 0 97) ∷
    row (codes_and_list (ask (with_mme a subscriber) (ulr_from a 1004 2))) (2001 ∷ 0 ∷ replicate 136 0) ∷
    -- "SGSN s, Single-Registration and Initial-Attach from b on S6a: type 1 and not 4"
    row (codes_and_list (ask (with_sgsn s subscriber) (ulr_from b 1004 (2 + 1 + 32)))) (2001 ∷ 0 ∷ one_entry 2 1 115) ∷
    -- "PUR from a stranger: success, flags 0": PUA-Flags is there, an AVP of 16 bytes, and is 0
    row (codes (ask (with_mme a subscriber) (pur_from b))) (2001 ∷ 0 ∷ []) ∷
    row (size_in pua_flags (answer_of (ask (with_mme a subscriber) (pur_from b))) ∷ number_of pua_flags (answer_of (ask (with_mme a subscriber) (pur_from b))) ∷ []) (16 ∷ 0 ∷ []) ∷
    -- "change number 4,294,967,295 goes to 0": success, and the number after it
    row ((corrected (table_of (changed 4294967295 subscriber)) (correction_of 4294967295)).number ∷ change_of (record_of (corrected (table_of (changed 4294967295 subscriber)) (correction_of 4294967295)).table 0) ∷ []) (0 ∷ 0 ∷ []) ∷
    []

-- each row comes to what the paper says
unfoldable pub each_as_said : List Row → Bool
each_as_said [] = true
each_as_said (x ∷ xs) = same x.comes x.says && each_as_said xs

-- P: proved
abbrev pub AsWorked : Type 0
AsWorked = each_as_said worked ≡ true
