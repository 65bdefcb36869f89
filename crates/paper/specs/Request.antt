-- 01's section "Refusals with an answer", up to the Result-Codes: what a request holds, and the first refusal that applies to it.
-- Assumes nothing.
use Rattle.std.specs.Prelude.{Bool, true, false, cond, ◌&&◌, ◌||◌, List, [], ◌∷◌, ◌++◌, map, ℕ, ◌%◌, length, drop, get_or, replicate, leb, ltb, eqb}
use Rattle.std.proofs.Math.Option.{Option, none, some}
use Rattle.wire.specs.Number.{num_at}
use Rattle.wire.specs.Stretch.{name_bytes, digits}
use Rattle.dictionary.specs.declared.Kind.{Kind}
use Rattle.dictionary.specs.declared.Kind.TheVariants.{Four, Eight, Any, Group, Closed, Unknown}
use Rattle.dictionary.specs.Rows.{key_of, kind_of}
use Rattle.paper.specs.Avp.{Avp, bit, flags_for}
use Rattle.paper.specs.Reader.{Placed, Avps, whole, avps, body_at, View, Faulty, view, most_groups, or_else}
use Rattle.paper.specs.Find.{first_of, body_found, first_second}
use Rattle.paper.specs.Layout.{message_header, most_name, plmn_size, least_imsi, least_imei, most_digits}
use Rattle.paper.specs.Profile.{Key, Command, application, command_of, user_name, origin_host, visited_plmn_id, terminal_information, imei}

-- ---- the header, RFC 6733 section 3; a byte past the end reads as 0

abbrev pub version_of : List ℕ → ℕ
version_of m = get_or m 0 0

abbrev pub message_length : List ℕ → ℕ
message_length m = num_at 3 m 1

abbrev pub is_request : List ℕ → Bool
is_request m = bit 7 (get_or m 4 0)

abbrev pub is_proxiable : List ℕ → Bool
is_proxiable m = bit 6 (get_or m 4 0)

abbrev pub is_error : List ℕ → Bool
is_error m = bit 5 (get_or m 4 0)

abbrev pub command_code : List ℕ → ℕ
command_code m = num_at 3 m 5

abbrev pub application_of : List ℕ → ℕ
application_of m = num_at 4 m 8

-- ---- what the AVPs hold

-- the AVPs of a message, and what the visit makes of them
unfoldable pub avps_of : List ℕ → Avps
avps_of m = avps message_header (drop message_header m)

unfoldable pub view_of : List ℕ → View
view_of m = view kind_of (λ vendor code x. x) most_groups message_header (drop message_header m)

abbrev pub find : Key → Avps → Option Placed
find key l = first_of key.vendor key.code l

-- the data of the first AVP of the key, no bytes where there is none
unfoldable pub value_of : Key → List ℕ → List ℕ
value_of key m = body_found (find key (avps_of m))

-- a 4-byte value as a number
unfoldable pub number_of : Key → List ℕ → ℕ
number_of key m = num_at 4 (value_of key m) 0

abbrev pub is_there : Option Placed → Bool
is_there none = false
is_there (some p) = true

-- the AVPs inside one that was found
abbrev pub inside : Option Placed → Avps
inside none = whole
inside (some p) = avps (body_at p) p.avp.body

unfoldable pub has : Key → List Key → Bool
has key [] = false
has key (k ∷ ks) = (eqb key.vendor k.vendor && eqb key.code k.code) || has key ks

-- "Uses" is per command: what it requires and what it uses when there
unfoldable pub used_in : Option Command → List Key
used_in none = []
used_in (some c) = c.required ++ c.optional

unfoldable pub required_in : Option Command → List Key
required_in none = []
required_in (some c) = c.required

abbrev pub used : List ℕ → List Key
used m = used_in (command_of (command_code m))

-- "IMEI directly in Terminal-Information", where the command uses that
unfoldable pub terminal : List ℕ → Avps
terminal m = cond (has terminal_information (used m)) (inside (find terminal_information (avps_of m))) whole

abbrev pub imei_of : List ℕ → Option Placed
imei_of m = find imei (terminal m)

-- ---- the refusals, "first that applies"

-- a Result-Code, the AVP that Failed-AVP shows, and whether the answer echoes Session-Id and Proxy-Info
pub record Refusal : Type 0 where
  pub code : ℕ
  pub failed : Option Avp
  pub echo : Bool

-- "After 5011, 5015, 3008 and faults of the visit no Session-Id and no Proxy-Info."
abbrev pub mute : ℕ → Option Avp → Option Refusal
mute code a = some (record { code = code; failed = a; echo = false })

abbrev pub refuse : ℕ → Option Avp → Option Refusal
refuse code a = some (record { code = code; failed = a; echo = true })

-- "5011 version not 1"
unfoldable pub version_test : List ℕ → Option Refusal
version_test m = cond (eqb (version_of m) 1) none (mute 5011 none)

-- "5015 length field not the bytes given, or no multiple of 4"
unfoldable pub length_test : List ℕ → Option Refusal
length_test m = cond (eqb (message_length m) (length m) && eqb (length m % 4) 0) none (mute 5015 none)

-- "3008 E bit set"
unfoldable pub error_test : List ℕ → Option Refusal
error_test m = cond (is_error m) (mute 3008 none) none

-- "5014 / 5004 first fault of the visit"
unfoldable pub of_fault : Option Faulty → Option Refusal
of_fault none = none
of_fault (some f) = mute f.code (some f.shown.avp)

unfoldable pub fault_test : List ℕ → Option Refusal
fault_test m = of_fault (view_of m).fault

-- "3007 application not 16777251"
unfoldable pub application_test : List ℕ → Option Refusal
application_test m = cond (eqb (application_of m) application) none (refuse 3007 none)

-- "3001 command not 316, 321, 323"
unfoldable pub is_command : Option Command → Bool
is_command none = false
is_command (some c) = true

unfoldable pub command_test : List ℕ → Option Refusal
command_test m = cond (is_command (command_of (command_code m))) none (refuse 3001 none)

-- a refusal that shows the AVP found, and none where none was
unfoldable pub of_found : ℕ → Option Placed → Option Refusal
of_found code none = none
of_found code (some p) = refuse code (some p.avp)

-- "5001 visited unknown AVP with M set; the first"
unfoldable pub unsupported_test : List ℕ → Option Refusal
unsupported_test m = of_found 5001 (view_of m).unsupported

-- "5009 second of an AVP that the command uses, Proxy-Info excepted; the first in message order"
unfoldable pub earlier : Option Placed → Option Placed → Option Placed
earlier none q = q
earlier (some p) none = some p
earlier (some p) (some q) = cond (ltb q.at p.at) (some q) (some p)

abbrev pub key_number : Key → ℕ
key_number k = key_of k.vendor k.code

unfoldable pub repeated : List ℕ → Option Placed
repeated m = earlier (first_second (map key_number (used m)) [] (avps_of m)) (first_second (key_number imei ∷ []) [] (terminal m))

unfoldable pub repeated_test : List ℕ → Option Refusal
repeated_test m = of_found 5009 (repeated m)

-- "for 5005 the dictionary's key, M, and four zero bytes for a 4-byte type, else no data"
unfoldable pub blank : Kind → List ℕ
blank Four = replicate 4 0
blank Eight = []
blank Any = []
blank Group = []
blank Closed = []
blank Unknown = []

unfoldable pub missing : Key → Avp
missing k = record { code = k.code; flags = flags_for k.vendor true; vendor = k.vendor; body = blank (kind_of k.vendor k.code) }

-- "5005 a required AVP absent; the first in the order below"
unfoldable pub first_absent : List Key → Avps → Option Refusal
first_absent [] l = none
first_absent (k ∷ ks) l = cond (is_there (find k l)) (first_absent ks l) (refuse 5005 (some (missing k)))

unfoldable pub absent_test : List ℕ → Option Refusal
absent_test m = first_absent (required_in (command_of (command_code m))) (avps_of m)

-- "5004 User-Name not 6–15 digits; Origin-Host not 1–64 name bytes; Visited-PLMN-Id not 3 bytes; IMEI not 14 or 15 digits; in this order":
-- an AVP that was found and whose data is not right
unfoldable pub value_test : (List ℕ → Bool) → Option Placed → Option Refusal
value_test right none = none
value_test right (some p) = cond (right p.avp.body) none (refuse 5004 (some p.avp))

unfoldable pub imsi_digits : List ℕ → Bool
imsi_digits x = (leb least_imsi (length x) && leb (length x) most_digits) && digits x

-- "Own host and realm 1 to 64 bytes each"; "A name byte is 0x21 to 0x7E; names hold no other"
unfoldable pub is_name : List ℕ → Bool
is_name x = (leb 1 (length x) && leb (length x) most_name) && name_bytes x

unfoldable pub three_bytes : List ℕ → Bool
three_bytes x = eqb (length x) plmn_size

unfoldable pub imei_digits : List ℕ → Bool
imei_digits x = (eqb (length x) least_imei || eqb (length x) most_digits) && digits x

abbrev pub if_used : Key → List ℕ → Option Placed
if_used k m = cond (has k (used m)) (find k (avps_of m)) none

abbrev pub first : List (Option Refusal) → Option Refusal
first [] = none
first (x ∷ xs) = or_else x (first xs)

unfoldable pub values_test : List ℕ → Option Refusal
values_test m =
    first
    (value_test imsi_digits (if_used user_name m) ∷
    value_test is_name (if_used origin_host m) ∷
    value_test three_bytes (if_used visited_plmn_id m) ∷
    value_test imei_digits (imei_of m) ∷
    [])

-- "Result-Code, first that applies", in the order of 01's table
unfoldable pub refusal : List ℕ → Option Refusal
refusal m =
    first
    (version_test m ∷
    length_test m ∷
    error_test m ∷
    fault_test m ∷
    application_test m ∷
    command_test m ∷
    unsupported_test m ∷
    repeated_test m ∷
    absent_test m ∷
    values_test m ∷
    [])
