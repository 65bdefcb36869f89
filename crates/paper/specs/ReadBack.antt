-- Promise: answers read back. What 01's section "The answer" says that an answer holds, said of the answer's bytes as our message reader reads them.
-- No definition of how an answer is written is mentioned. Assumes nothing.
use Rattle.std.specs.Prelude.{◌≡◌, Bool, true, false, cond, ◌&&◌, ◌||◌, not, List, [], ◌∷◌, ◌++◌, ℕ, ◌+◌, ◌-◌, ◌%◌, ◌≤◌, length, take, drop, get_or, replicate, leb, eqb}
use Rattle.std.proofs.Math.Option.{Option, none, some}
use Rattle.wire.specs.Number.{be, num_at, Bytes}
use Rattle.wire.specs.Put.{part}
use Rattle.dictionary.specs.declared.Kind.{Kind}
use Rattle.dictionary.specs.declared.Kind.TheVariants.{Four, Eight, Any, Group, Closed, Unknown}
use Rattle.dictionary.specs.Rows.{kind_of}
use Rattle.paper.specs.declared.Visit.TheVariants.{Clean}
use Rattle.paper.specs.Avp.{Avp, bit}
use Rattle.paper.specs.Reader.{Placed, Avps, whole, broken, more, avps, body_at, Faulty, or_else, told}
use Rattle.paper.specs.Find.{has_key}
use Rattle.paper.specs.Profile.{Key, key}
use Rattle.paper.specs.Request.{avps_of, view_of, find, is_there, inside, value_of, number_of, repeated}
use Rattle.paper.specs.Procedures.{Entry}
use Rattle.paper.specs.Widened.{shown_of}
use Rattle.paper.specs.ShownIn.{Standing}
use Rattle.paper.specs.Outcome.{Lent, Outcome, outcome}
use Rattle.paper.specs.Read.{before, answer_in, codes_in, listed_in, list_laid, of_nodes}
use Rattle.paper.specs.Refusals.{Said, number, result, experimental, said, required_said, user_name_of, origin_host_of, visited_plmn_id_of, imei_sent, wrong, name_said, imsi_said, imei_said, is_named}
use Rattle.paper.specs.Laid.{bare_laid}
use Rattle.paper.specs.Firsts.{IsFirst, Keyed, top_of, inside_of, Repeats, Faults, Mandatory}

-- ---- what is read in a list of AVPs

-- AVPs in order, each with its key, what it holds, and those after it
pub data Held : Type 0 where
  no_more : Held
  plain : Key → List ℕ → Held → Held  -- by its data
  showing : Key → Avp → Held → Held  -- its data is exactly one AVP
  grouped : Key → Held → Held → Held  -- by the AVPs inside it

-- "Flags of an answer's AVPs: M, and V for vendor 10415": M is 64, V is 128
unfoldable pub octet : Key → ℕ
octet k = cond (eqb k.vendor 10415) 192 64

-- the AVP of an answer with this key and this data
abbrev pub of_key : Key → List ℕ → Avp
of_key k x = record { code = k.code; flags = octet k; vendor = k.vendor; body = x }

-- What is read is these AVPs, in this order, and no other: `p` is the AVP that is read first, `rest` what is read behind it, and the data of `p` stands
-- at `body_at p`. Of the one AVP `q` that is shown code, flag octet, vendor and data are read.
pub data ReadAs : Avps → Held → Type 0 where
  ends : ReadAs whole no_more
  reads : {p : Placed} {rest : Avps} {k : Key} {x : List ℕ} {h : Held} → p.avp ≡ of_key k x → ReadAs rest h → ReadAs (more p rest) (plain k x h)
  shows : {p q : Placed} {rest : Avps} {k : Key} {x : List ℕ} {h : Held} → p.avp ≡ of_key k x → avps (body_at p) x ≡ more q whole
      → ReadAs rest h → ReadAs (more p rest) (showing k q.avp h)
  enters : {p : Placed} {rest : Avps} {k : Key} {x : List ℕ} {inner h : Held} → p.avp ≡ of_key k x → ReadAs (avps (body_at p) x) inner
      → ReadAs rest h → ReadAs (more p rest) (grouped k inner h)

-- one AVP
abbrev pub a_number : Key → ℕ → Held
a_number k n = plain k (be 4 n) no_more

abbrev pub a_text : Key → List ℕ → Held
a_text k x = plain k x no_more

abbrev pub a_group : Key → Held → Held
a_group k inner = grouped k inner no_more

-- these, and then those
infixr 20 ◌and_then◌
unfoldable pub ◌and_then◌ : Held → Held → Held
no_more and_then g = g
plain k x h and_then g = plain k x (h and_then g)
showing k a h and_then g = showing k a (h and_then g)
grouped k inner h and_then g = grouped k inner (h and_then g)

-- ---- their bytes

-- an AVP: code, flag octet, length, the vendor with V (bit 7), data, "padding zero" up to a multiple of four
unfoldable pub avp_laid : Avp → List ℕ
avp_laid a =
    be 4 a.code ++ (a.flags ∷ (be 3 (cond (bit 7 a.flags) 12 8 + length a.body) ++ (cond (bit 7 a.flags) (be 4 a.vendor) [] ++ (a.body ++ replicate ((4 - length a.body % 4) % 4) 0))))

-- AVPs one after another
unfoldable pub held_laid : Held → List ℕ
held_laid no_more = []
held_laid (plain k x h) = avp_laid (of_key k x) ++ held_laid h
held_laid (showing k a h) = avp_laid (of_key k (avp_laid a)) ++ held_laid h
held_laid (grouped k inner h) = avp_laid (of_key k (held_laid inner)) ++ held_laid h

-- ---- "AVPs in order", each part by what the request was told

-- it was told this Result-Code
abbrev pub tells : ℕ → Said → Bool
tells code (number n) = false
tells code (result c) = eqb c code
tells code (experimental c) = false

-- "Result-Code (success 2001) or Experimental-Result (Vendor-Id, Experimental-Result-Code)": 268, 297, 266, 298
unfoldable pub result_part : Said → Held
result_part (number n) = no_more
result_part (result code) = a_number (key 0 268) code
result_part (experimental code) = a_group (key 0 297) (a_number (key 0 266) 10415 and_then a_number (key 0 298) code)

-- "Session-Id (the first, if any)"
unfoldable pub first_part : Key → Option Placed → Held
first_part k none = no_more
first_part k (some p) = a_text k p.avp.body

-- "each Proxy-Info in order, its data as received"
unfoldable pub each_part : Key → Avps → Held
each_part k whole = no_more
each_part k (broken p) = no_more
each_part k (more p rest) = cond (has_key k.vendor k.code p.avp) (a_text k p.avp.body) no_more and_then each_part k rest

unfoldable pub is_faulty : Option Faulty → Bool
is_faulty none = false
is_faulty (some f) = true

-- "After 5011, 5015, 3008 and faults of the visit no Session-Id and no Proxy-Info."
unfoldable pub unechoed : List ℕ → Said → Bool
unechoed m s = tells 5011 s || (tells 5015 s || (tells 3008 s || is_faulty (view_of m).fault))

-- "Subscription-Data: Subscriber-Status 0; Access-Restriction-Data if not 0; AMBR (uplink, downlink).", of the record's bytes 24–27, 196–199, 200–203;
-- their codes, in this order: 1400, 1424, 1426, 1435, 516, 515
unfoldable pub subscription_part : List ℕ → Held
subscription_part r =
    a_group (key 10415 1400)
    (a_number (key 10415 1424) 0
    and_then cond (eqb (num_at 4 r 24) 0) no_more (a_number (key 10415 1426) (num_at 4 r 24))
    and_then a_group (key 10415 1435) (a_number (key 10415 516) (num_at 4 r 196) and_then a_number (key 10415 515) (num_at 4 r 200)))

-- the request sets the purge bit of the node whose name length is byte `at` of the record and whose bit in PUR-Flags (1635) is `k`: "without PUR-Flags each registered
-- name equal to Origin-Host [..]; with PUR-Flags only where its bit is set too"
abbrev pub sets_bit : ℕ → ℕ → List ℕ → List ℕ → Bool
sets_bit at k m r = is_named at (value_of (key 0 264) m) r && (not (is_there (find (key 10415 1635) (avps_of m))) || bit k (number_of (key 10415 1635) m))

-- "on success ULA-Flags 1, and Subscription-Data unless skipped, or PUA-Flags (bit 0 MME, bit 1 SGSN: the purge bits this request sets, set before or not)";
-- ULA-Flags 1406, PUA-Flags 1442; Skip-Subscriber-Data is bit 2 of ULR-Flags, 1405
unfoldable pub success_part : List ℕ → List ℕ → Held
success_part m r =
    cond (eqb (num_at 3 m 5) 316) (a_number (key 10415 1406) 1 and_then cond (bit 2 (number_of (key 10415 1405) m)) no_more (subscription_part r))
    (cond (eqb (num_at 3 m 5) 321) (a_number (key 10415 1442) (cond (sets_bit 64 0 m r) 1 0 + cond (sets_bit 129 1 m r) 2 0)) no_more)

-- ---- Failed-AVP

-- "for faults of the visit its code, flags, vendor and no data"
unfoldable pub head_of : Option Faulty → Option Avp
head_of none = none
head_of (some f) = some (record { code = f.shown.avp.code; flags = f.shown.avp.flags; vendor = f.shown.avp.vendor; body = [] })

-- "for 5005 the dictionary's key, M, and four zero bytes for a 4-byte type, else no data"
abbrev pub empty_of : Kind → List ℕ
empty_of Four = replicate 4 0
empty_of Eight = []
empty_of Any = []
empty_of Group = []
empty_of Closed = []
empty_of Unknown = []

-- "a required AVP absent; the first in the order below"
unfoldable pub first_lacking : List Key → Avps → Option Avp
first_lacking [] l = none
first_lacking (k ∷ ks) l = cond (is_there (find k l)) (first_lacking ks l) (some (of_key k (empty_of (kind_of k.vendor k.code))))

-- "User-Name not 6–15 digits; Origin-Host not 1–64 name bytes; Visited-PLMN-Id not 3 bytes; IMEI not 14 or 15 digits; in this order"
unfoldable pub first_wrong : List ℕ → Option Placed
first_wrong m =
    cond (wrong imsi_said (user_name_of m)) (user_name_of m)
    (cond (wrong name_said (origin_host_of m)) (origin_host_of m)
    (cond (wrong (λ x. eqb (length x) 3) (visited_plmn_id_of m)) (visited_plmn_id_of m)
    (cond (wrong imei_said (imei_sent m)) (imei_sent m) none)))

-- "Failed-AVP for Result-Codes 5001, 5004, 5005, 5009, 5014"; beside faults and absences it "holds the AVP itself, its data as received" (`shown_of`)
unfoldable pub failed_by : List ℕ → Said → Option Avp
failed_by m s =
    cond (tells 5001 s) (shown_of (view_of m).unsupported)
    (cond (tells 5004 s) (or_else (head_of (view_of m).fault) (shown_of (first_wrong m)))
    (cond (tells 5005 s) (first_lacking (required_said (num_at 3 m 5)) (avps_of m))
    (cond (tells 5009 s) (shown_of (repeated m))
    (cond (tells 5014 s) (head_of (view_of m).fault) none))))

unfoldable pub failed_part : Option Avp → Held
failed_part none = no_more
failed_part (some a) = showing (key 0 279) a no_more

-- ---- the whole

-- "AVPs in order", of the answer to the request `m` that was told `s`; `r` is the record with its IMSI as it was
unfoldable pub holds : List ℕ → List ℕ → List ℕ → List ℕ → Said → Held
holds m host realm r s =
    cond (unechoed m s) no_more (first_part (key 0 263) (find (key 0 263) (avps_of m)))  -- Session-Id
    and_then result_part s
    and_then a_number (key 0 277) 1  -- Auth-Session-State
    and_then a_text (key 0 264) host  -- Origin-Host
    and_then a_text (key 0 296) realm  -- Origin-Realm
    and_then failed_part (failed_by m s)
    and_then cond (tells 2001 s) (success_part m r) no_more
    and_then cond (unechoed m s) no_more (each_part (key 0 284) (avps_of m))  -- Proxy-Info

-- "E set for 3xxx"
abbrev pub is3xxx : Said → Bool
is3xxx (number n) = false
is3xxx (result code) = leb 3000 code && leb code 3999
is3xxx (experimental code) = false

-- the header: "Version 1; R, E, T clear but E set for 3xxx; P, command, application and both identifiers as received." P is 64, E is 32
pub record HeaderRead (m a : List ℕ) (s : Said) : Type 0 where
  pub version : get_or a 0 0 ≡ 1
  pub own_length : num_at 3 a 1 ≡ length a
  pub fours : length a % 4 ≡ 0
  pub flags : get_or a 4 0 ≡ cond (bit 6 (get_or m 4 0)) 64 0 + cond (is3xxx s) 32 0
  pub command : num_at 3 a 5 ≡ num_at 3 m 5
  pub application : num_at 4 a 8 ≡ num_at 4 m 8
  pub hop_by_hop : num_at 4 a 12 ≡ num_at 4 m 12
  pub end_to_end : num_at 4 a 16 ≡ num_at 4 m 16

abbrev pub is_shown : Option Avp → Bool
is_shown none = false
is_shown (some a) = true

-- the data of what was found
unfoldable pub data_in : Option Placed → List ℕ
data_in none = []
data_in (some p) = p.avp.body

-- Failed-AVP stands in the answer for its five Result-Codes and no other;
-- what it shows of the request `m` is read off the request's own bytes, from its place to the end of what encloses it;
-- and it is the first unknown AVP with M, the first second, the first fault: by `Firsts.antt`, which knows nothing of how they are looked for
pub record FailedRead (m : List ℕ) (s : Said) : Type 0 where
  pub there : is_shown (failed_by m s) ≡ tells 5001 s || (tells 5004 s || (tells 5005 s || (tells 5009 s || tells 5014 s)))
  pub unknown : Standing m (view_of m).unsupported
  pub first_unknown : IsFirst (λ (p : Placed). p.at) (Mandatory m) (view_of m).unsupported
  pub second : Standing m (repeated m)
  pub first_second : IsFirst (λ (p : Placed). p.at) (Repeats m) (repeated m)
  pub wrong_value : Standing m (first_wrong m)
  pub fault : (f : Faulty) → (view_of m).fault ≡ some f → head_of (view_of m).fault ≡ some (bare_laid (part f.shown.at (f.shown.end - f.shown.at) m))
  pub first_fault : IsFirst (λ (f : Faulty). f.shown.at) (λ f. Faults m f.code f.shown.at f.shown.end) (view_of m).fault

-- Result-Code and Experimental-Result-Code, 0 for the one that is not told
unfoldable pub codes_told : Said → List ℕ
codes_told (number n) = 0 ∷ 0 ∷ []
codes_told (result code) = code ∷ 0 ∷ []
codes_told (experimental code) = 0 ∷ code ∷ []

-- the cancel buffer `c`, in which the list `es` is read, byte for byte: "Every answered request writes all 136 bytes"
pub record ListRead (c : List ℕ) (es : List Entry) : Type 0 where
  pub most : length es ≤ 2
  pub nodes : of_nodes es ≡ true
  pub bytes : take 136 c ≡ list_laid es

-- the answer that the outcome `o` of what was lent left, read by our message reader
pub record ReadBack (l : Lent) (o : Outcome) : Type 0 where
  pub header : HeaderRead l.request (answer_in o) (said o)
  pub no_fault : told (view_of (answer_in o)) ≡ Clean
  pub holding : ReadAs (avps_of (answer_in o)) (holds l.request l.host l.realm (before l) (said o))
  -- byte for byte, behind the header
  pub bytes : drop 20 (answer_in o) ≡ held_laid (holds l.request l.host l.realm (before l) (said o))
  -- what is looked for in the request is the first AVP of its key at the top level
  pub first_found : (vendor code : ℕ) → IsFirst (λ (p : Placed). p.at) (Keyed (top_of l.request) vendor code) (find (key vendor code) (avps_of l.request))
  -- its data, and that as a number of four bytes, 0 where there is none
  pub value_found : (vendor code : ℕ) → value_of (key vendor code) l.request ≡ data_in (find (key vendor code) (avps_of l.request))
  pub number_found : (vendor code : ℕ) → number_of (key vendor code) l.request ≡ num_at 4 (data_in (find (key vendor code) (avps_of l.request))) 0
  pub inside_found : (p : Placed) → inside (some p) ≡ inside_of p
  pub failed : FailedRead l.request (said o)
  -- the size, the code and the number of entries that the outcome names are those read
  pub size : length (answer_in o) ≡ o.size
  pub codes : codes_in (answer_in o) ≡ codes_told (said o)
  pub listed : length (listed_in o) ≡ o.listed
  pub cancel : ListRead o.cancel (listed_in o)

-- every answer, whatever was lent: the number is 0 where there is one
abbrev pub AnswersReadBack : Type 0
AnswersReadBack = (l : Lent) → Bytes l.request → (outcome l).number ≡ 0 → ReadBack l (outcome l)
