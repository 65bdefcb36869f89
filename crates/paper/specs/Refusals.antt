-- Promise: a refusal is given in its stated case only. 01's two tables and its Experimental results as one list of cases in their order,
-- each in the words of the paper and by its own numbers and places; what is said of a request is what the first case that holds says. Assumes nothing.
use Rattle.std.specs.Prelude.{◌≡◌, ◌↔◌, Bool, true, false, cond, ◌&&◌, ◌||◌, not, List, [], ◌∷◌, ◌++◌, map, ℕ, zero, suc, ◌+◌, ◌-◌, ◌*◌, ◌%◌, length, get_or, replicate, leb, ltb, eqb}
use Rattle.std.proofs.Math.Option.{Option, none, some}
use Rattle.wire.specs.Number.{num_at}
use Rattle.wire.specs.Put.{part}
use Rattle.wire.specs.Stretch.{same, all_in}
use Rattle.dictionary.specs.Rows.{key_of}
use Rattle.paper.specs.Avp.{bit}
use Rattle.paper.specs.Reader.{Placed, Avps, whole, broken, more, Faulty}
use Rattle.paper.specs.Find.{member}
use Rattle.paper.specs.Profile.{Key, key}
use Rattle.paper.specs.Table.{valid}
use Rattle.paper.specs.Request.{avps_of, view_of, value_of, number_of, is_there, find, inside, key_number}
use Rattle.paper.specs.Answer as Answer
use Rattle.paper.specs.Answer.{Verdict, base}
use Rattle.paper.specs.Outcome.{Lent, Outcome}
use Rattle.paper.specs.Read.{before}

-- ---- what is said of a request

-- a number of "Refusals without an answer", a Result-Code, or an Experimental-Result-Code
pub data Said : Type 0 where
  number : ℕ → Said
  result : ℕ → Said
  experimental : ℕ → Said

unfoldable pub said_by : ℕ → Option Verdict → Said
said_by n none = number n
said_by n (some (base code)) = result code
said_by n (some (Answer.experimental code)) = experimental code

unfoldable pub said : Outcome → Said
said o = said_by o.number o.verdict

-- ---- which AVPs a command requires and uses

-- an AVP, and the commands that use it
pub record UsedBy : Type 0 where
  pub avp : Key
  pub by : List ℕ

abbrev used_row : ℕ → ℕ → List ℕ → UsedBy
used_row vendor code by = record { avp = key vendor code; by = by }

-- 01's two sentences AVP by AVP, where the profile has them command by command; what is required comes first, in the order of 5005
unfoldable pub required_by : List UsedBy
required_by =
    -- "Required: Session-Id, Auth-Session-State (any value), Origin-Host, Origin-Realm, Destination-Realm, User-Name"
    used_row 0 263 (316 ∷ 321 ∷ 323 ∷ []) ∷
    used_row 0 277 (316 ∷ 321 ∷ 323 ∷ []) ∷
    used_row 0 264 (316 ∷ 321 ∷ 323 ∷ []) ∷
    used_row 0 296 (316 ∷ 321 ∷ 323 ∷ []) ∷
    used_row 0 283 (316 ∷ 321 ∷ 323 ∷ []) ∷
    used_row 0 1 (316 ∷ 321 ∷ 323 ∷ []) ∷
    -- "for ULR also RAT-Type, ULR-Flags, Visited-PLMN-Id"
    used_row 10415 1032 (316 ∷ []) ∷
    used_row 10415 1405 (316 ∷ []) ∷
    used_row 10415 1407 (316 ∷ []) ∷
    []

unfoldable pub used_by : List UsedBy
used_by =
    required_by ++
    -- "Used when there: [..] PUR-Flags in PUR; NOR-Flags in NOR; Terminal-Information in ULR and NOR"
    (used_row 10415 1635 (321 ∷ []) ∷
    used_row 10415 1443 (323 ∷ []) ∷
    used_row 10415 1401 (316 ∷ 323 ∷ []) ∷
    [])

-- the AVPs of the rows that have the command
unfoldable pub avps_by : List UsedBy → ℕ → List Key
avps_by [] command = []
avps_by (u ∷ us) command = cond (member command u.by) (u.avp ∷ avps_by us command) (avps_by us command)

abbrev pub required_said : ℕ → List Key
required_said command = avps_by required_by command

abbrev pub used_said : ℕ → List Key
used_said command = avps_by used_by command

-- ---- what is looked at of a request

-- the first AVP of the key at the top level, where the command is one of these
abbrev pub first_in : List ℕ → ℕ → ℕ → List ℕ → Option Placed
first_in by vendor code m = cond (member (num_at 3 m 5) by) (find (key vendor code) (avps_of m)) none

abbrev pub user_name_of : List ℕ → Option Placed
user_name_of m = first_in (316 ∷ 321 ∷ 323 ∷ []) 0 1 m

abbrev pub origin_host_of : List ℕ → Option Placed
origin_host_of m = first_in (316 ∷ 321 ∷ 323 ∷ []) 0 264 m

abbrev pub visited_plmn_id_of : List ℕ → Option Placed
visited_plmn_id_of m = first_in (316 ∷ []) 10415 1407 m

-- "Terminal-Information in ULR and NOR, and its IMEI": "directly in Terminal-Information"
abbrev pub in_terminal : List ℕ → Avps
in_terminal m = inside (first_in (316 ∷ 323 ∷ []) 10415 1401 m)

abbrev pub imei_sent : List ℕ → Option Placed
imei_sent m = find (key 10415 1402) (in_terminal m)

-- the IMSI of a request as a table has it: "digit count 6–15, ASCII digits, then zeros", 16 bytes
unfoldable pub imsi_stored : List ℕ → List ℕ
imsi_stored x = length x ∷ (x ++ replicate (15 - length x) 0)

abbrev pub imsi_sent : List ℕ → List ℕ
imsi_sent m = imsi_stored (value_of (key 0 1) m)

-- ---- the tests of the cases

-- the first fault of the visit is of this code
unfoldable pub fault_of : ℕ → Option Faulty → Bool
fault_of code none = false
fault_of code (some f) = eqb f.code code

-- how many AVPs of a list have the key
unfoldable pub times : ℕ → Avps → ℕ
times key whole = 0
times key (broken p) = 0
times key (more p rest) = cond (eqb (key_of p.avp.vendor p.avp.code) key) 1 0 + times key rest

-- one of the keys stands twice
unfoldable pub twice : List ℕ → Avps → Bool
twice [] l = false
twice (k ∷ ks) l = leb 2 (times k l) || twice ks l

-- one of the keys is absent
unfoldable pub lacks : List Key → Avps → Bool
lacks [] l = false
lacks (k ∷ ks) l = not (is_there (find k l)) || lacks ks l

-- the AVP is there, and its data is not right
unfoldable pub wrong : (List ℕ → Bool) → Option Placed → Bool
wrong right none = false
wrong right (some p) = not (right p.avp.body)

-- "Own host and realm 1 to 64 bytes each"; "A name byte is 0x21 to 0x7E; names hold no other."
unfoldable pub name_said : List ℕ → Bool
name_said x = (leb 1 (length x) && leb (length x) 64) && all_in 0x21 0x7E x

-- "6–15 digits"
unfoldable pub imsi_said : List ℕ → Bool
imsi_said x = (leb 6 (length x) && leb (length x) 15) && all_in 48 57 x

-- "14 or 15 digits"
unfoldable pub imei_said : List ℕ → Bool
imei_said x = (eqb (length x) 14 || eqb (length x) 15) && all_in 48 57 x

-- "RAT-Type to Access-Restriction-Data bit: 1000→0, 1001→1, 1002→2, 1003→3, 1004→4, 1005→4. Bit set: refused. Any other RAT-Type: refused."
unfoldable pub rat_passes : ℕ → ℕ → Bool
rat_passes rat restriction =
    (eqb rat 1000 && not (bit 0 restriction)) || ((eqb rat 1001 && not (bit 1 restriction)) || ((eqb rat 1002 && not (bit 2 restriction)) || ((eqb rat 1003 && not (bit 3 restriction)) || ((eqb rat 1004 && not (bit 4 restriction)) || (eqb rat 1005 && not (bit 4 restriction))))))

-- one of the numbers below `n` passes
unfoldable pub some_below : (ℕ → Bool) → ℕ → Bool
some_below f zero = false
some_below f (suc n) = some_below f n || f n

-- "record count (2). Then 256 bytes a record", the IMSI in its bytes 0–15: one of the counted records has this one
abbrev pub lists_imsi : List ℕ → List ℕ → Bool
lists_imsi t imsi = some_below (λ i. same (part (8 + 256 * i) 16 t) imsi) (num_at 2 t 6)

-- "28: count 0–8 of PLMNs; 32–55 hold them, 3 bytes each": one of the counted ones is this one
abbrev pub lists_plmn : List ℕ → List ℕ → Bool
lists_plmn r plmn = some_below (λ k. same (part (32 + 3 * k) 3 r) plmn) (get_or r 28 0)

-- "name length 0–64, name", the length in byte `at`: the node is registered under this name; "Length 0 means not registered"
abbrev pub is_named : ℕ → List ℕ → List ℕ → Bool
is_named at name r = ltb 0 (get_or r at 0) && same (part (at + 1) (get_or r at 0) r) name

-- ---- the cases

-- what is said where the case holds
pub record Case : Type 0 where
  pub says : Said
  pub holds : Lent → Bool

abbrev pub case : Said → (Lent → Bool) → Case
case says holds = record { says = says; holds = holds }

-- a case of the request's bytes
abbrev pub asked : Said → (List ℕ → Bool) → Case
asked says holds = record { says = says; holds = λ l. holds l.request }

-- a case of the request and the record with its IMSI
abbrev pub judged : Said → (List ℕ → List ℕ → Bool) → Case
judged says holds = record { says = says; holds = λ l. holds l.request (before l) }

-- "Refusals without an answer", "Refusals with an answer" and the Experimental results, in the order of 01
unfoldable pub refusals : List Case
refusals =
    case (number 3) (λ l. ltb (length l.answer) 4352 || ltb (length l.cancel) 136) ∷
    case (number 5) (λ l. not (name_said l.host && name_said l.realm)) ∷
    case (number 4) (λ l. not (valid l.table)) ∷
    asked (number 1) (λ m. ltb (length m) 20 || ltb 4096 (length m)) ∷
    asked (number 2) (λ m. not (bit 7 (get_or m 4 0))) ∷
    asked (result 5011) (λ m. not (eqb (get_or m 0 0) 1)) ∷
    asked (result 5015) (λ m. not (eqb (num_at 3 m 1) (length m) && eqb (length m % 4) 0)) ∷
    asked (result 3008) (λ m. bit 5 (get_or m 4 0)) ∷
    asked (result 5014) (λ m. fault_of 5014 (view_of m).fault) ∷
    asked (result 5004) (λ m. fault_of 5004 (view_of m).fault) ∷
    asked (result 3007) (λ m. not (eqb (num_at 4 m 8) 16777251)) ∷
    asked (result 3001) (λ m. not (eqb (num_at 3 m 5) 316 || (eqb (num_at 3 m 5) 321 || eqb (num_at 3 m 5) 323))) ∷
    asked (result 5001) (λ m. is_there (view_of m).unsupported) ∷
    asked (result 5009) (λ m. twice (map key_number (used_said (num_at 3 m 5))) (avps_of m) || twice (key_number (key 10415 1402) ∷ []) (in_terminal m)) ∷
    asked (result 5005) (λ m. lacks (required_said (num_at 3 m 5)) (avps_of m)) ∷
    asked (result 5004) (λ m. wrong imsi_said (user_name_of m)) ∷
    asked (result 5004) (λ m. wrong name_said (origin_host_of m)) ∷
    asked (result 5004) (λ m. wrong (λ x. eqb (length x) 3) (visited_plmn_id_of m)) ∷
    asked (result 5004) (λ m. wrong imei_said (imei_sent m)) ∷
    case (experimental 5001) (λ l. not (lists_imsi l.table (imsi_sent l.request))) ∷
    -- bit 1 of ULR-Flags: S6a; bits 0 and 1 of byte 20: EPS and GPRS subscription
    judged (experimental 5420) (λ m r. eqb (num_at 3 m 5) 316 && cond (bit 1 (number_of (key 10415 1405) m)) (not (bit 0 (get_or r 20 0))) (not (bit 0 (get_or r 20 0)) && not (bit 1 (get_or r 20 0)))) ∷
    judged (experimental 5421) (λ m r. eqb (num_at 3 m 5) 316 && not (rat_passes (number_of (key 10415 1032) m) (num_at 4 r 24))) ∷
    judged (experimental 5004) (λ m r. eqb (num_at 3 m 5) 316 && (ltb 0 (get_or r 28 0) && not (lists_plmn r (value_of (key 10415 1407) m)))) ∷
    judged (experimental 5423) (λ m r. eqb (num_at 3 m 5) 323 && (not (is_named 64 (value_of (key 0 264) m) r) && not (is_named 129 (value_of (key 0 264) m) r))) ∷
    []

-- `First l cs x`: of the cases `cs` the first that holds of what was lent says `x`; where none holds, that is success
pub data First (l : Lent) : List Case → Said → Type 0 where
  no_case_holds : First l [] (result 2001)
  first : {c : Case} {cs : List Case} → c.holds l ≡ true → First l (c ∷ cs) c.says
  later : {c : Case} {cs : List Case} {x : Said} → c.holds l ≡ false → First l cs x → First l (c ∷ cs) x

-- ---- the number that a call returns

abbrev pub is_answered : Option Verdict → Bool
is_answered none = false
is_answered (some v) = true

-- The number of the outcome `o` is 0 exactly if the request is answered, be it by a Result-Code or by an Experimental-Result; and else it is one of the
-- five of "Refusals without an answer", the one that is said.
pub record NumberSaid (o : Outcome) : Type 0 where
  pub answered : (o.number ≡ 0) ↔ (is_answered o.verdict ≡ true)
  pub unanswered : o.verdict ≡ none → eqb o.number 3 || (eqb o.number 5 || (eqb o.number 4 || (eqb o.number 1 || eqb o.number 2))) ≡ true
  pub of_result : (code : ℕ) → said o ≡ result code → o.number ≡ 0
  pub of_experimental : (code : ℕ) → said o ≡ experimental code → o.number ≡ 0
  pub of_number : (n : ℕ) → said o ≡ number n → o.number ≡ n
