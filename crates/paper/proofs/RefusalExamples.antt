-- A closed example of each refusal, in its case: antt computes what is said of each from the bytes lent.
-- Assumes nothing.
use mathlib.Core.Path.{◌≡◌, refl}
use mathlib.Core.List.{List, [], ◌∷◌, ◌++◌, map}
use Prim.Native.Nat.{ℕ, zero, suc}
use lib.ListN.{take, replicate}
use Rattle.wire.specs.Put.{put}
use Rattle.paper.specs.Layout.{subscription_at}
use Rattle.paper.specs.Profile.{ulr, pur, session_id, auth_session_state, origin_host, origin_realm, destination_realm, terminal_information, imei, user_name, visited_plmn_id, rat_type, ulr_flags}
use Rattle.paper.specs.Answer.{item, number_item}
use Rattle.paper.specs.Outcome.{Lent, outcome}
use Rattle.paper.specs.Refusals.{Said, number, result, experimental, said_by, said}
use Rattle.paper.specs.Worked.{imsi, a, b, s, subscriber, with_mme, with_sgsn, table_of, request_of, required_from, ulr_from, ulr_with, pur_from, nor_with, ask}
use Rattle.paper.proofs.Everything.{everything}

-- the request of the examples, and what is asked with another byte or another AVP in it
abbrev plain : List ℕ
plain = ulr_from b 1004 2

-- Terminal-Information, `n` deep in others
nested : ℕ → List ℕ
nested zero = []
nested (suc n) = item terminal_information (nested n)

abbrev asking : List ℕ → Lent
asking m = ask subscriber m

-- a PUR from b with this User-Name
abbrev pur-named : List ℕ → List ℕ
pur-named user =
    request_of pur
    (item session_id (49 ∷ []) ++ (number_item auth_session_state 1 ++ (item origin_host b ++ (item origin_realm (120 ∷ []) ++ (item destination_realm (121 ∷ []) ++ item user_name user)))))

-- a ULR whose IMEI has this many digits
abbrev with_imei_lem : ℕ → List ℕ
with_imei_lem n = ulr_with b 2 (item terminal_information (item imei (replicate n 48)))

-- eight PLMNs; that of the request is 00 F1 10
abbrev with_plmns : List ℕ → List ℕ
with_plmns plmns = put 28 (8 ∷ 0 ∷ 0 ∷ 0 ∷ plmns) subscriber

abbrev with_buffers : List ℕ → List ℕ → List ℕ → Lent
with_buffers host answer cancel = record { table = table_of subscriber; request = plain; host = host; realm = 114 ∷ []; answer = answer; cancel = cancel }

abbrev with_host : List ℕ → Lent
with_host host = with_buffers host (replicate 4352 0) (replicate 136 0)

-- what is lent, and what is said of it
record Example : Type 0 where
  says : Said
  lent : Lent

abbrev example : Said → Lent → Example
example says lent = record { says = says; lent = lent }

abbrev examples : List Example
examples =
    -- "answer or cancel buffer too short"
    example (number 3) (with_buffers (104 ∷ []) (replicate 4351 0) (replicate 136 0)) ∷
    example (number 3) (with_buffers (104 ∷ []) (replicate 4352 0) (replicate 135 0)) ∷
    -- "own host or realm: size or a byte that is no name byte"
    example (number 5) (with_host []) ∷
    example (number 5) (with_host (replicate 65 104)) ∷
    example (result 2001) (with_host (replicate 64 104)) ∷
    example (number 5) (with_host (0x20 ∷ [])) ∷
    example (number 5) (with_host (0x7F ∷ [])) ∷
    example (result 2001) (with_host (0x21 ∷ 0x7E ∷ [])) ∷
    -- "table not valid"
    example (number 4) (ask (put 57 (1 ∷ []) subscriber) plain) ∷
    -- "request under 20 or over 4,096 bytes"
    example (number 1) (asking (take 16 plain)) ∷
    -- "R bit clear"
    example (number 2) (asking (put 4 (64 ∷ []) plain)) ∷
    -- "version not 1"
    example (result 5011) (asking (put 0 (2 ∷ []) plain)) ∷
    -- "length field not the bytes given, or no multiple of 4"
    example (result 5015) (asking (plain ++ replicate 4 0)) ∷
    -- "E bit set"
    example (result 3008) (asking (put 4 (224 ∷ []) plain)) ∷
    -- "first fault of the visit: wrong length or data size"
    example (result 5014) (asking (put 27 (7 ∷ []) plain)) ∷
    -- "an entered group, its length right, inside eight others"
    example (result 5004) (asking (ulr_with b 2 (nested 9))) ∷
    -- "application not 16777251"
    example (result 3007) (asking (put 8 (0 ∷ []) plain)) ∷
    -- "command not 316, 321, 323"
    example (result 3001) (asking (put 7 (0 ∷ []) plain)) ∷
    -- "visited unknown AVP with M set"
    example (result 5001) (asking (ulr_with b 2 (item (record { vendor = 0; code = 4000000 }) []))) ∷
    -- "second of an AVP that the command uses"
    example (result 5009) (asking (ulr_with b 2 (item user_name imsi))) ∷
    -- "a required AVP absent"
    example (result 5005) (asking (request_of ulr (required_from b))) ∷
    -- "User-Name not 6–15 digits; Origin-Host not 1–64 name bytes; Visited-PLMN-Id not 3 bytes; IMEI not 14 or 15 digits"
    example (result 5004) (asking (put 88 (65 ∷ []) plain)) ∷
    example (result 5004) (asking (pur-named (take 5 imsi))) ∷
    example (result 2001) (asking (pur-named imsi)) ∷
    example (experimental 5001) (asking (pur-named (replicate 15 57))) ∷
    example (result 5004) (asking (pur-named (replicate 16 57))) ∷
    example (result 5004) (asking (ulr_from (32 ∷ []) 1004 2)) ∷
    example (result 5004) (asking (pur_from (replicate 65 98))) ∷
    example (result 2001) (asking (pur_from (replicate 64 98))) ∷
    example (result 5004) (asking (request_of ulr (required_from b ++ (number_item rat_type 1004 ++ (number_item ulr_flags 2 ++ item visited_plmn_id (0 ∷ [])))))) ∷
    example (result 5004) (asking (with_imei_lem 13)) ∷
    example (result 2001) (asking (with_imei_lem 14)) ∷
    example (result 2001) (asking (with_imei_lem 15)) ∷
    example (result 5004) (asking (with_imei_lem 16)) ∷
    -- "no such IMSI"
    example (experimental 5001) (ask (put 6 (49 ∷ []) subscriber) plain) ∷
    -- "S6a without EPS subscription, or S6d with neither"
    example (experimental 5420) (ask (put subscription_at (0 ∷ []) subscriber) plain) ∷
    example (experimental 5420) (ask (put subscription_at (2 ∷ []) subscriber) plain) ∷
    example (experimental 5420) (ask (put subscription_at (0 ∷ []) subscriber) (ulr_from b 1004 0)) ∷
    -- "RAT refused"
    example (experimental 5421) (asking (ulr_from b 1006 2)) ∷
    -- "PLMN list not empty and lacks the visited one"
    example (experimental 5004) (ask (put 32 (0x01 ∷ []) subscriber) plain) ∷
    example (experimental 5004) (ask (put 33 (0xF2 ∷ []) subscriber) plain) ∷
    example (experimental 5004) (ask (put 34 (0x11 ∷ []) subscriber) plain) ∷
    example (experimental 5004) (ask (with_plmns (replicate 24 0x22)) plain) ∷
    example (result 2001) (ask (with_plmns (0x00 ∷ 0xF1 ∷ 0x10 ∷ replicate 21 0x22)) plain) ∷
    example (result 2001) (ask (with_plmns (replicate 21 0x22 ++ (0x00 ∷ 0xF1 ∷ 0x10 ∷ []))) plain) ∷
    example (result 2001) (ask (put 28 (replicate 7 0) subscriber) plain) ∷
    -- "sender is neither registered node"
    example (experimental 5423) (ask (with_sgsn s (with_mme a subscriber)) (nor_with b [])) ∷
    example (experimental 5423) (ask (with_mme (97 ∷ 98 ∷ []) subscriber) (nor_with a [])) ∷
    example (result 2001) (ask (with_sgsn s (with_mme a subscriber)) (nor_with a [])) ∷
    example (result 2001) (ask (with_sgsn s (with_mme a subscriber)) (nor_with s [])) ∷
    -- none of these: success
    example (result 2001) (asking plain) ∷
    []

sayings : List Said
unfolding everything said_by said nested
sayings = map (λ x. said (outcome x.lent)) examples

each-refusal : sayings ≡ map (λ x. x.says) examples
unfolding sayings
each-refusal = refl
