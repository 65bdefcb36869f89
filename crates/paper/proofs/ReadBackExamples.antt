-- A closed example of each kind of answer: what the promise says that it holds, computed from the bytes lent and set beside the AVPs written out.
-- Assumes nothing.
use mathlib.Core.Path.{◌≡◌, refl}
use mathlib.Core.List.{List, [], ◌∷◌, ◌++◌}
use Prim.Native.Nat.{ℕ, zero, suc}
use lib.ListN.{replicate}
use Rattle.wire.specs.Put.{put}
use Rattle.paper.specs.Avp.{Avp}
use Rattle.paper.specs.Profile.{base, tgpp, ulr, pur, user_name, proxy_info, terminal_information, imei, rat_type, ulr_flags}
use Rattle.paper.specs.Answer.{item, number_item}
use Rattle.paper.specs.Outcome.{Lent, outcome}
use Rattle.paper.specs.Read.{before}
use Rattle.paper.specs.Refusals.{required_by, avps_by, name_said, imsi_said, imei_said, wrong, said_by, said}
use Rattle.paper.specs.Worked.{imsi, a, b, subscriber, purged, restricted, with_mme, with_sgsn, request_of, required_from, ulr_from, ulr_with, pur_from, pur_with, nor_with, ask}
use Rattle.paper.specs.ReadBack.{Held, no_more, plain, showing, grouped, ◌and_then◌, result_part, first_part, each_part, is_faulty, unechoed, subscription_part, success_part, head_of, first_lacking, first_wrong, failed_by, failed_part, holds, octet}
use Rattle.paper.proofs.Everything.{everything}

-- what the answer to a request holds
unfoldable held_by : Lent → Held
unfolding everything required_by avps_by name_said imsi_said imei_said wrong said_by said ◌and_then◌ result_part first_part each_part is_faulty unechoed subscription_part success_part head_of first_lacking first_wrong failed_by failed_part holds octet
held_by l = holds l.request l.host l.realm (before l) (said (outcome l))

-- an AVP as received: code, flag octet, vendor, data
abbrev received : ℕ → ℕ → ℕ → List ℕ → Avp
received code flags vendor body = record { code = code; flags = flags; vendor = vendor; body = body }

-- what every answer holds behind Session-Id: the result, Auth-Session-State 1, own host h, own realm r
abbrev common : Held → Held
common h = plain (base 277) (0 ∷ 0 ∷ 0 ∷ 1 ∷ []) (plain (base 264) (104 ∷ []) (plain (base 296) (114 ∷ []) h))

-- Result-Codes 2001 and 5xxx, with Session-Id 1 and without
abbrev told : ℕ → ℕ → Held → Held
told hi lo h = plain (base 268) (0 ∷ 0 ∷ hi ∷ lo ∷ []) (common h)

abbrev echoing : Held → Held
echoing h = plain (base 263) (49 ∷ []) h

abbrev success : Held → Held
success h = echoing (told 7 209 h)

-- ---- success

-- ULR: restrictions 8, AMBR 0x01020304 up and 0x05060708 down
ulr-restricted : held_by (ask (put 196 (1 ∷ 2 ∷ 3 ∷ 4 ∷ 5 ∷ 6 ∷ 7 ∷ 8 ∷ []) (restricted 8 subscriber)) (ulr_from b 1004 2))
    ≡ success
    (plain (tgpp 1406) (0 ∷ 0 ∷ 0 ∷ 1 ∷ [])
    (grouped (tgpp 1400)
    (plain (tgpp 1424) (0 ∷ 0 ∷ 0 ∷ 0 ∷ [])
    (plain (tgpp 1426) (0 ∷ 0 ∷ 0 ∷ 8 ∷ [])
    (grouped (tgpp 1435) (plain (tgpp 516) (1 ∷ 2 ∷ 3 ∷ 4 ∷ []) (plain (tgpp 515) (5 ∷ 6 ∷ 7 ∷ 8 ∷ []) no_more)) no_more)))
    no_more))
unfolding held_by
ulr-restricted = refl

ulr_unrestricted : held_by (ask subscriber (ulr_from b 1004 2))
    ≡ success
    (plain (tgpp 1406) (0 ∷ 0 ∷ 0 ∷ 1 ∷ [])
    (grouped (tgpp 1400)
    (plain (tgpp 1424) (0 ∷ 0 ∷ 0 ∷ 0 ∷ [])
    (grouped (tgpp 1435) (plain (tgpp 516) (0 ∷ 0 ∷ 0 ∷ 0 ∷ []) (plain (tgpp 515) (0 ∷ 0 ∷ 0 ∷ 0 ∷ []) no_more)) no_more))
    no_more))
unfolding held_by
ulr_unrestricted = refl

-- Subscription-Data skipped, and two Proxy-Infos in order
ulr-skipped : held_by (ask subscriber (ulr_with b 6 (item proxy_info (7 ∷ []) ++ item proxy_info (8 ∷ 9 ∷ []))))
    ≡ success (plain (tgpp 1406) (0 ∷ 0 ∷ 0 ∷ 1 ∷ []) (plain (base 284) (7 ∷ []) (plain (base 284) (8 ∷ 9 ∷ []) no_more)))
unfolding held_by
ulr-skipped = refl

-- PUR: both purge bits, and the MME's alone
pur_both : held_by (ask (purged 3 (with_sgsn a (with_mme a subscriber))) (pur_from a)) ≡ success (plain (tgpp 1442) (0 ∷ 0 ∷ 0 ∷ 3 ∷ []) no_more)
unfolding held_by
pur_both = refl

pur-flags : held_by (ask (with_sgsn a (with_mme a subscriber)) (pur_with a 1)) ≡ success (plain (tgpp 1442) (0 ∷ 0 ∷ 0 ∷ 1 ∷ []) no_more)
unfolding held_by
pur-flags = refl

nor-plain : held_by (ask (with_mme a subscriber) (nor_with a (item proxy_info (7 ∷ [])))) ≡ success (plain (base 284) (7 ∷ []) no_more)
unfolding held_by
nor-plain = refl

-- ---- Experimental-Result 5421

rat_refused_lem : held_by (ask (restricted 16 subscriber) (ulr_with b 2 (item proxy_info (7 ∷ []))))
    ≡ echoing (grouped (base 297) (plain (base 266) (0 ∷ 0 ∷ 40 ∷ 175 ∷ []) (plain (base 298) (0 ∷ 0 ∷ 21 ∷ 45 ∷ []) no_more)) (common (plain (base 284) (7 ∷ []) no_more)))
unfolding held_by
rat_refused_lem = refl

-- ---- Result-Codes that echo nothing: 5011, 5015, 3008, and faults of the visit

version : held_by (ask subscriber (put 0 (2 ∷ []) (ulr_from b 1004 2))) ≡ told 19 147 no_more
unfolding held_by
version = refl

length-wrong : held_by (ask subscriber (ulr_from b 1004 2 ++ replicate 4 0)) ≡ told 19 151 no_more
unfolding held_by
length-wrong = refl

error-set : held_by (ask subscriber (put 4 (224 ∷ []) (ulr_from b 1004 2))) ≡ told 11 192 no_more
unfolding held_by
error-set = refl

-- Session-Id with length 7, its flag octet as received
fault : held_by (ask subscriber (put 24 (79 ∷ 0 ∷ 0 ∷ 7 ∷ []) (ulr_from b 1004 2))) ≡ told 19 150 (showing (base 279) (received 263 79 0 []) no_more)
unfolding held_by
fault = refl

-- a RAT-Type of one byte inside Terminal-Information is the first fault; behind it a Session-Id with length 7
first_fault : held_by (ask subscriber (ulr_with b 2 (item terminal_information (item rat_type (1 ∷ [])) ++ (0 ∷ 0 ∷ 1 ∷ 7 ∷ 64 ∷ 0 ∷ 0 ∷ 7 ∷ []))))
    ≡ told 19 150 (showing (base 279) (received 1032 192 10415 []) no_more)
unfolding held_by
first_fault = refl

-- the ninth of Terminal-Informations one in another: its head alone
nested : ℕ → List ℕ
nested zero = []
nested (suc n) = item terminal_information (nested n)

too_deep : held_by (ask subscriber (ulr_with b 2 (nested 9))) ≡ told 19 140 (showing (base 279) (received 1401 192 10415 []) no_more)
unfolding held_by nested
too_deep = refl

-- ---- Result-Codes that echo, without Failed-AVP and with it

application : held_by (ask subscriber (put 8 (0 ∷ []) (ulr_with b 2 (item proxy_info (7 ∷ []))))) ≡ echoing (told 11 191 (plain (base 284) (7 ∷ []) no_more))
unfolding held_by
application = refl

-- an unknown AVP with M and two ignored bits, inside Terminal-Information
unknown : held_by (ask subscriber (ulr_with b 2 (item terminal_information (0 ∷ 0 ∷ 16 ∷ 0 ∷ 97 ∷ 0 ∷ 0 ∷ 9 ∷ 5 ∷ 1 ∷ 1 ∷ 1 ∷ []))))
    ≡ echoing (told 19 137 (showing (base 279) (received 4096 97 0 (5 ∷ [])) no_more))
unfolding held_by
unknown = refl

-- an unknown AVP with M and no data; its code is 4096 and `last`
abbrev stranger : ℕ → List ℕ
stranger last = 0 ∷ 0 ∷ 16 ∷ last ∷ 64 ∷ 0 ∷ 0 ∷ 8 ∷ []

-- one inside Terminal-Information is shown, and not the one behind it; of one inside Proxy-Info, which is not entered, nothing is said
first_unknown : held_by (ask subscriber (ulr_with b 2 (item terminal_information (stranger 1) ++ stranger 2)))
    ≡ echoing (told 19 137 (showing (base 279) (received 4097 64 0 []) no_more))
unfolding held_by
first_unknown = refl

not_in_proxy_info : held_by (ask subscriber (ulr_with b 2 (item proxy_info (stranger 1) ++ stranger 2)))
    ≡ echoing (told 19 137 (showing (base 279) (received 4098 64 0 []) (plain (base 284) (stranger 1) no_more)))
unfolding held_by
not_in_proxy_info = refl

second : held_by (ask subscriber (ulr_with b 2 (item user_name imsi))) ≡ echoing (told 19 145 (showing (base 279) (received 1 64 0 imsi) no_more))
unfolding held_by
second = refl

-- a second IMEI, 2…2 behind 1…1, and a second User-Name, 333333 behind the IMSI: what stands first is shown, and the second of the two
abbrev two_imeis : List ℕ
two_imeis = item terminal_information (item imei (replicate 14 49) ++ item imei (replicate 14 50))

second-imei : held_by (ask subscriber (ulr_with b 2 (two_imeis ++ item user_name (replicate 6 51))))
    ≡ echoing (told 19 145 (showing (base 279) (received 1402 192 10415 (replicate 14 50)) no_more))
unfolding held_by
second-imei = refl

second-name : held_by (ask subscriber (ulr_with b 2 (item user_name (replicate 6 51) ++ two_imeis)))
    ≡ echoing (told 19 145 (showing (base 279) (received 1 64 0 (replicate 6 51)) no_more))
unfolding held_by
second-name = refl

-- RAT-Type is absent: a 4-byte type; Visited-PLMN-Id is absent
absent_four : held_by (ask subscriber (request_of ulr (required_from b))) ≡ echoing (told 19 141 (showing (base 279) (received 1032 192 10415 (0 ∷ 0 ∷ 0 ∷ 0 ∷ [])) no_more))
unfolding held_by
absent_four = refl

absent-other : held_by (ask subscriber (request_of ulr (required_from b ++ (number_item rat_type 1004 ++ number_item ulr_flags 2))))
    ≡ echoing (told 19 141 (showing (base 279) (received 1407 192 10415 []) no_more))
unfolding held_by
absent-other = refl

-- no Session-Id: none is echoed
absent_session : held_by (ask subscriber (request_of pur (item user_name imsi))) ≡ told 19 141 (showing (base 279) (received 263 64 0 []) no_more)
unfolding held_by
absent_session = refl

-- IMEI of 13 digits
wrong_value : held_by (ask subscriber (ulr_with b 2 (item terminal_information (item imei (replicate 13 48)))))
    ≡ echoing (told 19 140 (showing (base 279) (received 1402 192 10415 (replicate 13 48)) no_more))
unfolding held_by
wrong_value = refl
