-- A concrete attach that succeeds and displaces a node, the same from a newer node, and with an added AVP that has M: by computation, and by the promises.
-- Assumes nothing.
use mathlib.Core.Path.{◌≡◌, refl}
use mathlib.Core.Bool.{true}
use mathlib.Core.Option.{none, some}
use mathlib.Core.List.{List, [], ◌∷◌, ◌++◌}
use Prim.Native.Nat.{ℕ}
use native.Mathlib.Omega.{arith}
use lib.ListN.{length, replicate}
use lib.Dec.{leb}
use borrow.Author.Tests.{leb-true}
use Rattle.wire.specs.Number.{be, num_at}
use Rattle.wire.specs.Put.{put}
use Rattle.wire.specs.Stretch.{same, all_in}
use Rattle.dictionary.specs.declared.Kind.TheVariants.{Four}
use Rattle.dictionary.specs.Rows.{key_of, kind_with, kind_in, rows, kind_of}
use Rattle.paper.specs.Avp.{head_size, padded, flags_of, length_of, vendor_of, framed, body_of, after, avp_of, bare_of, vendor_field, as_received, flags_for, written}
use Rattle.paper.specs.Reader.{placed, stump, read_up_to, avps, unbroken, beside, nothing, faulty, unknown, single, sized, group, ◌then◌, each, by_kind, view_avp, view}
use Rattle.paper.specs.Find.{has_key, first_of, member, first_second}
use Rattle.paper.specs.Fields.{filled, with_bit, without_bit, store_node, store_purged, store_imei}
use Rattle.paper.specs.Table.{counted, imsi_right, two_bits, plmn_count_right, plmns_right, name_right, purged_right, imei_right, rules, all_hold, record_right, record_of, count_of, imsi_number, all_below, ascends, header_right, valid, seek, lookup, name_of, store}
use Rattle.paper.specs.Profile.{commands, command_in, command_of}
use Rattle.paper.specs.Request.{avps_of, view_of, value_of, number_of, has, used_in, required_in, terminal, version_test, length_test, error_test, of_fault, fault_test, application_test, is_command, command_test, of_found, unsupported_test, earlier, repeated, repeated_test, blank, missing, first_absent, absent_test, value_test, imsi_digits, is_name, three_bytes, imei_digits, values_test, refusal}
use Rattle.paper.specs.Procedures.{same_name, imsi_field, unsubscribed, rat_bits, rat_refused, has_plmn, plmn_refused, stranger, experimental, with_imei, listed, other_type, cancelled, cancel_list, updated, update_location, purges, purge_ue, notify, carried_out, entry_bytes, cancel_bytes}
use Rattle.paper.specs.Answer.{result_item, echoed, each_of, failed_item, restriction_item, subscription_of, reply_avps, is_protocol_error, reply_flags, message, answer, base}
use Rattle.paper.specs.Outcome.{Lent, Outcome, silent, answered, refusal_reply, experimental_reply, success_items, success_reply, by_verdict, by_record, by_refusal, outcome}
use Rattle.paper.specs.Newer.{below, uses, bits_of, named_bits, named_use, seen_by, WidenedRequest, asking, unsupported_answer, unsupported_outcome, Accepted, success, with_avps}
use Rattle.paper.specs.Widened.{OneAvp, if_mandatory, done, keep, enter, add}
use Rattle.paper.proofs.Cover.{widened_refl, widened_append}
use Rattle.paper.proofs.KindLaws.{leaf-not-group, leaf-not-unknown}
use Rattle.paper.proofs.Newer.{newer_same}

-- what a request comes to, in the open
comes_to : Lent → Outcome
unfolding num_at put same all_in key_of kind_with kind_in rows kind_of head_size padded vendor_of framed body_of after avp_of bare_of vendor_field as_received flags_for written placed stump read_up_to avps unbroken beside ◌then◌ nothing faulty unknown single sized group each by_kind view_avp view has_key first_of member first_second filled with_bit without_bit store_node store_purged store_imei counted imsi_right two_bits plmn_count_right plmns_right name_right purged_right imei_right rules all_hold record_right record_of count_of imsi_number all_below ascends header_right valid seek lookup name_of store commands command_in command_of avps_of view_of value_of number_of has used_in required_in terminal version_test length_test error_test of_fault fault_test application_test is_command command_test of_found unsupported_test earlier repeated repeated_test blank missing first_absent absent_test value_test imsi_digits is_name three_bytes imei_digits values_test refusal same_name imsi_field unsubscribed rat_bits rat_refused has_plmn plmn_refused stranger experimental with_imei listed other_type cancelled cancel_list updated update_location purges purge_ue notify carried_out entry_bytes cancel_bytes result_item echoed each_of failed_item restriction_item subscription_of reply_avps is_protocol_error reply_flags message answer silent answered refusal_reply experimental_reply success_items success_reply by_verdict by_record by_refusal outcome asking unsupported_answer unsupported_outcome with_avps
comes_to l = outcome l

-- ---- the table: IMSI 001010, EPS subscription, MME "a"

imsi : List ℕ
imsi = 48 ∷ 48 ∷ 49 ∷ 48 ∷ 49 ∷ 48 ∷ []

one_record : List ℕ
one_record = (6 ∷ imsi) ++ (replicate 13 0 ++ (1 ∷ (replicate 43 0 ++ (1 ∷ 97 ∷ replicate 190 0))))

table : List ℕ
table = be 4 264 ++ (1 ∷ 0 ∷ (be 2 1 ++ one_record))

-- ---- the attach: ULR on S6a from "b", with an IMEI

-- an unknown AVP of 4 bytes, code 9999, with these flags
newcomer : ℕ → List ℕ
unfolding comes_to
newcomer flags = as_received (record { code = 9999; flags = flags; vendor = 0; body = 1 ∷ 2 ∷ 3 ∷ 4 ∷ [] })

imei : List ℕ
unfolding comes_to
imei = written 10415 1402 true (replicate 14 49)

joined : List (List ℕ) → List ℕ
joined [] = []
joined (s ∷ ss) = s ++ joined ss

-- Session-Id to RAT-Type
before : List ℕ
unfolding comes_to imsi joined
before =
    joined
    (written 0 263 true (115 ∷ []) ∷
    written 0 277 true (be 4 1) ∷
    written 0 264 true (98 ∷ []) ∷
    written 0 296 true (114 ∷ []) ∷
    written 0 283 true (114 ∷ []) ∷
    written 0 1 true imsi ∷
    written 10415 1032 true (be 4 1004) ∷
    [])

-- ULR-Flags
word : ℕ → List ℕ
unfolding comes_to
word flags = written 10415 1405 true (be 4 flags)

plmn : List ℕ
unfolding comes_to
plmn = written 10415 1407 true (0 ∷ 241 ∷ 16 ∷ [])

-- Terminal-Information: the IMEI, and more behind it
terminal_with : List ℕ → List ℕ
unfolding comes_to imei
terminal_with more = written 10415 1401 true (imei ++ more)

-- its AVPs, with these in front, this ULR-Flags, and these behind the IMEI
attach_avps : List ℕ → ℕ → List ℕ → List ℕ
unfolding before word plmn terminal_with
attach_avps front flags more = front ++ (before ++ (word flags ++ (plmn ++ terminal_with more)))

-- a request with these header flags
headed : ℕ → List ℕ → List ℕ
unfolding comes_to
headed flags s = message flags (be 3 316 ++ (be 4 16777251 ++ (be 4 1 ++ be 4 2))) s

-- R and P
attach : List ℕ
unfolding headed attach_avps
attach = headed 192 (attach_avps [] 2 [])

lent : Lent
unfolding table attach
lent = record { table = table; request = attach; host = 104 ∷ []; realm = 114 ∷ []; answer = replicate 4352 0; cancel = replicate 136 0 }

attach-accepted : (comes_to lent).verdict ≡ some (base 2001)
unfolding lent one_record
attach-accepted = refl

-- "P MME a, ULR on S6a from b: one entry (1, 0, a)"
attach_lists : (comes_to lent).cancel ≡ 1 ∷ 0 ∷ 1 ∷ 0 ∷ 97 ∷ replicate 131 0
unfolding lent one_record
attach_lists = refl

-- ---- from a newer node: T set, unknown AVPs in front and inside Terminal-Information, and bit 3 of ULR-Flags

wider : List ℕ
unfolding headed attach_avps newcomer
wider = headed 208 (attach_avps (newcomer 0) 10 (newcomer 33))

wider_same : comes_to (asking lent wider) ≡ comes_to lent
unfolding lent one_record wider
wider_same = refl

-- ---- the one inside with M

mandatory : List ℕ
unfolding headed attach_avps newcomer
mandatory = headed 208 (attach_avps (newcomer 0) 10 (newcomer 97))

mandatory-refused : comes_to (asking lent mandatory) ≡ unsupported_outcome lent (record { code = 9999; flags = 97; vendor = 0; body = 1 ∷ 2 ∷ 3 ∷ 4 ∷ [] })
unfolding lent one_record mandatory
mandatory-refused = refl

-- ---- known AVPs that a ULR does not use: Origin-State-Id in front, Software-Version inside Terminal-Information

unused : List ℕ
unfolding headed attach_avps
unused = headed 192 (attach_avps (written 0 278 true (be 4 7)) 2 (written 10415 1403 true (49 ∷ 50 ∷ [])))

unused_same : comes_to (asking lent unused) ≡ comes_to lent
unfolding lent one_record unused
unused_same = refl

-- ---- the promises apply

attach-asked : Accepted lent
unfolding lent one_record
attach-asked = success

one-by : (x : List ℕ) → leb (head_size (flags_of x)) (length_of x) ≡ true → length x ≡ padded (length_of x) → OneAvp x
one-by x l e = record { long = leb-true _ _ l; exact = e }

wider_widens : WidenedRequest attach wider none
unfolding lent wider seen_by uses below named_bits named_use bits_of if_mandatory
wider_widens =
    record {
      header = record { version = refl; request = refl; proxiable = refl; error = refl; rest = refl };
      fits = record { mended = refl; least = omega arith; most = omega arith };
      avps =
          add (newcomer 0) (one-by (newcomer 0) refl refl) refl
          (widened_append kind_of (seen_by 316) {a = before} {b = before} (widened_refl kind_of (seen_by 316) 8 0 before (record { fault = refl; unsupported = refl }))
          (keep (word 2) (word 10) (one-by (word 2) refl refl) (one-by (word 10) refl refl) (record { vendor = refl; code = refl }) (leaf-not-group Four refl) (leaf-not-unknown Four refl) refl refl
          (widened_append kind_of (seen_by 316) {a = plmn} {b = plmn} (widened_refl kind_of (seen_by 316) 8 0 plmn (record { fault = refl; unsupported = refl }))
          (enter (terminal_with []) (terminal_with (newcomer 33)) (one-by (terminal_with []) refl refl) (one-by (terminal_with (newcomer 33)) refl refl) (record { vendor = refl; code = refl }) refl
          (widened_append kind_of (seen_by 316) {a = imei} {b = imei} (widened_refl kind_of (seen_by 316) 8 0 imei (record { fault = refl; unsupported = refl })) (add (newcomer 33) (one-by (newcomer 33) refl refl) refl done)) done))));
    }

-- so that the computed equation is an instance of the first promise
wider_promised : outcome (asking lent wider) ≡ outcome lent
unfolding lent
wider_promised = newer_same lent wider attach-asked wider_widens
