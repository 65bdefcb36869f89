-- 01's Experimental results and its section "What an accepted request does": on the record of the request's IMSI.
-- Assumes nothing.
use Rattle.std.specs.Prelude.{Bool, true, false, cond, ◌&&◌, ◌||◌, not, List, [], ◌∷◌, ◌++◌, ℕ, zero, suc, ◌+◌, ◌-◌, ◌*◌, length, get_or, replicate, leb, ltb, eqb}
use Rattle.std.proofs.Math.Option.{Option, none, some}
use Rattle.wire.specs.Number.{num_at}
use Rattle.wire.specs.Put.{part}
use Rattle.wire.specs.Stretch.{same}
use Rattle.paper.specs.Avp.{bit}
use Rattle.paper.specs.Reader.{Placed, or_else}
use Rattle.paper.specs.Layout.{subscription_at, restriction_at, plmn_count_at, plmns_at, plmn_size, most_name, most_digits, entry_size}
use Rattle.paper.specs.Profile.{ulr, pur, nor, user_name, origin_host, rat_type, ulr_flags, visited_plmn_id, pur_flags, nor_flags}
use Rattle.paper.specs.Fields.{filled, store_node, store_purged, store_imei}
use Rattle.paper.specs.Table.{Slot, mme, sgsn, name_of, record_of}
use Rattle.paper.specs.Request.{value_of, number_of, is_there, find, avps_of, command_code, imei_of}

-- "Names are equal when their bytes are."
unfoldable pub same_name : List ℕ → List ℕ → Bool
same_name a b = same a b

-- the sender of a request
abbrev pub sender : List ℕ → List ℕ
sender m = value_of origin_host m

-- the IMSI of a request, "as stored"
unfoldable pub imsi_field : List ℕ → List ℕ
imsi_field m = filled most_digits (value_of user_name m)

-- ---- the bits of the flag words, clauses 7.3.7, 7.3.49, 7.3.149

abbrev pub single_registration : List ℕ → Bool
single_registration m = bit 0 (number_of ulr_flags m)

-- "S6a/S6d-Indicator (set means S6a)"
abbrev pub on_s6a : List ℕ → Bool
on_s6a m = bit 1 (number_of ulr_flags m)

abbrev pub skip_subscriber_data : List ℕ → Bool
skip_subscriber_data m = bit 2 (number_of ulr_flags m)

abbrev pub initial_attach : List ℕ → Bool
initial_attach m = bit 5 (number_of ulr_flags m)

abbrev pub nor_single_registration : List ℕ → Bool
nor_single_registration m = bit 0 (number_of nor_flags m)

-- ---- Experimental-Result, "first that applies"

abbrev pub is_ulr : List ℕ → Bool
is_ulr m = eqb (command_code m) ulr

abbrev pub is_pur : List ℕ → Bool
is_pur m = eqb (command_code m) pur

abbrev pub is_nor : List ℕ → Bool
is_nor m = eqb (command_code m) nor

abbrev pub code_if : Bool → ℕ → Option ℕ
code_if applies code = cond applies (some code) none

abbrev pub has_eps : List ℕ → Bool
has_eps r = bit 0 (get_or r subscription_at 0)

abbrev pub has_gprs : List ℕ → Bool
has_gprs r = bit 1 (get_or r subscription_at 0)

-- "5420 (ULR) S6a without EPS subscription, or S6d with neither"
unfoldable pub unsubscribed : Bool → List ℕ → Bool
unsubscribed s6a r = cond s6a (not (has_eps r)) (not (has_eps r) && not (has_gprs r))

-- "RAT-Type to Access-Restriction-Data bit: 1000→0, 1001→1, 1002→2, 1003→3, 1004→4, 1005→4."
unfoldable pub rat_bits : List ℕ
rat_bits = 0 ∷ 1 ∷ 2 ∷ 3 ∷ 4 ∷ 4 ∷ []

abbrev pub restriction_of : List ℕ → ℕ
restriction_of r = num_at 4 r restriction_at

-- "Bit set: refused. Any other RAT-Type: refused."
unfoldable pub rat_refused : ℕ → ℕ → Bool
rat_refused rat restriction =
    cond (leb 1000 rat && ltb (rat - 1000) (length rat_bits)) (bit (get_or rat_bits (rat - 1000) 0) restriction) true

-- one of the first `n` PLMNs of the record is this one
unfoldable pub has_plmn : List ℕ → List ℕ → ℕ → Bool
has_plmn plmn r zero = false
has_plmn plmn r (suc n) = has_plmn plmn r n || same (part (plmns_at + plmn_size * n) plmn_size r) plmn

-- "5004 (ULR) PLMN list not empty and lacks the visited one"
unfoldable pub plmn_refused : List ℕ → List ℕ → Bool
plmn_refused plmn r = ltb 0 (get_or r plmn_count_at 0) && not (has_plmn plmn r (get_or r plmn_count_at 0))

-- "Length 0 means not registered"
abbrev pub registered : Slot → List ℕ → Bool
registered slot r = ltb 0 (get_or r slot.at 0)

-- the node is registered under the sender's name
abbrev pub is_sender : Slot → List ℕ → List ℕ → Bool
is_sender slot sent r = registered slot r && same_name (name_of slot r) sent

-- "5423 (NOR) sender is neither registered node"
unfoldable pub stranger : List ℕ → List ℕ → Bool
stranger sent r = not (is_sender mme sent r) && not (is_sender sgsn sent r)

-- of the record that was found; "5001 no such IMSI" comes before, where none was
unfoldable pub experimental : List ℕ → List ℕ → Option ℕ
experimental m r =
    or_else (code_if (is_ulr m && unsubscribed (on_s6a m) r) 5420)
    (or_else (code_if (is_ulr m && rat_refused (number_of rat_type m) (restriction_of r)) 5421)
    (or_else (code_if (is_ulr m && plmn_refused (value_of visited_plmn_id m) r) 5004)
    (code_if (is_nor m && stranger (sender m) r) 5423)))

-- ---- a node registered, cleared, purged in record `i` of the table

-- "the name becomes Origin-Host; its purge bit is cleared"
abbrev pub register : Slot → List ℕ → ℕ → List ℕ → List ℕ
register slot name i t = store_node slot.at slot.purge_bit i name t

-- "name and purge bit are cleared"
abbrev pub clear : Slot → ℕ → List ℕ → List ℕ
clear slot i t = store_node slot.at slot.purge_bit i [] t

-- "gets its purge bit"
abbrev pub purge : Slot → ℕ → List ℕ → List ℕ
purge slot i t = store_purged slot.purge_bit i t

-- ---- the list of nodes to cancel

-- "1 MME or 2 SGSN, type, name"
pub record Entry : Type 0 where
  pub node : ℕ
  pub type : ℕ
  pub name : List ℕ

-- a registered node is listed with the type; "A name equal to the sender's is never listed"
unfoldable pub listed : Slot → ℕ → List ℕ → List ℕ → List Entry
listed slot type sent r =
    cond (registered slot r && not (same_name (name_of slot r) sent)) (record { node = slot.number; type = type; name = name_of slot r } ∷ []) []

-- what a command comes to: the table after it, the list, and the purge bits that it sets
pub record Done : Type 0 where
  pub table : List ℕ
  pub entries : List Entry
  pub purges : ℕ

-- "IMEI, if there, is stored."
unfoldable pub with_imei : Option Placed → ℕ → Done → Done
with_imei none i d = d
with_imei (some p) i d = record { table = store_imei i p.avp.body d.table; entries = d.entries; purges = d.purges }

-- ---- ULR

-- "Then, with a registered SGSN: Single-Registration lists it with type 1, else Initial-Attach lists it with type 4"; "On S6d [..] Initial-Attach lists the MME
-- with type 4 and clears it; Single-Registration has no effect": the type with which the other node is cancelled, if it is
unfoldable pub other_type : Bool → Bool → Bool → Option ℕ
other_type s6a single initial = cond (s6a && single) (some 1) (cond initial (some 4) none)

-- a node of the record `r` that is cancelled: listed with the type, and "either way name and purge bit are cleared"
unfoldable pub cancelled : Slot → Option ℕ → List ℕ → ℕ → List ℕ → List ℕ
cancelled slot none r i t = t
cancelled slot (some type) r i t = cond (registered slot r) (clear slot i t) t

unfoldable pub cancel_list : Slot → Option ℕ → List ℕ → List ℕ → List Entry
cancel_list slot none sent r = []
cancel_list slot (some type) sent r = listed slot type sent r

-- The sender `sent` is of the node `own`; a displaced one is listed with `own_type`, the other node cancelled with `type`. `r` is the record `i` as it was.
unfoldable pub updated : Slot → Slot → ℕ → Option ℕ → List ℕ → List ℕ → ℕ → List ℕ → Done
updated own other own_type type sent r i t =
    record {
      table = cancelled other type r i (register own sent i t);
      entries = listed own own_type sent r ++ cancel_list other type sent r;
      purges = 0;
    }

-- "ULR on S6a: [..] Cancellation-Type 0"; "On S6d, for the SGSN: type 1"
abbrev pub located : Bool → Option ℕ → List ℕ → List ℕ → ℕ → List ℕ → Done
located s6a type sent r i t = cond s6a (updated mme sgsn 0 type sent r i t) (updated sgsn mme 1 type sent r i t)

unfoldable pub update_location : List ℕ → List ℕ → ℕ → List ℕ → Done
update_location m r i t =
    with_imei (imei_of m) i (located (on_s6a m) (other_type (on_s6a m) (single_registration m) (initial_attach m)) (sender m) r i t)

-- ---- PUR

-- "without PUR-Flags each registered name equal to Origin-Host gets its purge bit; with PUR-Flags only where its bit is set too"
unfoldable pub purges : Slot → List ℕ → Bool → ℕ → List ℕ → Bool
purges slot sent there flags r = is_sender slot sent r && (not there || bit slot.purge_bit flags)

abbrev pub purged_if : Bool → Slot → ℕ → List ℕ → List ℕ
purged_if b slot i t = cond b (purge slot i t) t

-- "PUA-Flags (bit 0 MME, bit 1 SGSN: the purge bits this request sets, set before or not)"; `in_mme` and `in_sgsn` say which
abbrev pub purged : Bool → Bool → ℕ → List ℕ → Done
purged in_mme in_sgsn i t =
    record {
      table = purged_if in_sgsn sgsn i (purged_if in_mme mme i t);
      entries = [];
      purges = cond in_mme 1 0 + cond in_sgsn 2 0;
    }

unfoldable pub purge_ue : List ℕ → List ℕ → ℕ → List ℕ → Done
purge_ue m r i t =
    purged (purges mme (sender m) (is_there (find pur_flags (avps_of m))) (number_of pur_flags m) r)
    (purges sgsn (sender m) (is_there (find pur_flags (avps_of m))) (number_of pur_flags m) r) i t

-- ---- NOR

-- "Single-Registration lists a registered SGSN with type 1 (unless it is the sender) and clears it."
abbrev pub notified : Option ℕ → List ℕ → List ℕ → ℕ → List ℕ → Done
notified type sent r i t =
    record {
      table = cancelled sgsn type r i t;
      entries = cancel_list sgsn type sent r;
      purges = 0;
    }

-- "IMEI stored"
unfoldable pub notify : List ℕ → List ℕ → ℕ → List ℕ → Done
notify m r i t = with_imei (imei_of m) i (notified (code_if (nor_single_registration m) 1) (sender m) r i t)

-- the command carried out on record `i` of the table
unfoldable pub carried_out : List ℕ → ℕ → List ℕ → Done
carried_out m i t =
    cond (is_ulr m) (update_location m (record_of t i) i t) (cond (is_pur m) (purge_ue m (record_of t i) i t) (notify m (record_of t i) i t))

-- ---- the cancel buffer

-- "1 MME or 2 SGSN, type, name length, zero, name zero-filled"
unfoldable pub entry_bytes : Entry → List ℕ
entry_bytes e = e.node ∷ e.type ∷ length e.name ∷ 0 ∷ (e.name ++ replicate (most_name - length e.name) 0)

-- "filled from the first"; "Unused entries are zero."
unfoldable pub cancel_bytes : ℕ → List Entry → List ℕ
cancel_bytes zero es = []
cancel_bytes (suc n) [] = replicate entry_size 0 ++ cancel_bytes n []
cancel_bytes (suc n) (e ∷ es) = entry_bytes e ++ cancel_bytes n es
