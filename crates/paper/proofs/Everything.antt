-- Every definition of document 01 opened at once, for closed cases that antt computes: an example says `unfolding everything`.
-- Assumes nothing.
use Prim.Native.Nat.{ℕ}
use Rattle.wire.specs.Number.{num_at}
use Rattle.wire.specs.Put.{put}
use Rattle.wire.specs.Stretch.{same, all_in, between}
use Rattle.dictionary.specs.Rows.{kind_of, kind_in, kind_with, key_of, rows}
use Rattle.paper.specs.Avp.{head_size, padded, vendor_of, framed, body_of, after, avp_of, size_of, bare_of, as_received, vendor_field, written, flags_for}
use Rattle.paper.specs.Reader.{read_up_to, avps, placed, stump, beside, ◌then◌, nothing, faulty, unknown, single, sized, group, each, by_kind, view_avp, view, told, tell}
use Rattle.paper.specs.Find.{has_key, first_of, member, first_second}
use Rattle.paper.specs.Table.{counted, imsi_right, two_bits, plmn_count_right, plmns_right, name_right, purged_right, imei_right, rules, all_hold, record_right, record_of, count_of, imsi_number, all_below, ascends, header_right, valid, seek, lookup, name_of, store}
use Rattle.paper.specs.Fields.{filled, with_bit, without_bit, store_node, store_purged, store_imei}
use Rattle.paper.specs.Correction.{value_size, value_right, store_value, next_change, accepted, refused, on_record, corrected}
use Rattle.paper.specs.Clerks.{record_at_place, record_with}
use Rattle.paper.specs.Profile.{commands, command_in, command_of}
use Rattle.paper.specs.Request.{avps_of, view_of, value_of, number_of, has, used_in, required_in, terminal, version_test, length_test, error_test, of_fault, fault_test, application_test, is_command, command_test, of_found, unsupported_test, earlier, repeated, repeated_test, blank, missing, first_absent, absent_test, value_test, imsi_digits, is_name, three_bytes, imei_digits, values_test, refusal}
use Rattle.paper.specs.Procedures.{same_name, imsi_field, unsubscribed, rat_bits, rat_refused, has_plmn, plmn_refused, stranger, experimental, with_imei, listed, other_type, cancelled, cancel_list, updated, update_location, purges, purge_ue, notify, carried_out, entry_bytes, cancel_bytes}
use Rattle.paper.specs.Answer.{result_item, echoed, each_of, failed_item, restriction_item, subscription_of, reply_avps, is_protocol_error, reply_flags, message, answer}
use Rattle.paper.specs.Desk.{numeral, decimal, spaced, code_bytes, line_bytes, size_right, frame_right, table_turn, answer_line, answer_turn, request_turn, correction_turn, last_turn, by_frame_kind, turn, rest_size, frame_at, lines, printed, desk_prints}
use Rattle.paper.specs.Outcome.{silent, answered, refusal_reply, experimental_reply, success_items, success_reply, by_verdict, by_record, by_refusal, outcome}
use Rattle.paper.specs.Read.{entries_in, of_node, codes_in, size_found, size_in}
use Rattle.paper.specs.Worked.{plmn_of, subscriber, worked, each_as_said}

unfoldable pub everything : ℕ
unfolding num_at put same all_in between kind_of kind_in kind_with key_of rows head_size padded vendor_of framed body_of after avp_of size_of bare_of as_received vendor_field written flags_for read_up_to avps placed stump beside ◌then◌ nothing faulty unknown single sized group each by_kind view_avp view told tell has_key first_of member first_second counted imsi_right two_bits plmn_count_right plmns_right name_right purged_right imei_right rules all_hold record_right record_of count_of imsi_number all_below ascends header_right valid seek lookup name_of store filled with_bit without_bit store_node store_purged store_imei value_size value_right store_value next_change accepted refused on_record corrected record_at_place record_with commands command_in command_of avps_of view_of value_of number_of has used_in required_in terminal version_test length_test error_test of_fault fault_test application_test is_command command_test of_found unsupported_test earlier repeated repeated_test blank missing first_absent absent_test value_test imsi_digits is_name three_bytes imei_digits values_test refusal same_name imsi_field unsubscribed rat_bits rat_refused has_plmn plmn_refused stranger experimental with_imei listed other_type cancelled cancel_list updated update_location purges purge_ue notify carried_out entry_bytes cancel_bytes result_item echoed each_of failed_item restriction_item subscription_of reply_avps is_protocol_error reply_flags message answer silent answered refusal_reply experimental_reply success_items success_reply by_verdict by_record by_refusal outcome entries_in of_node codes_in size_found size_in plmn_of subscriber worked each_as_said numeral decimal spaced code_bytes line_bytes size_right frame_right table_turn answer_line answer_turn request_turn correction_turn last_turn by_frame_kind turn rest_size frame_at lines printed desk_prints
everything = 0
