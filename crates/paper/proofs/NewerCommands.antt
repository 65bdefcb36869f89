-- Two requests that agree in header and used AVPs: the command comes to the same on every record, and every answer to the one is the answer to the other.
-- Assumes nothing.
use mathlib.Core.Path.{◌≡◌, refl, ap, ◌∙◌}
use mathlib.Core.Option.{Option, none, some}
use mathlib.Core.List.{List, [], ◌∷◌}
use Prim.Native.Nat.{ℕ}
use native.Mathlib.Omega.{arith}
use lib.Dec.{eqb}
use lib.ListN.{get_or}
use Rattle.wire.specs.Number.{num_at}
use Rattle.dictionary.specs.Rows.{key_of}
use Rattle.paper.specs.Avp.{Avp, bit}
use Rattle.paper.specs.Reader.{Placed}
use Rattle.paper.specs.Profile.{Key, ulr, pur, nor, session_id, user_name, origin_host, rat_type, visited_plmn_id, ulr_flags, nor_flags, pur_flags}
use Rattle.paper.specs.Request.{command_code, avps_of, find, value_of, number_of, is_there, imei_of}
use Rattle.paper.specs.Procedures.{sender, imsi_field, single_registration, on_s6a, skip_subscriber_data, initial_attach, nor_single_registration, experimental, with_imei, Done, update_location, purges, purge_ue, notify, carried_out}
use Rattle.paper.specs.Answer.{echoed, Reply, reply_avps, reply_flags, answer}
use Rattle.paper.specs.Outcome.{success_items}
use Rattle.paper.specs.Newer.{named_bits, named_use, bits_of}
use Rattle.paper.proofs.PassesLaws.{Passes}
use Rattle.paper.proofs.CommandLaws.{Recognized, a_ulr, a_pur, a_nor}
use Rattle.paper.proofs.NewerTree.{seen_found}
use Rattle.paper.proofs.NewerFacts.{own_facts, sees_named}
use Rattle.paper.proofs.NewerReads.{data_found, seen-there, seen-body, found_kept, whole_kept}
use Rattle.paper.proofs.NewerRequest.{Like, command_kept, of_command, of_first, of_second, session_kept, user_kept, host_kept, imei-same, proxies_same}

echoed_kept : (key : Key) (o o' : Option Placed) → data_found o' ≡ data_found o → echoed key o' ≡ echoed key o
unfolding echoed
echoed_kept key none none e = refl
echoed_kept key none (some p) e = let z : ◌≡◌ {A = ℕ} 0 1 = cc in absurd (omega arith)
echoed_kept key (some p) none e = let z : ◌≡◌ {A = ℕ} 0 1 = cc in absurd (omega arith)
echoed_kept key (some p) (some q) e = let b : q.avp.body ≡ p.avp.body = cc in rw b

with_imei_lem : (o o' : Option Placed) (i : ℕ) (d : Done) → data_found o' ≡ data_found o → with_imei o' i d ≡ with_imei o i d
unfolding with_imei
with_imei_lem none none i d e = refl
with_imei_lem none (some p) i d e = let z : ◌≡◌ {A = ℕ} 0 1 = cc in absurd (omega arith)
with_imei_lem (some p) none i d e = let z : ◌≡◌ {A = ℕ} 0 1 = cc in absurd (omega arith)
with_imei_lem (some p) (some q) i d e = let b : q.avp.body ≡ p.avp.body = cc in rw b

module _ {m n : List ℕ} {a : Option Avp} (p : Passes m) (k : Like m n a) where
  sender_kept : sender n ≡ sender m
  unfolding value_of
  sender_kept = seen-body (λ x. x) (find origin_host (avps_of m)) (find origin_host (avps_of n)) (host_kept p k)

  pub imsi_kept : imsi_field n ≡ imsi_field m
  unfolding imsi_field value_of
  imsi_kept = rw (seen-body (λ x. x) (find user_name (avps_of m)) (find user_name (avps_of n)) (user_kept p k))

  -- ---- the answer

  pub answer_kept : (host realm : List ℕ) (y : Reply) → answer n host realm y ≡ answer m host realm y
  unfolding answer reply_flags reply_avps
  answer_kept host realm y =
      rw (k.header.proxiable, k.header.rest, echoed_kept session_id (find session_id (avps_of m)) (find session_id (avps_of n)) (session_kept p k), proxies_same p k)

  -- ---- ULR

  module _ (e : command_code m ≡ ulr) where
    ulr_again : command_code n ≡ ulr
    ulr_again = command_kept m n k.header ∙ e

    word_kept : bits_of (0 ∷ 1 ∷ 2 ∷ 5 ∷ []) (value_of ulr_flags n) ≡ bits_of (0 ∷ 1 ∷ 2 ∷ 5 ∷ []) (value_of ulr_flags m)
    unfolding value_of named_use named_bits key_of
    word_kept =
        let s = sees_named (command_code m) ulr_flags (rw e own_facts.ulr_word) in
        seen-body (named_use 10415 1405) (find ulr_flags (avps_of m)) (find ulr_flags (avps_of n))
        (found_kept (of_command p k) (of_first p k) (of_second p k) k.tree ulr_flags (named_use 10415 1405) s)

    single_kept : single_registration n ≡ single_registration m
    unfolding bits_of number_of
    single_kept = ap (λ (l : List ℕ). eqb (get_or l 0 0) 1) word_kept

    s6a_kept : on_s6a n ≡ on_s6a m
    unfolding bits_of number_of
    s6a_kept = ap (λ (l : List ℕ). eqb (get_or l 1 0) 1) word_kept

    skip_kept : skip_subscriber_data n ≡ skip_subscriber_data m
    unfolding bits_of number_of
    skip_kept = ap (λ (l : List ℕ). eqb (get_or l 2 0) 1) word_kept

    attach_kept : initial_attach n ≡ initial_attach m
    unfolding bits_of number_of
    attach_kept = ap (λ (l : List ℕ). eqb (get_or l 3 0) 1) word_kept

    rat_kept : number_of rat_type n ≡ number_of rat_type m
    unfolding number_of value_of
    rat_kept =
        ap (λ (x : List ℕ). num_at 4 x 0)
        (seen-body (λ x. x) (find rat_type (avps_of m)) (find rat_type (avps_of n)) (whole_kept (of_command p k) (of_first p k) (of_second p k) k.tree rat_type (rw e own_facts.rat)))

    plmn_kept : value_of visited_plmn_id n ≡ value_of visited_plmn_id m
    unfolding value_of
    plmn_kept =
        seen-body (λ x. x) (find visited_plmn_id (avps_of m)) (find visited_plmn_id (avps_of n))
        (whole_kept (of_command p k) (of_first p k) (of_second p k) k.tree visited_plmn_id (rw e own_facts.plmn))

    ulr-judged : (r : List ℕ) → experimental n r ≡ experimental m r
    unfolding experimental
    ulr-judged r = rw (ulr_again, e, s6a_kept, rat_kept, plmn_kept)

    ulr-done : (i : ℕ) (t : List ℕ) → carried_out n i t ≡ carried_out m i t
    unfolding carried_out update_location
    ulr-done i t = rw (ulr_again, e, s6a_kept, single_kept, attach_kept, sender_kept, with_imei_lem (imei_of m) (imei_of n) _ _ (imei-same p k))

    ulr_items : (r : List ℕ) (d : Done) → success_items n r d ≡ success_items m r d
    unfolding success_items
    ulr_items r d = rw (ulr_again, e, skip_kept)

  -- ---- PUR

  module _ (e : command_code m ≡ pur) where
    pur_again : command_code n ≡ pur
    pur_again = command_kept m n k.header ∙ e

    word_found : seen_found (named_use 10415 1635) (find pur_flags (avps_of n)) ≡ seen_found (named_use 10415 1635) (find pur_flags (avps_of m))
    word_found =
        let s = sees_named (command_code m) pur_flags (rw e own_facts.pur_word) in
        found_kept (of_command p k) (of_first p k) (of_second p k) k.tree pur_flags (named_use 10415 1635) s

    word_there : is_there (find pur_flags (avps_of n)) ≡ is_there (find pur_flags (avps_of m))
    word_there = seen-there (named_use 10415 1635) (find pur_flags (avps_of m)) (find pur_flags (avps_of n)) word_found

    purge_word : bits_of (0 ∷ 1 ∷ []) (value_of pur_flags n) ≡ bits_of (0 ∷ 1 ∷ []) (value_of pur_flags m)
    unfolding value_of named_use named_bits key_of
    purge_word = seen-body (named_use 10415 1635) (find pur_flags (avps_of m)) (find pur_flags (avps_of n)) word_found

    mme-bit : bit 0 (number_of pur_flags n) ≡ bit 0 (number_of pur_flags m)
    unfolding bits_of number_of
    mme-bit = ap (λ (l : List ℕ). eqb (get_or l 0 0) 1) purge_word

    sgsn-bit : bit 1 (number_of pur_flags n) ≡ bit 1 (number_of pur_flags m)
    unfolding bits_of number_of
    sgsn-bit = ap (λ (l : List ℕ). eqb (get_or l 1 0) 1) purge_word

    pur-judged : (r : List ℕ) → experimental n r ≡ experimental m r
    unfolding experimental
    pur-judged r = rw (pur_again, e)

    pur-done : (i : ℕ) (t : List ℕ) → carried_out n i t ≡ carried_out m i t
    unfolding carried_out purge_ue purges
    pur-done i t = rw (pur_again, e, sender_kept, word_there, mme-bit, sgsn-bit)

    pur_items : (r : List ℕ) (d : Done) → success_items n r d ≡ success_items m r d
    unfolding success_items
    pur_items r d = rw (pur_again, e)

  -- ---- NOR

  module _ (e : command_code m ≡ nor) where
    nor_again : command_code n ≡ nor
    nor_again = command_kept m n k.header ∙ e

    nor_word_lem : bits_of (0 ∷ []) (value_of nor_flags n) ≡ bits_of (0 ∷ []) (value_of nor_flags m)
    unfolding value_of named_use named_bits key_of
    nor_word_lem =
        let s = sees_named (command_code m) nor_flags (rw e own_facts.nor_word) in
        seen-body (named_use 10415 1443) (find nor_flags (avps_of m)) (find nor_flags (avps_of n))
        (found_kept (of_command p k) (of_first p k) (of_second p k) k.tree nor_flags (named_use 10415 1443) s)

    nor-single_kept : nor_single_registration n ≡ nor_single_registration m
    unfolding bits_of number_of
    nor-single_kept = ap (λ (l : List ℕ). eqb (get_or l 0 0) 1) nor_word_lem

    nor-judged : (r : List ℕ) → experimental n r ≡ experimental m r
    unfolding experimental
    nor-judged r = rw (nor_again, e, sender_kept)

    nor-done : (i : ℕ) (t : List ℕ) → carried_out n i t ≡ carried_out m i t
    unfolding carried_out notify
    nor-done i t = rw (nor_again, e, nor-single_kept, sender_kept, with_imei_lem (imei_of m) (imei_of n) _ _ (imei-same p k))

    nor_items : (r : List ℕ) (d : Done) → success_items n r d ≡ success_items m r d
    unfolding success_items
    nor_items r d = rw (nor_again, e)

  -- ---- each command

  pub experimental_kept : (r : List ℕ) → experimental n r ≡ experimental m r
  experimental_kept r = by-command (of_command p k)
    where
      by-command : Recognized (command_code m) → experimental n r ≡ experimental m r
      by-command (a_ulr e) = ulr-judged e r
      by-command (a_pur e) = pur-judged e r
      by-command (a_nor e) = nor-judged e r

  pub done_kept : (i : ℕ) (t : List ℕ) → carried_out n i t ≡ carried_out m i t
  done_kept i t = by-command (of_command p k)
    where
      by-command : Recognized (command_code m) → carried_out n i t ≡ carried_out m i t
      by-command (a_ulr e) = ulr-done e i t
      by-command (a_pur e) = pur-done e i t
      by-command (a_nor e) = nor-done e i t

  pub items_kept : (r : List ℕ) (d : Done) → success_items n r d ≡ success_items m r d
  items_kept r d = by-command (of_command p k)
    where
      by-command : Recognized (command_code m) → success_items n r d ≡ success_items m r d
      by-command (a_ulr e) = ulr_items e r d
      by-command (a_pur e) = pur_items e r d
      by-command (a_nor e) = nor_items e r d
