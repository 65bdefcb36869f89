-- A closed example of each sentence of "What an accepted request does", and a run: antt computes each from bytes to bytes.
-- Assumes nothing.
use mathlib.Core.Path.{◌≡◌, refl}
use mathlib.Core.List.{List, [], ◌∷◌, ◌++◌, map}
use Prim.Native.Nat.{ℕ}
use lib.ListN.{get_or, replicate}
use Rattle.paper.specs.Layout.{purged_at}
use Rattle.paper.specs.Profile.{subscription_data, nor_flags, pua_flags}
use Rattle.paper.specs.Table.{mme, sgsn, name_of}
use Rattle.paper.specs.Request.{number_of}
use Rattle.paper.specs.Procedures.{Entry}
use Rattle.paper.specs.Answer.{number_item}
use Rattle.paper.specs.Outcome.{Lent}
use Rattle.paper.specs.Read.{after, imei_in, listed_by, answer_of, codes_in, size_in}
use Rattle.paper.specs.Run.{Step, asks, corrects, Came, asked, put_right, comes, left, run}
use Rattle.paper.specs.Worked.{a, b, c, s, subscriber, purged, with_mme, with_sgsn, table_of, ulr_from, ulr_with, pur_from, pur_with, nor_with, digits14, terminal14, correction_of, ask}
use Rattle.paper.proofs.Everything.{everything}

-- ---- what an accepted request does

-- the codes of the answer, the entries listed, and of the record after the call the names, byte 56 and the IMEI
pub record Seen : Type 0 where
  pub codes : List ℕ
  pub listed : List Entry
  pub mme_name : List ℕ
  pub sgsn_name : List ℕ
  pub purge_bits : ℕ
  pub imei : List ℕ

seen : Lent → Seen
unfolding everything
seen l =
    record {
      codes = codes_in (answer_of l);
      listed = listed_by l;
      mme_name = name_of mme (after l);
      sgsn_name = name_of sgsn (after l);
      purge_bits = get_or (after l) purged_at 0;
      imei = imei_in (after l);
    }

abbrev success : List Entry → List ℕ → List ℕ → ℕ → List ℕ → Seen
success listed mme_name sgsn_name purge_bits imei =
    record { codes = 2001 ∷ 0 ∷ []; listed = listed; mme_name = mme_name; sgsn_name = sgsn_name; purge_bits = purge_bits; imei = imei }

abbrev entry : ℕ → ℕ → List ℕ → Entry
entry node type name = record { node = node; type = type; name = name }

abbrev both : List ℕ
both = with_sgsn s (with_mme a subscriber)

-- "ULR on S6a: a stored MME name that differs from Origin-Host is listed with Cancellation-Type 0; the name becomes Origin-Host; its purge bit is cleared."
s6a_displaced : seen (ask (purged 1 (with_mme a subscriber)) (ulr_from b 1004 2)) ≡ success (entry 1 0 a ∷ []) b [] 0 []
unfolding seen
s6a_displaced = refl

s6a_again : seen (ask (purged 1 (with_mme a subscriber)) (ulr_from a 1004 2)) ≡ success [] a [] 0 []
unfolding seen
s6a_again = refl

s6a_first : seen (ask subscriber (ulr_from b 1004 2)) ≡ success [] b [] 0 []
unfolding seen
s6a_first = refl

-- "Single-Registration lists it with type 1, else Initial-Attach lists it with type 4; either way name and purge bit are cleared"; the own node comes first
s6a_single : seen (ask (purged 2 both) (ulr_from b 1004 3)) ≡ success (entry 1 0 a ∷ entry 2 1 s ∷ []) b [] 0 []
unfolding seen
s6a_single = refl

s6a_initial : seen (ask (purged 2 both) (ulr_from b 1004 34)) ≡ success (entry 1 0 a ∷ entry 2 4 s ∷ []) b [] 0 []
unfolding seen
s6a_initial = refl

s6a_neither : seen (ask (purged 2 both) (ulr_from b 1004 2)) ≡ success (entry 1 0 a ∷ []) b s 2 []
unfolding seen
s6a_neither = refl

-- "A name equal to the sender's is never listed, though it may be cleared."
s6a_sender_cleared : seen (ask (with_sgsn b (with_mme a subscriber)) (ulr_from b 1004 34)) ≡ success (entry 1 0 a ∷ []) b [] 0 []
unfolding seen
s6a_sender_cleared = refl

-- "On S6d, for the SGSN: type 1, then Initial-Attach lists the MME with type 4 and clears it; Single-Registration has no effect."
s6d_displaced : seen (ask (purged 3 both) (ulr_from b 1004 0)) ≡ success (entry 2 1 s ∷ []) a b 1 []
unfolding seen
s6d_displaced = refl

s6d_initial : seen (ask (purged 3 both) (ulr_from b 1004 32)) ≡ success (entry 2 1 s ∷ entry 1 4 a ∷ []) [] b 0 []
unfolding seen
s6d_initial = refl

s6d_single : seen (ask both (ulr_from b 1004 1)) ≡ success (entry 2 1 s ∷ []) a b 0 []
unfolding seen
s6d_single = refl

-- "IMEI, if there, is stored."
ulr-imei : seen (ask subscriber (ulr_with b 2 terminal14)) ≡ success [] b [] 0 digits14
unfolding seen
ulr-imei = refl

-- "Subscription-Data unless skipped"
ulr-skipped : size_in subscription_data (answer_of (ask subscriber (ulr_from b 1004 6))) ≡ 0
unfolding everything
ulr-skipped = refl

ulr-not-skipped : size_in subscription_data (answer_of (ask subscriber (ulr_from b 1004 2))) ≡ 72
unfolding everything
ulr-not-skipped = refl

-- "PUR: without PUR-Flags each registered name equal to Origin-Host gets its purge bit; with PUR-Flags only where its bit is set too."
pur_both : seen (ask (with_sgsn a (with_mme a subscriber)) (pur_from a)) ≡ success [] a a 3 []
unfolding seen
pur_both = refl

pur-one : seen (ask (with_sgsn s (with_mme a subscriber)) (pur_from s)) ≡ success [] a s 2 []
unfolding seen
pur-one = refl

pur-flags : seen (ask (with_sgsn a (with_mme a subscriber)) (pur_with a 1)) ≡ success [] a a 1 []
unfolding seen
pur-flags = refl

pur-flags-zero : seen (ask (with_sgsn a (with_mme a subscriber)) (pur_with a 0)) ≡ success [] a a 0 []
unfolding seen
pur-flags-zero = refl

-- "No match is success with no change."
pur-stranger : seen (ask (purged 1 both) (pur_from b)) ≡ success [] a s 1 []
unfolding seen
pur-stranger = refl

-- "the purge bits this request sets, set before or not"
pua_both : number_of pua_flags (answer_of (ask (purged 3 (with_sgsn a (with_mme a subscriber))) (pur_from a))) ≡ 3
unfolding everything
pua_both = refl

pua_one : number_of pua_flags (answer_of (ask (purged 3 both) (pur_from s))) ≡ 2
unfolding everything
pua_one = refl

-- "NOR: IMEI stored; Single-Registration lists a registered SGSN with type 1 (unless it is the sender) and clears it."
nor-single : seen (ask (purged 2 both) (nor_with a (number_item nor_flags 1 ++ terminal14))) ≡ success (entry 2 1 s ∷ []) a [] 0 digits14
unfolding seen
nor-single = refl

nor-sender : seen (ask (purged 2 both) (nor_with s (number_item nor_flags 1))) ≡ success [] a [] 0 []
unfolding seen
nor-sender = refl

nor-plain : seen (ask (purged 2 both) (nor_with a terminal14)) ≡ success [] a s 2 digits14
unfolding seen
nor-plain = refl

-- ---- a run: "MME a, ULR from b, then from c, lists a, then b"

abbrev asks_from : List ℕ → Step
asks_from sender = asks (record { request = ulr_from sender 1004 2; host = 104 ∷ []; realm = 114 ∷ []; answer = replicate 4352 0; cancel = replicate 136 255 })

-- the cancel buffer that a step leaves, no bytes for a correction
cancel_of : Came → List ℕ
cancel_of (asked o) = o.cancel
cancel_of (put_right x) = []

listed_in_turn : map cancel_of (run (table_of (with_mme a subscriber)) (asks_from b ∷ corrects (correction_of 0) ∷ asks_from c ∷ asks_from c ∷ []))
    ≡ (1 ∷ 0 ∷ 1 ∷ 0 ∷ 97 ∷ replicate 131 0) ∷ [] ∷ (1 ∷ 0 ∷ 1 ∷ 0 ∷ 98 ∷ replicate 131 0) ∷ replicate 136 0 ∷ []
unfolding everything cancel_of run comes left
listed_in_turn = refl
