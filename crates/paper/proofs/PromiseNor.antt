-- Promise: "NOR: [..]", sentence by sentence, over the record of the request's IMSI and the entries of the cancel buffer.
-- Assumes nothing.
use mathlib.Core.Path.{◌≡◌, ap, ◌∙◌}
use mathlib.Core.Bool.{Bool, true, false}
use mathlib.Core.List.{List}
use Prim.Native.Nat.{ℕ, ◌<◌}
use lib.Dec.{eqb}
use borrow.Author.Tests.{eqb-true}
use Rattle.paper.specs.Profile.{ulr, pur, nor}
use Rattle.paper.specs.Table.{record_of, count_of, valid, mme, sgsn}
use Rattle.paper.specs.Request.{command_code, imei_of}
use Rattle.paper.specs.Procedures.{Done, sender, is_ulr, is_pur, is_nor, nor_single_registration, code_if, with_imei, cancel_list, notified, notify, carried_out}
use Rattle.paper.specs.Outcome.{Lent}
use Rattle.paper.specs.Read.{before, after, listed_by}
use Rattle.paper.specs.Promises.{Accepted, Notifies}
use Rattle.paper.proofs.FieldLaws.{the_mme, the_sgsn}
use Rattle.paper.proofs.StoreLaws.{right_valid, long-valid}
use Rattle.paper.proofs.EntryLaws.{EachOf}
use Rattle.paper.proofs.ProcedureLaws as Laws
use Rattle.paper.proofs.ProcedureLaws.{served_count, cancelled-served}
use Rattle.paper.proofs.AcceptedLaws as AcceptedLaws
use Rattle.paper.proofs.PromiseFields.{sgsn_of_mme}
use Rattle.paper.proofs.PromiseEntries.{Readable, cancel_list-readable}
use Rattle.paper.proofs.PromiseSuccess.{success, inside}
use Rattle.paper.proofs.PromiseNodes.{kept_then, kept_same, cleared_then, cancels, stores, nor-imei, imei_from, cancel-sender, cancel_none, cancel-other, cancel-not, shown_as}
use Rattle.paper.proofs.ProcedureLaws.{imei-entries}

module _ (m : List ℕ) (ok : Laws.Accepted m) (i : ℕ) (t : List ℕ) (e : valid t ≡ true) (h : i < count_of t) (is-nor : is_nor m ≡ true) where
  abbrev notified_as : Done
  notified_as = notified (code_if (nor_single_registration m) 1) (sender m) (record_of t i) i t

  notifies_list : (with_imei (imei_of m) i notified_as).entries ≡ cancel_list sgsn (code_if (nor_single_registration m) 1) (sender m) (record_of t i)
  notifies_list = imei-entries (imei_of m) i notified_as

  notifies_readable : EachOf Readable (with_imei (imei_of m) i notified_as).entries
  notifies_readable =
      rw notifies_list (cancel_list-readable sgsn (record_of t i) (sender m) the_sgsn (long-valid i t e h) (right_valid i t e h) (code_if (nor_single_registration m) 1))

  notifies : Notifies m (record_of t i) (record_of (with_imei (imei_of m) i notified_as).table i) (with_imei (imei_of m) i notified_as).entries
  notifies =
      let r = record_of t i in
      let long = long-valid i t e h in
      let right = right_valid i t e h in
      let type = code_if (nor_single_registration m) 1 in
      let served = cancelled-served i t e h sgsn type r the_sgsn in
      let cancel = cancels i t e h sgsn_of_mme type r long right kept_same in
      let last = stores m ok i notified_as served.still_valid (served_count served h) in
      record {
        single_lists = λ q n d. notifies_list ∙ cancel-other sgsn r (sender m) the_sgsn long right type 1 (ap (λ (b : Bool). code_if b 1) q) n d;
        sender_unlisted = λ q. notifies_list ∙ cancel-sender sgsn r (sender m) the_sgsn long right type q;
        none_unlisted = λ q. notifies_list ∙ cancel_none sgsn r (sender m) the_sgsn long right type q;
        single_clears = λ q. cleared_then (cancel.clears 1 (ap (λ (b : Bool). code_if b 1) q)) (last.nodes sgsn the_sgsn);
        not_single_keeps = λ q. kept_then (cancel.keeps (ap (λ (b : Bool). code_if b 1) q)) (last.nodes sgsn the_sgsn);
        not_single_lists = λ q. notifies_list ∙ cancel-not sgsn (sender m) r type (ap (λ (b : Bool). code_if b 1) q);
        mme_kept = kept_then cancel.own_kept (last.nodes mme the_mme);
        stores_imei = imei_from cancel.imei-same (nor-imei m is-nor) last.imei;
      }

nor_carried : (m : List ℕ) (i : ℕ) (t : List ℕ) → is_nor m ≡ true
    → carried_out m i t ≡ with_imei (imei_of m) i (notified (code_if (nor_single_registration m) 1) (sender m) (record_of t i) i t)
unfolding carried_out notify
nor_carried m i t n =
    let code = eqb-true (command_code m) nor n in
    let not-ulr : is_ulr m ≡ false = ap (λ (c : ℕ). eqb c ulr) code in
    let not-pur : is_pur m ≡ false = ap (λ (c : ℕ). eqb c pur) code in
    rw (not-ulr, not-pur)

-- "NOR: [..]"
pub nor_notifies : (l : Lent) → Accepted l → is_nor l.request ≡ true → Notifies l.request (before l) (after l) (listed_by l)
nor_notifies l a n =
    let m = l.request in
    let s = success l a in
    let ok = AcceptedLaws.accepted m s.unrefused in
    shown_as l s _ (nor_carried m s.place l.table n) (notifies_readable m ok s.place l.table s.passed.table_valid (inside l s) n) (Notifies m)
    (notifies m ok s.place l.table s.passed.table_valid (inside l s) n)
