-- Promise: "ULR on S6a: [..]" and "On S6d, [..]", sentence by sentence, over the record of the request's IMSI and the entries of the cancel buffer.
-- Assumes nothing.
use mathlib.Core.Path.{◌≡◌, refl, sym, ap, ◌∙◌}
use mathlib.Core.Bool.{Bool, true, false, cond, ◌||◌, false≢true}
use mathlib.Core.Option.{Option, none, some}
use mathlib.Core.List.{List, ◌++◌, append-nil}
use Prim.Native.Nat.{ℕ, ◌<◌}
use Rattle.paper.specs.Table.{record_of, count_of, valid, Slot, mme, sgsn}
use Rattle.paper.specs.Fields.{store_node}
use Rattle.paper.specs.Request.{imei_of}
use Rattle.paper.specs.Procedures.{Entry, Done, sender, is_ulr, on_s6a, single_registration, initial_attach, with_imei, listed, other_type, cancel_list, updated, update_location, carried_out}
use Rattle.paper.specs.Outcome.{Lent}
use Rattle.paper.specs.Read.{before, after, of_node, listed_by}
use Rattle.paper.specs.Promises.{Accepted, Updates, UpdatesOnS6a, UpdatesOnS6d}
use Rattle.paper.proofs.StoreLaws.{right_valid, long-valid}
use Rattle.paper.proofs.EntryLaws.{EachOf, each_append}
use Rattle.paper.proofs.ProcedureLaws as Laws
use Rattle.paper.proofs.ProcedureLaws.{served_count, node-served, cancelled-served, name_parts}
use Rattle.paper.proofs.AcceptedLaws as AcceptedLaws
use Rattle.paper.proofs.PromiseFields.{Other, sgsn_of_mme, mme_of_sgsn, own-node, other-node, node-table}
use Rattle.paper.proofs.PromiseEntries.{Readable, listed-other, listed-sender, listed_none, listed-readable, cancel_list-readable, listed-own, listed-not-other, cancel_list-own, cancel_list-not-other, of_node-append}
use Rattle.paper.proofs.PromiseSuccess.{success, inside}
use Rattle.paper.proofs.PromiseNodes.{the_other_way, kept_then, cleared_then, purged-named, cancels, stores, ulr-imei, imei_from, cancel-sender, cancel_none, cancel-other, cancel-not, shown_as}
use Rattle.paper.proofs.ProcedureLaws.{imei-entries}

-- ---- the other node

-- the type with which the other node is cancelled, where `single` has an effect
abbrev type_of : Bool → Bool → Option ℕ
type_of single initial = cond single (some 1) (cond initial (some 4) none)

single-type : (single initial : Bool) → single ≡ true → type_of single initial ≡ some 1
single-type single initial e = rw e

initial_type : (single initial : Bool) → single ≡ false → initial ≡ true → type_of single initial ≡ some 4
initial_type single initial e f = rw (e, f)

either_type : (single initial : Bool) (P : Type 0) → ((k : ℕ) → type_of single initial ≡ some k → P) → single || initial ≡ true → P
either_type true initial P f e = f 1 refl
either_type false true P f e = f 4 refl
either_type false false P f e = absurd (false≢true e)

neither_type : (single initial : Bool) → single || initial ≡ false → type_of single initial ≡ none
neither_type true initial e = absurd (false≢true (sym e))
neither_type false true e = absurd (false≢true (sym e))
neither_type false false e = refl

module _ (m : List ℕ) (ok : Laws.Accepted m) (i : ℕ) (t : List ℕ) (e : valid t ≡ true) (h : i < count_of t) {own other : Slot} (o : Other own other) (type : ℕ) (single : Bool) (is-ulr : is_ulr m ≡ true) where
  abbrev was : List ℕ
  was = record_of t i

  abbrev kind : Option ℕ
  kind = type_of single (initial_attach m)

  abbrev carried : Done
  carried = updated own other type kind (sender m) was i t

  abbrev entries : List Entry
  entries = (with_imei (imei_of m) i carried).entries

  two_lists : entries ≡ listed own type (sender m) was ++ cancel_list other kind (sender m) was
  unfolding updated
  two_lists = imei-entries (imei_of m) i carried

  own-entries : of_node own entries ≡ listed own type (sender m) was
  own-entries =
      ap (of_node own) two_lists
      ∙ of_node-append own (listed own type (sender m) was) (cancel_list other kind (sender m) was)
      ∙ rw (listed-own o type (sender m) was, cancel_list-not-other (the_other_way o) kind (sender m) was) (append-nil (listed own type (sender m) was))

  other_entries : of_node other entries ≡ cancel_list other kind (sender m) was
  other_entries =
      ap (of_node other) two_lists
      ∙ of_node-append other (listed own type (sender m) was) (cancel_list other kind (sender m) was)
      ∙ rw (listed-not-other o type (sender m) was, cancel_list-own (the_other_way o) kind (sender m) was)

  updates_readable : EachOf Readable entries
  updates_readable =
      let long = long-valid i t e h in
      let right = right_valid i t e h in
      rw two_lists
      (each_append Readable (listed own type (sender m) was) (cancel_list other kind (sender m) was) (listed-readable own was (sender m) (own-node o) long right type)
      (cancel_list-readable other was (sender m) (other-node o) long right kind))

  updates : Updates own other type single m was (record_of (with_imei (imei_of m) i carried).table i) entries
  unfolding updated
  updates =
      let long = long-valid i t e h in
      let right = right_valid i t e h in
      let sent = sender m in
      let first = node-served i t e h own sent (own-node o) ok.sender-name in
      let t₁ = store_node own.at own.purge_bit i sent t in
      let h₁ = served_count first h in
      let named = node-table i t e h o sent (name_parts sent ok.sender-name).few in
      let second = cancelled-served i t₁ first.still_valid h₁ other kind was (other-node o) in
      let cancel = cancels i t₁ first.still_valid h₁ o kind was long right named.other_kept in
      let last = stores m ok i carried second.still_valid (served_count second h₁) in
      let own-last = kept_then cancel.own_kept (last.nodes own (own-node o)) in
      record {
        displaced = λ n d. own-entries ∙ listed-other own was sent (own-node o) long right type n d;
        registers_again = λ q. own-entries ∙ listed-sender own was sent (own-node o) long right type q;
        none_displaced = λ q. own-entries ∙ listed_none own was sent (own-node o) long right type q;
        name_stored = own-last.name ∙ named.named;
        bit_cleared = own-last.purged ∙ named.unpurged;
        single_lists = λ q n d. other_entries ∙ cancel-other other was sent (other-node o) long right kind 1 (single-type single (initial_attach m) q) n d;
        initial_lists = λ q a n d. other_entries ∙ cancel-other other was sent (other-node o) long right kind 4 (initial_type single (initial_attach m) q a) n d;
        either_clears = either_type single (initial_attach m) _ (λ k q. cleared_then (cancel.clears k q) (last.nodes other (other-node o)));
        neither_clears = λ q. kept_then named.other_kept (kept_then (cancel.keeps (neither_type single (initial_attach m) q)) (last.nodes other (other-node o)));
        neither_lists = λ q. other_entries ∙ cancel-not other sent was kind (neither_type single (initial_attach m) q);
        sender_unlisted = λ q. other_entries ∙ cancel-sender other was sent (other-node o) long right kind q;
        none_unlisted = λ q. other_entries ∙ cancel_none other was sent (other-node o) long right kind q;
        purged_own = purged-named own was (own-node o) long right;
        purged_other = purged-named other was (other-node o) long right;
        order = rw (own-entries, other_entries) two_lists;
        stores_imei = imei_from (cancel.imei-same ∙ named.imei-same) (ulr-imei m is-ulr) last.imei;
      }

-- a ULR is carried out on the interface that its flags name
ulr_s6a : (m : List ℕ) (i : ℕ) (t : List ℕ) → is_ulr m ≡ true → on_s6a m ≡ true
    → carried_out m i t ≡ with_imei (imei_of m) i (updated mme sgsn 0 (type_of (single_registration m) (initial_attach m)) (sender m) (record_of t i) i t)
unfolding carried_out update_location other_type
ulr_s6a m i t u s = rw (u, s)

ulr_s6d : (m : List ℕ) (i : ℕ) (t : List ℕ) → is_ulr m ≡ true → on_s6a m ≡ false
    → carried_out m i t ≡ with_imei (imei_of m) i (updated sgsn mme 1 (type_of false (initial_attach m)) (sender m) (record_of t i) i t)
unfolding carried_out update_location other_type
ulr_s6d m i t u s = rw (u, s)

module _ (l : Lent) (a : Accepted l) where
  -- "ULR on S6a: [..]"
  pub ulr_on_s6a : is_ulr l.request ≡ true → on_s6a l.request ≡ true → UpdatesOnS6a l.request (before l) (after l) (listed_by l)
  ulr_on_s6a u v =
      let m = l.request in
      let s = success l a in
      let ok = AcceptedLaws.accepted m s.unrefused in
      shown_as l s _ (ulr_s6a m s.place l.table u v)
      (updates_readable m ok s.place l.table s.passed.table_valid (inside l s) sgsn_of_mme 0 (single_registration m) u) (UpdatesOnS6a m)
      (updates m ok s.place l.table s.passed.table_valid (inside l s) sgsn_of_mme 0 (single_registration m) u)

  -- "On S6d, for the SGSN: [..]"
  pub ulr_on_s6d : is_ulr l.request ≡ true → on_s6a l.request ≡ false → UpdatesOnS6d l.request (before l) (after l) (listed_by l)
  ulr_on_s6d u v =
      let m = l.request in
      let s = success l a in
      let ok = AcceptedLaws.accepted m s.unrefused in
      shown_as l s _ (ulr_s6d m s.place l.table u v)
      (updates_readable m ok s.place l.table s.passed.table_valid (inside l s) mme_of_sgsn 1 false u) (UpdatesOnS6d m)
      (updates m ok s.place l.table s.passed.table_valid (inside l s) mme_of_sgsn 1 false u)
