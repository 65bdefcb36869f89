-- What an accepted request does to the table: it stays valid, one record changes, and in its nodes and its IMEI alone. What its list holds.
-- Assumes nothing.
use mathlib.Core.Path.{◌≡◌, refl, ap, ◌∙◌}
use mathlib.Core.Bool.{Bool, true, false, cond, ◌&&◌, ◌||◌}
use mathlib.Core.Option.{Option, none, some}
use mathlib.Core.List.{List, [], ◌∷◌}
use Prim.Native.Nat.{ℕ, ◌+◌, ◌≤◌, ◌<◌}
use native.Mathlib.Omega.{arith}
use lib.Dec.{leb, eqb}
use lib.ListN.{length, get_or}
use borrow.Author.Tests.{leb-true, ltb-true}
use Rattle.std.proofs.lemmas.Bool.{and_from, and_parts}
use Rattle.wire.specs.Put.{part}
use Rattle.wire.specs.Stretch.{name_bytes, digits}
use Rattle.wire.proofs.PutLaws.{put-after}
use Rattle.paper.specs.Layout.{record_size, imsi_at, imsi_size, change_at, purged_at, mme_at, sgsn_at, most_name, imei_at, least_imei, most_digits, most_entries, cancel_size}
use Rattle.paper.specs.Table.{record_right, record_at, record_of, count_of, imsi_of, valid, Slot, mme, sgsn, lookup, store}
use Rattle.paper.specs.Fields.{filled, with_bit, without_bit, purged_of, store_node, store_purged, store_imei}
use Rattle.paper.specs.Reader.{Placed}
use Rattle.paper.specs.Request.{is_name, imei_digits, imei_of}
use Rattle.paper.specs.Procedures.{Done, sender, is_ulr, is_pur, on_s6a, single_registration, initial_attach, nor_single_registration, code_if, registered, is_sender, with_imei, other_type, cancelled, updated, located, update_location, purges, purged_if, purged, purge_ue, notified, notify, carried_out, cancel_bytes}
use Rattle.paper.proofs.RecordLaws.{Range, range, cut, apart, apart_from, DifferIn, differ_put}
use Rattle.paper.proofs.FieldLaws.{Node, the_mme, the_sgsn, slot_inside, length-filled, imei-size}
use Rattle.paper.proofs.TableLaws.{Replaced, replaced_then, replaced_store, replaced_count, replaced_lookup, length-store, own-store, length_record}
use Rattle.paper.proofs.StoreLaws.{inside-valid, right_valid, long-valid, node-valid, cleared_valid, purged-valid, imei-valid}
use Rattle.paper.proofs.EntryLaws.{EachOf, Listable, cancel_list-each, updated-each, cancel_list-few, updated-few, length-cancel_bytes}

-- ---- what the tests of a request leave

pub record Named (x : List ℕ) : Type 0 where
  pub some_byte : 1 ≤ length x
  pub few : length x ≤ most_name
  pub bytes : name_bytes x ≡ true

pub name_parts : (x : List ℕ) → is_name x ≡ true → Named x
unfolding is_name
name_parts x e =
    let sizes = (and_parts (leb 1 (length x) && leb (length x) most_name) (name_bytes x) e).0 in
    record {
      some_byte = leb-true 1 (length x) (and_parts (leb 1 (length x)) (leb (length x) most_name) sizes).0;
      few = leb-true (length x) most_name (and_parts (leb 1 (length x)) (leb (length x) most_name) sizes).1;
      bytes = (and_parts (leb 1 (length x) && leb (length x) most_name) (name_bytes x) e).1;
    }

pub imei-sizes : (x : List ℕ) → imei_digits x ≡ true → eqb (length x) least_imei || eqb (length x) most_digits ≡ true
unfolding imei_digits
imei-sizes x e = (and_parts (eqb (length x) least_imei || eqb (length x) most_digits) (digits x) e).0

pub imei-bytes : (x : List ℕ) → imei_digits x ≡ true → digits x ≡ true
unfolding imei_digits
imei-bytes x e = (and_parts (eqb (length x) least_imei || eqb (length x) most_digits) (digits x) e).1

-- ---- a table with one record changed

-- the ranges of a record that a request may change: the purge bits, the two names, the IMEI
unfoldable pub request_ranges : List Range
request_ranges = range purged_at 1 ∷ range mme_at (1 + most_name) ∷ range sgsn_at (1 + most_name) ∷ range imei_at (1 + most_digits) ∷ []

-- `t'` is `t` with record `i` changed in these ranges
pub record Changed (i : ℕ) (t t' : List ℕ) : Type 0 where
  pub replaced : Replaced i (record_of t' i) t t'
  pub own : DifferIn request_ranges (record_of t i) (record_of t' i)

unchanged : (i : ℕ) (t : List ℕ) → Changed i t t
unchanged i t = record { replaced = record { same_length = refl; same-header = refl; own = refl; others = λ j ne. refl }; own = λ x a. refl }

changed_then : (i : ℕ) (t t₁ t₂ : List ℕ) → Changed i t t₁ → Changed i t₁ t₂ → Changed i t t₂
changed_then i t t₁ t₂ p q =
    record { replaced = replaced_then i (record_of t₁ i) (record_of t₂ i) t t₁ t₂ p.replaced q.replaced; own = λ x a. q.own x a ∙ p.own x a }

-- the range is one of those
abbrev Within : Range → Type 0
Within c = (x : Range) → apart_from request_ranges x ≡ true → apart_from (c ∷ []) x ≡ true

first-within : (c : Range) (cs : List Range) (x : Range) → apart_from (c ∷ cs) x ≡ true → apart_from (c ∷ []) x ≡ true
unfolding apart_from
first-within c cs x a = and_from (apart c x) true (and_parts (apart c x) (apart_from cs x) a).0 refl

rest-within : (c : Range) (cs : List Range) (x : Range) → apart_from (c ∷ cs) x ≡ true → apart_from cs x ≡ true
unfolding apart_from
rest-within c cs x a = (and_parts (apart c x) (apart_from cs x) a).1

purged-within : Within (range purged_at 1)
unfolding request_ranges
purged-within x a = first-within _ _ x a

slot_within : (slot : Slot) → Node slot → Within (range slot.at (1 + most_name))
unfolding request_ranges
slot_within slot the_mme x a = first-within _ _ x (rest-within _ _ x a)
slot_within slot the_sgsn x a = first-within _ _ x (rest-within _ _ x (rest-within _ _ x a))

imei-within : Within (range imei_at (1 + most_digits))
unfolding request_ranges
imei-within x a = first-within _ _ x (rest-within _ _ x (rest-within _ _ x (rest-within _ _ x a)))

changed-store : (i at n : ℕ) (xs t : List ℕ) → record_at i + record_size ≤ length t → length xs ≡ n → at + n ≤ record_size → Within (range at n) → Changed i t (store i at xs t)
changed-store i at n xs t inside e fits within =
    let h : at + length xs ≤ record_size = omega arith in
    let p = replaced_store i at xs t inside h in
    let long = length_record t i inside in
    record {
      replaced = record { same_length = p.same_length; same-header = p.same-header; own = refl; others = p.others };
      own = λ x a. ap (λ (r : List ℕ). cut x r) p.own ∙ differ_put at n xs (record_of t i) e (omega arith) x (within x a);
    }

changed-node : (slot : Slot) (i : ℕ) (name t : List ℕ) → Node slot → record_at i + record_size ≤ length t → length name ≤ most_name → Changed i t (store_node slot.at slot.purge_bit i name t)
unfolding store_node
changed-node slot i name t node inside few =
    let b = without_bit slot.purge_bit (purged_of t i) ∷ [] in
    let t₁ = store i purged_at b t in
    let n : length t₁ ≡ length t = length-store i purged_at b t inside (omega arith) in
    let s = (slot_inside slot node).1 in
    changed_then i t t₁ _ (changed-store i purged_at 1 b t inside refl (omega arith) purged-within)
    (changed-store i slot.at (1 + most_name) (filled most_name name) t₁ (rw n inside) (length-filled most_name name few) (omega arith) (slot_within slot node))

-- ---- a table that was served: valid, and changed in record `i` alone

pub record Served (i : ℕ) (t t' : List ℕ) : Type 0 where
  pub still_valid : valid t' ≡ true
  pub changed : Changed i t t'

served_then : {i : ℕ} {t t₁ t₂ : List ℕ} → Served i t t₁ → Served i t₁ t₂ → Served i t t₂
served_then {i} {t} {t₁} {t₂} p q = record { still_valid = q.still_valid; changed = changed_then i t t₁ t₂ p.changed q.changed }

pub served_count : {i : ℕ} {t t' : List ℕ} → Served i t t' → i < count_of t → i < count_of t'
served_count {i} {t} {t'} p h = rw (replaced_count i (record_of t' i) t t' p.changed.replaced) h

module _ (i : ℕ) (t : List ℕ) (e : valid t ≡ true) (h : i < count_of t) where
  not-served : Served i t t
  not-served = record { still_valid = e; changed = unchanged i t }

  served_if : (b : Bool) (t' : List ℕ) → (b ≡ true → Served i t t') → Served i t (cond b t' t)
  served_if true t' p = p refl
  served_if false t' p = not-served

  pub node-served : (slot : Slot) (name : List ℕ) → Node slot → is_name name ≡ true → Served i t (store_node slot.at slot.purge_bit i name t)
  node-served slot name node good =
      let n = name_parts name good in
      record { still_valid = node-valid i t e h slot name node n.few n.bytes; changed = changed-node slot i name t node (inside-valid i t e h) n.few }

  pub clear-served : (slot : Slot) → Node slot → Served i t (store_node slot.at slot.purge_bit i [] t)
  clear-served slot node = record { still_valid = cleared_valid i t e h slot node; changed = changed-node slot i [] t node (inside-valid i t e h) (omega arith) }

  pub purge-served : (slot : Slot) → Node slot → 0 < get_or (record_of t i) slot.at 0 → Served i t (store_purged slot.purge_bit i t)
  unfolding store_purged
  purge-served slot node named =
      record { still_valid = purged-valid i t e h slot node named; changed = changed-store i purged_at 1 _ t (inside-valid i t e h) refl (omega arith) purged-within }

  pub imei-served : (imei : List ℕ) → imei_digits imei ≡ true → Served i t (store_imei i imei t)
  unfolding store_imei
  imei-served imei good =
      let few = imei-size imei (imei-sizes imei good) in
      record {
        still_valid = imei-valid i t e h imei (imei-sizes imei good) (imei-bytes imei good);
        changed = changed-store i imei_at (1 + most_digits) (filled most_digits imei) t (inside-valid i t e h) (length-filled most_digits imei few) (omega arith) imei-within;
      }

  -- "gets its purge bit", where it does
  pub purge_if_served : (b : Bool) (slot : Slot) → Node slot → (b ≡ true → registered slot (record_of t i) ≡ true) → Served i t (purged_if b slot i t)
  purge_if_served b slot node named = served_if b _ (λ q. purge-served slot node (ltb-true 0 (get_or (record_of t i) slot.at 0) (named q)))

  pub cancelled-served : (slot : Slot) (type : Option ℕ) (r : List ℕ) → Node slot → Served i t (cancelled slot type r i t)
  unfolding cancelled
  cancelled-served slot none r node = not-served
  cancelled-served slot (some type) r node = served_if (registered slot r) _ (λ _. clear-served slot node)

-- the purge bit of one node leaves the name of the other registered
purged-named : (i bit : ℕ) (t : List ℕ) (at : ℕ) → record_at i + record_size ≤ length t → purged_at + 1 ≤ at → get_or (record_of (store_purged bit i t) i) at 0 ≡ get_or (record_of t i) at 0
unfolding store_purged
purged-named i bit t at inside h =
    let b = with_bit bit (purged_of t i) ∷ [] in
    let long = length_record t i inside in
    ap (λ (r : List ℕ). get_or r at 0) (own-store i purged_at b t inside (omega arith)) ∙ put-after purged_at at b (record_of t i) (omega arith) h

-- ---- the commands

module _ (i : ℕ) (t : List ℕ) (e : valid t ≡ true) (h : i < count_of t) where
  pub updated-served : (own other : Slot) (own_type : ℕ) (type : Option ℕ) (sent r : List ℕ) → Node own → Node other → is_name sent ≡ true
      → Served i t (updated own other own_type type sent r i t).table
  unfolding updated
  updated-served own other own_type type sent r o p good =
      let first = node-served i t e h own sent o good in
      served_then first (cancelled-served i _ first.still_valid (served_count first h) other type r p)

  pub located-served : (s6a : Bool) (type : Option ℕ) (sent r : List ℕ) → is_name sent ≡ true → Served i t (located s6a type sent r i t).table
  located-served true type sent r good = updated-served mme sgsn 0 type sent r the_mme the_sgsn good
  located-served false type sent r good = updated-served sgsn mme 1 type sent r the_sgsn the_mme good

  -- the name at `at` is registered still once a purge bit may have been set
  named_if : (b : Bool) (slot : Slot) (at : ℕ) → purged_at + 1 ≤ at → get_or (record_of (purged_if b slot i t) i) at 0 ≡ get_or (record_of t i) at 0
  named_if true slot at k = purged-named i slot.purge_bit t at (inside-valid i t e h) k
  named_if false slot at k = refl

  pub purged-served : (in_mme in_sgsn : Bool) → (in_mme ≡ true → registered mme (record_of t i) ≡ true) → (in_sgsn ≡ true → registered sgsn (record_of t i) ≡ true)
      → Served i t (purged in_mme in_sgsn i t).table
  purged-served in_mme in_sgsn m s =
      let first = purge_if_served i t e h in_mme mme the_mme m in
      let same = named_if in_mme mme sgsn_at (omega arith) in
      served_then first (purge_if_served i (purged_if in_mme mme i t) first.still_valid (served_count first h) in_sgsn sgsn the_sgsn (λ b. rw same (s b)))

  pub imei_then : (p : Option Placed) (d : Done) → ((x : Placed) → p ≡ some x → imei_digits x.avp.body ≡ true) → Served i t d.table → Served i t (with_imei p i d).table
  unfolding with_imei
  imei_then none d good s = s
  imei_then (some x) d good s = served_then s (imei-served i d.table s.still_valid (served_count s h) x.avp.body (good x refl))

-- what the tests before the procedures say of a request
pub record Accepted (m : List ℕ) : Type 0 where
  pub sender-name : is_name (sender m) ≡ true
  pub imei-right : (p : Placed) → imei_of m ≡ some p → imei_digits p.avp.body ≡ true

pub purges-registered : (slot : Slot) (sent : List ℕ) (there : Bool) (flags : ℕ) (r : List ℕ) → purges slot sent there flags r ≡ true → registered slot r ≡ true
unfolding purges
purges-registered slot sent there flags r e = (and_parts (registered slot r) _ (and_parts (is_sender slot sent r) _ e).0).0

-- a command is one of three
pub each-command : (P : Done → Type 0) (a b : Bool) (d₁ d₂ d₃ : Done) → P d₁ → P d₂ → P d₃ → P (cond a d₁ (cond b d₂ d₃))
each-command P true b d₁ d₂ d₃ p q r = p
each-command P false true d₁ d₂ d₃ p q r = q
each-command P false false d₁ d₂ d₃ p q r = r

module _ (m : List ℕ) (i : ℕ) (t : List ℕ) (ok : Accepted m) (e : valid t ≡ true) (h : i < count_of t) where
  pub carried_served : Served i t (carried_out m i t).table
  unfolding carried_out update_location purge_ue notify
  carried_served =
      let r = record_of t i in
      let type = other_type (on_s6a m) (single_registration m) (initial_attach m) in
      each-command (λ d. Served i t d.table) (is_ulr m) (is_pur m) _ _ _
      (imei_then i t e h (imei_of m) _ ok.imei-right (located-served i t e h (on_s6a m) type (sender m) r ok.sender-name))
      (purged-served i t e h _ _ (purges-registered mme (sender m) _ _ r) (purges-registered sgsn (sender m) _ _ r))
      (imei_then i t e h (imei_of m) _ ok.imei-right (cancelled-served i t e h sgsn (code_if (nor_single_registration m) 1) r the_sgsn))

  -- the table stays valid
  pub carried_valid : valid (carried_out m i t).table ≡ true
  carried_valid = carried_served.still_valid

  -- a range that requests do not touch stays
  pub carried_kept : (at n : ℕ) → apart_from request_ranges (range at n) ≡ true → part at n (record_of (carried_out m i t).table i) ≡ part at n (record_of t i)
  carried_kept at n a = carried_served.changed.own (range at n) a

  pub carried_imsi : imsi_of (record_of (carried_out m i t).table i) ≡ imsi_of (record_of t i)
  unfolding request_ranges apart_from apart
  carried_imsi = carried_kept imsi_at imsi_size refl

  -- "Requests never touch the change number"
  pub carried_change : part change_at 4 (record_of (carried_out m i t).table i) ≡ part change_at 4 (record_of t i)
  unfolding request_ranges apart_from apart
  carried_change = carried_kept change_at 4 refl

  -- every IMSI is found where it was
  pub carried_lookup : (imsi : List ℕ) → lookup imsi (carried_out m i t).table ≡ lookup imsi t
  carried_lookup imsi = replaced_lookup i _ t _ carried_served.changed.replaced carried_imsi imsi

-- ---- the list

pub imei-entries : (p : Option Placed) (i : ℕ) (d : Done) → (with_imei p i d).entries ≡ d.entries
unfolding with_imei
imei-entries none i d = refl
imei-entries (some x) i d = refl

located-each : (s6a : Bool) (type : Option ℕ) (sent r : List ℕ) (i : ℕ) (t : List ℕ) → length r ≡ record_size → record_right r ≡ true
    → EachOf (Listable sent) (located s6a type sent r i t).entries
located-each true type sent r i t long right = updated-each sent r long right mme sgsn 0 type i t the_mme the_sgsn
located-each false type sent r i t long right = updated-each sent r long right sgsn mme 1 type i t the_sgsn the_mme

-- "A name equal to the sender's is never listed", and each name fits its entry
pub carried_each : (m : List ℕ) (i : ℕ) (t : List ℕ) → valid t ≡ true → i < count_of t → EachOf (Listable (sender m)) (carried_out m i t).entries
unfolding carried_out update_location purge_ue notify
carried_each m i t e h =
    let r = record_of t i in
    let long = long-valid i t e h in
    let right = right_valid i t e h in
    let type = other_type (on_s6a m) (single_registration m) (initial_attach m) in
    each-command (λ d. EachOf (Listable (sender m)) d.entries) (is_ulr m) (is_pur m) _ _ _
    (rw (imei-entries (imei_of m) i (located (on_s6a m) type (sender m) r i t)) (located-each (on_s6a m) type (sender m) r i t long right))
    tt
    (rw (imei-entries (imei_of m) i (notified (code_if (nor_single_registration m) 1) (sender m) r i t)) (cancel_list-each (sender m) r long right sgsn (code_if (nor_single_registration m) 1) the_sgsn))

located-few : (s6a : Bool) (type : Option ℕ) (sent r : List ℕ) (i : ℕ) (t : List ℕ) → length (located s6a type sent r i t).entries ≤ most_entries
located-few true type sent r i t = updated-few mme sgsn 0 type sent r i t
located-few false type sent r i t = updated-few sgsn mme 1 type sent r i t

-- "two entries" are enough
pub carried_few : (m : List ℕ) (i : ℕ) (t : List ℕ) → length (carried_out m i t).entries ≤ most_entries
unfolding carried_out update_location purge_ue notify
carried_few m i t =
    let r = record_of t i in
    let type = other_type (on_s6a m) (single_registration m) (initial_attach m) in
    let one = cancel_list-few sgsn (code_if (nor_single_registration m) 1) (sender m) r in
    each-command (λ d. length d.entries ≤ most_entries) (is_ulr m) (is_pur m) _ _ _
    (rw (imei-entries (imei_of m) i (located (on_s6a m) type (sender m) r i t)) (located-few (on_s6a m) type (sender m) r i t))
    (omega arith)
    (rw (imei-entries (imei_of m) i (notified (code_if (nor_single_registration m) 1) (sender m) r i t)) (omega arith))

pub length-cancel : (m : List ℕ) (i : ℕ) (t : List ℕ) → valid t ≡ true → i < count_of t → length (cancel_bytes most_entries (carried_out m i t).entries) ≡ cancel_size
length-cancel m i t e h = length-cancel_bytes most_entries (sender m) (carried_out m i t).entries (carried_each m i t e h)
