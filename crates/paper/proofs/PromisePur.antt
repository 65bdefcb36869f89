-- Promise: "PUR: [..]", sentence by sentence, over the record of the request's IMSI, the cancel buffer and PUA-Flags.
-- Assumes nothing.
use mathlib.Core.Path.{◌≡◌, refl, sym, ap, ◌∙◌}
use mathlib.Core.Logic.{◌≢◌}
use mathlib.Core.Bool.{Bool, true, false, cond, not, or-true, false≢true}
use mathlib.Core.Option.{some}
use mathlib.Core.List.{List, []}
use Prim.Native.Nat.{ℕ, ◌+◌, ◌<◌}
use native.Mathlib.Omega.{arith}
use lib.Dec.{eqb}
use lib.ListN.{length}
use borrow.Author.Tests.{eqb-true}
use Rattle.std.proofs.lemmas.Bool.{and_from, and_left, and_right}
use Rattle.wire.specs.Stretch.{same}
use Rattle.wire.proofs.StretchLaws.{same-equal, same_differ}
use Rattle.paper.specs.Avp.{bit}
use Rattle.paper.specs.Layout.{record_size}
use Rattle.paper.specs.Profile.{pur_flags, pua_flags, ulr, pur}
use Rattle.paper.specs.Table.{record_right, record_of, count_of, valid, Slot, mme, sgsn, name_of}
use Rattle.paper.specs.Request.{command_code, avps_of, find, value_of, number_of, is_there, is_name}
use Rattle.paper.specs.Procedures.{Done, sender, is_ulr, is_pur, same_name, is_sender, registered, purges, purged_if, purged, purge_ue, carried_out}
use Rattle.paper.specs.Outcome.{Lent}
use Rattle.paper.specs.Read.{before, after, purged_in, imei_in, listed_by, answer_of}
use Rattle.paper.specs.ReadBack.{a_number}
use Rattle.paper.specs.Promises.{Accepted, Kept, Set, Unset, Purges, PurgesUe}
use Rattle.paper.proofs.FieldLaws.{Node, the_mme, the_sgsn}
use Rattle.paper.proofs.StoreLaws.{right_valid, long-valid}
use Rattle.paper.proofs.ProcedureLaws as Laws
use Rattle.paper.proofs.ProcedureLaws.{served_count, purged-served, name_parts}
use Rattle.paper.proofs.AcceptedLaws as AcceptedLaws
use Rattle.paper.proofs.PromiseFields.{Other, sgsn_of_mme, mme_of_sgsn, purge-table}
use Rattle.paper.proofs.PromiseEntries.{registered-named}
use Rattle.paper.proofs.PromiseSuccess.{success, inside, before-is, after_is, listed-is}
use Rattle.paper.proofs.PromiseAnswer.{pur-answered}
use Rattle.paper.proofs.ReadBackFind.{Agrees, number_read, there-read}
use Rattle.paper.proofs.ProcedureLaws.{purges-registered}

-- ---- when a node is purged

module _ (slot : Slot) (sent r : List ℕ) (node : Node slot) (long : length r ≡ record_size) (right : record_right r ≡ true) (good : is_name sent ≡ true) (there : Bool) (flags : ℕ) where
  matching : name_of slot r ≡ sent → is_sender slot sent r ≡ true
  unfolding same_name
  matching e =
      let n = (name_parts sent good).some_byte in
      let named : name_of slot r ≢ [] = λ q. let z : length sent ≡ 0 = ap length (sym e ∙ q) in omega arith in
      and_from (registered slot r) (same (name_of slot r) sent) (registered-named slot r sent node long right named) (same-equal (name_of slot r) sent e)

  purges_unasked : there ≡ false → name_of slot r ≡ sent → purges slot sent there flags r ≡ true
  unfolding purges
  purges_unasked t e = rw (matching e, t)

  purges-asked : bit slot.purge_bit flags ≡ true → name_of slot r ≡ sent → purges slot sent there flags r ≡ true
  unfolding purges
  purges-asked b e = rw (matching e, b) (or-true (not there))

  not-asked : there ≡ true → bit slot.purge_bit flags ≡ false → purges slot sent there flags r ≡ false
  unfolding purges
  not-asked t b = and_right (is_sender slot sent r) _ (rw (t, b))

  not_matching : name_of slot r ≢ sent → purges slot sent there flags r ≡ false
  unfolding purges same_name
  not_matching ne = and_left _ _ (and_right (registered slot r) _ (same_differ (name_of slot r) sent ne))

-- ---- a purge bit set where `b` says so

pub record PurgedIf (b : Bool) (own other : Slot) (r r' : List ℕ) : Type 0 where
  pub bit-after : purged_in own r' ≡ cond b true (purged_in own r)
  pub own_name : name_of own r' ≡ name_of own r
  pub other_kept : Kept other r r'
  pub imei-same : imei_in r' ≡ imei_in r

purged_if_lem : (i : ℕ) (t : List ℕ) → valid t ≡ true → i < count_of t → {own other : Slot} → Other own other → (b : Bool) → PurgedIf b own other (record_of t i) (record_of (purged_if b own i t) i)
purged_if_lem i t e h o true =
    let p = purge-table i t e h o in
    record { bit-after = p.set; own_name = p.own_name; other_kept = p.other_kept; imei-same = p.imei-same }
purged_if_lem i t e h o false = record { bit-after = refl; own_name = refl; other_kept = record { name = refl; purged = refl }; imei-same = refl }

-- PUA-Flags: "bit 0 MME, bit 1 SGSN"
abbrev shown_flags : Bool → Bool → ℕ
shown_flags in_mme in_sgsn = cond in_mme 1 0 + cond in_sgsn 2 0

pub record TwoBits (in_mme in_sgsn : Bool) : Type 0 where
  pub of_mme : bit 0 (shown_flags in_mme in_sgsn) ≡ in_mme
  pub of_sgsn : bit 1 (shown_flags in_mme in_sgsn) ≡ in_sgsn
  pub few : shown_flags in_mme in_sgsn < 4

two_bits : (in_mme in_sgsn : Bool) → TwoBits in_mme in_sgsn
two_bits true true = record { of_mme = refl; of_sgsn = refl; few = omega arith }
two_bits true false = record { of_mme = refl; of_sgsn = refl; few = omega arith }
two_bits false true = record { of_mme = refl; of_sgsn = refl; few = omega arith }
two_bits false false = record { of_mme = refl; of_sgsn = refl; few = omega arith }

-- ---- one node

module _ (slot : Slot) (m r r' : List ℕ) (shown : ℕ) (b : Bool) (after-bit : purged_in slot r' ≡ cond b true (purged_in slot r)) (shown-bit : bit slot.purge_bit shown ≡ b) where
  set_there : b ≡ true → Set slot r' shown
  set_there e = record { purged = after-bit ∙ ap (λ (c : Bool). cond c true (purged_in slot r)) e; shown = shown-bit ∙ e }

  unset_there : b ≡ false → Unset slot r r' shown
  unset_there e = record { purged = after-bit ∙ ap (λ (c : Bool). cond c true (purged_in slot r)) e; shown = shown-bit ∙ e }

abbrev flags_there : List ℕ → Bool
flags_there m = is_there (find pur_flags (avps_of m))

-- the node gets its purge bit
abbrev purges_of : Slot → List ℕ → List ℕ → Bool
purges_of slot m r = purges slot (sender m) (flags_there m) (number_of pur_flags m) r

purges-node : (slot : Slot) (m r r' : List ℕ) (shown : ℕ) → Node slot → length r ≡ record_size → record_right r ≡ true → is_name (sender m) ≡ true
    → purged_in slot r' ≡ cond (purges_of slot m r) true (purged_in slot r) → bit slot.purge_bit shown ≡ purges_of slot m r → name_of slot r' ≡ name_of slot r
    → Purges slot m r r' shown
purges-node slot m r r' shown node long right good after-bit shown-bit name =
    let sent = sender m in
    let there = flags_there m in
    let flags = number_of pur_flags m in
    let set = set_there slot m r r' shown (purges_of slot m r) after-bit shown-bit in
    let unset = unset_there slot m r r' shown (purges_of slot m r) after-bit shown-bit in
    record {
      without_flags = λ t q. set (purges_unasked slot sent r node long right good there flags t q);
      with_flags = λ t s q. set (purges-asked slot sent r node long right good there flags s q);
      bit_not_set = λ t s. unset (not-asked slot sent r node long right good there flags t s);
      no_match = λ ne. unset (not_matching slot sent r node long right good there flags ne);
      name_kept = name;
    }

-- ---- the request

module _ (m : List ℕ) (ok : Laws.Accepted m) (i : ℕ) (t : List ℕ) (e : valid t ≡ true) (h : i < count_of t) where
  abbrev in_mme : Bool
  in_mme = purges_of mme m (record_of t i)

  abbrev in_sgsn : Bool
  in_sgsn = purges_of sgsn m (record_of t i)

  -- the record after it
  abbrev purged_record : List ℕ
  purged_record = record_of (purged in_mme in_sgsn i t).table i

  first-purge : PurgedIf in_mme mme sgsn (record_of t i) (record_of (purged_if in_mme mme i t) i)
  first-purge = purged_if_lem i t e h sgsn_of_mme in_mme

  second-purge : PurgedIf in_sgsn sgsn mme (record_of (purged_if in_mme mme i t) i) purged_record
  second-purge =
      let served = purged-served i t e h in_mme false (purges-registered mme (sender m) (flags_there m) (number_of pur_flags m) (record_of t i)) (λ q. absurd (false≢true q)) in
      purged_if_lem i (purged_if in_mme mme i t) served.still_valid (served_count served h) mme_of_sgsn in_sgsn

  mme-purges : Purges mme m (record_of t i) purged_record (shown_flags in_mme in_sgsn)
  mme-purges =
      purges-node mme m (record_of t i) purged_record (shown_flags in_mme in_sgsn) the_mme (long-valid i t e h) (right_valid i t e h) ok.sender-name
      (second-purge.other_kept.purged ∙ first-purge.bit-after) (two_bits in_mme in_sgsn).of_mme (second-purge.other_kept.name ∙ first-purge.own_name)

  sgsn-purges : Purges sgsn m (record_of t i) purged_record (shown_flags in_mme in_sgsn)
  sgsn-purges =
      purges-node sgsn m (record_of t i) purged_record (shown_flags in_mme in_sgsn) the_sgsn (long-valid i t e h) (right_valid i t e h) ok.sender-name
      (second-purge.bit-after ∙ ap (λ (b : Bool). cond in_sgsn true b) first-purge.other_kept.purged) (two_bits in_mme in_sgsn).of_sgsn
      (second-purge.own_name ∙ first-purge.other_kept.name)

  -- "No match is success with no change."
  stranger_leaves : name_of mme (record_of t i) ≢ sender m → name_of sgsn (record_of t i) ≢ sender m → purged_record ≡ record_of t i
  stranger_leaves p q =
      let long = long-valid i t e h in
      let right = right_valid i t e h in
      let a : in_mme ≡ false = not_matching mme (sender m) (record_of t i) the_mme long right ok.sender-name (flags_there m) (number_of pur_flags m) p in
      let b : in_sgsn ≡ false = not_matching sgsn (sender m) (record_of t i) the_sgsn long right ok.sender-name (flags_there m) (number_of pur_flags m) q in
      ap (λ (c : Bool). record_of (purged_if c sgsn i (purged_if in_mme mme i t)) i) b ∙ ap (λ (c : Bool). record_of (purged_if c mme i t) i) a

pur_carried : (m : List ℕ) (i : ℕ) (t : List ℕ) → is_pur m ≡ true → carried_out m i t ≡ purged (purges_of mme m (record_of t i)) (purges_of sgsn m (record_of t i)) i t
unfolding carried_out purge_ue
pur_carried m i t p =
    let not-ulr : is_ulr m ≡ false = ap (λ (c : ℕ). eqb c ulr) (eqb-true (command_code m) pur p) in
    rw (not-ulr, p)

-- "PUR: [..]"
pub pur-purges : (l : Lent) → Accepted l → is_pur l.request ≡ true → PurgesUe l.request (before l) (after l) (listed_by l) (answer_of l)
unfolding number_of value_of
pur-purges l a p =
    let m = l.request in
    let s = success l a in
    let i = s.place in
    let t = l.table in
    let e = s.passed.table_valid in
    let h = inside l s in
    let ok = AcceptedLaws.accepted m s.unrefused in
    let c = pur_carried m i t p in
    let shown = shown_flags (in_mme m ok i t e h) (in_sgsn m ok i t e h) in
    let bits = two_bits (in_mme m ok i t e h) (in_sgsn m ok i t e h) in
    let found : Agrees (find pua_flags (avps_of (answer_of l))) (some (a_number pua_flags shown)) = rw c at (pur-answered l a p) in
    let n : number_of pua_flags (answer_of l) ≡ shown = number_read pua_flags shown (find pua_flags (avps_of (answer_of l))) (omega arith) found in
    let none_listed : listed_by l ≡ [] = listed-is l s (rw c tt) ∙ ap (λ (d : Done). d.entries) c in
    let was : before l ≡ record_of t i = before-is l s in
    let is : after l ≡ purged_record m ok i t e h = after_is l s ∙ ap (λ (d : Done). record_of d.table i) c in
    rw (was, is, none_listed)
    (record {
      in_mme = rw n (mme-purges m ok i t e h);
      in_sgsn = rw n (sgsn-purges m ok i t e h);
      flags_there = there-read (a_number pua_flags shown) (find pua_flags (avps_of (answer_of l))) found;
      two_bits = rw n bits.few;
      none_listed = refl;
      imei_kept = (second-purge m ok i t e h).imei-same ∙ (first-purge m ok i t e h).imei-same;
      no_match = stranger_leaves m ok i t e h;
    })
