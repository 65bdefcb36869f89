-- A node of a record of a valid table: where its name stands, what clears it; and what a command leaves of the table.
-- Assumes nothing.
use mathlib.Core.Path.{◌≡◌, refl, sym, ap, ◌∙◌, subst}
use mathlib.Core.Bool.{Bool, true, false, cond, ◌&&◌, ◌||◌, not}
use mathlib.Core.Option as paper
use mathlib.Core.List.{List, ◌++◌}
use Prim.Native.Nat.{ℕ, ◌+◌, ◌≤◌, ◌<◌}
use native.Mathlib.Omega.{arith}
use lib.Dec.{ltb}
use lib.ListN.{length, get_or}
use Rattle.std.specs.Prelude.{Option, Some, None, is_some, unwrap_or, MatchOption}
use Rattle.wire.specs.Put.{part, put}
use Rattle.paper.specs.Avp.{bit}
use Rattle.paper.specs.Layout.{record_size, most_name, most_entries}
use Rattle.paper.specs.Request.{is_name}
use Rattle.paper.specs.Table as Table
use Rattle.paper.specs.Table.{record_right, record_at, record_of, mme, sgsn, name_of}
use Rattle.paper.specs.Fields.{purged_of}
use Rattle.paper.specs.Procedures.{same_name, is_sender, registered, register, clear, listed, cancelled, cancel_list, updated, located, purges, purged_if, notified, cancel_bytes}
use Rattle.paper.proofs.FieldLaws as Field
use Rattle.paper.proofs.FieldLaws.{the_mme, the_sgsn, slot_inside, name-size, purged-size}
use Rattle.paper.proofs.StoreLaws.{inside-valid, right_valid, long-valid}
use Rattle.paper.proofs.ProcedureLaws.{Served, served_count, node-served, cancelled-served, located-served, purge_if_served, purges-registered}
use Rattle.paper.proofs.EntryLaws.{length-name}
use Rattle.procedures.specs.Values.{Held, slot_of, other_of, type_number, type_of, update_of, clears, Did, Purged}
use Rattle.procedures.specs.declared.nodes.Node.{Node}
use Rattle.procedures.specs.declared.nodes.Node.TheVariants.{Mme, Sgsn}
use Rattle.procedures.specs.declared.cancel.CancellationType.{CancellationType}

pub node_of : (n : Node) → Field.Node (slot_of n)
node_of Mme = the_mme
node_of Sgsn = the_sgsn

-- ---- the name of a node of a right record

module _ (n : Node) (r : List ℕ) (right : record_right r ≡ true) where
  -- it lies inside the record
  pub name-inside : (slot_of n).at + 1 + get_or r (slot_of n).at 0 ≤ record_size
  name-inside =
      let s = name-size (slot_of n) r (node_of n) right in
      let k = (slot_inside (slot_of n) (node_of n)).1 in
      omega arith

  module _ (long : length r ≡ record_size) where
    pub name_count : length (name_of (slot_of n) r) ≡ get_or r (slot_of n).at 0
    name_count = length-name (slot_of n) r (node_of n) long right

    pub name-few : length (name_of (slot_of n) r) ≤ most_name
    name-few = let s = name-size (slot_of n) r (node_of n) right in let k = name_count in omega arith

    -- the name that code reads
    module _ (name : List ℕ) (read : name ≡ part ((slot_of n).at + 1) (get_or r (slot_of n).at 0) r) where
      pub the_name : name ≡ name_of (slot_of n) r
      unfolding name_of
      the_name = read

      pub sender-is : (host : List ℕ) {b : Bool} → b ≡ same_name name host → ltb 0 (length name) && b ≡ is_sender (slot_of n) host r
      sender-is host e =
          let k : length name ≡ get_or r (slot_of n).at 0 = ap length the_name ∙ name_count in
          rw (e, k) (ap (λ (x : List ℕ). ltb 0 (get_or r (slot_of n).at 0) && same_name x host) the_name)

-- a node that is cancelled is cleared where it is registered
pub cleared-is : (slot : Table.Slot) (how : Option CancellationType) (r : List ℕ) → is_some how && registered slot r ≡ clears slot (type_of how) r
unfolding clears
cleared-is slot None r = refl
cleared-is slot (Some kind) r = refl

-- PUR-Flags tell of bit `k`: where there are none, of each
pub told-is : (flags : Option ℕ) (k : ℕ) {told : Bool} → MatchOption flags (told ≡ true) (λ word. told ≡ bit k word) → told ≡ not (is_some flags) || bit k (unwrap_or flags 0)
told-is None k h = h
told-is (Some word) k h = h

pub cancelled_if : (slot : Table.Slot) (type : paper.Option ℕ) (r : List ℕ) (i : ℕ) (t : List ℕ) → cond (clears slot type r) (clear slot i t) t ≡ cancelled slot type r i t
unfolding clears cancelled
cancelled_if slot paper.none r i t = refl
cancelled_if slot (paper.some type) r i t = refl

-- ---- record `i` of a valid table

pub held_served : {i : ℕ} {t t' : List ℕ} → Held t i → Served i t t' → Held t' i
held_served h s = record { right = s.still_valid; below = served_count s h.below }

-- what a store into a node asks
pub record Storable (slot : Table.Slot) (t : List ℕ) (i : ℕ) : Type 0 where
  pub inside : record_at i + record_size ≤ length t
  pub bits : purged_of t i < 4
  pub field : slot.at + 1 + most_name ≤ record_size
  pub bit : slot.purge_bit < 2

module _ (t : List ℕ) (i : ℕ) (h : Held t i) where
  pub held_inside : record_at i + record_size ≤ length t
  held_inside = inside-valid i t h.right h.below

  pub held_right : record_right (record_of t i) ≡ true
  held_right = right_valid i t h.right h.below

  pub held_long : length (record_of t i) ≡ record_size
  held_long = long-valid i t h.right h.below

  pub storable : (n : Node) → Storable (slot_of n) t i
  storable n =
      let k = slot_inside (slot_of n) (node_of n) in
      record { inside = held_inside; bits = purged-size (record_of t i) held_right; field = k.1; bit = k.2 }

  module _ (t' : List ℕ) where
    pub held_node : (n : Node) (sent : List ℕ) → is_name sent ≡ true → t' ≡ register (slot_of n) sent i t → Held t' i
    held_node n sent good e = subst (λ (x : List ℕ). Held x i) (sym e) (held_served h (node-served i t h.right h.below (slot_of n) sent (node_of n) good))

    pub held_purged : (n : Node) (sent : List ℕ) (there : Bool) (flags : ℕ) {b : Bool} → b ≡ purges (slot_of n) sent there flags (record_of t i) → t' ≡ purged_if b (slot_of n) i t → Held t' i
    held_purged n sent there flags {b} p e =
        subst (λ (x : List ℕ). Held x i) (sym e)
        (held_served h
        (purge_if_served i t h.right h.below b (slot_of n) (node_of n) (λ q. purges-registered (slot_of n) sent there flags (record_of t i) (sym p ∙ q))))

-- ---- what a command left: the record, and the list

module _ (t : List ℕ) (i : ℕ) (cancel t' cancel' : List ℕ) where
  -- the list is of the record `r` that the table had, the node cleared once the sender is registered
  pub updated-did : (own : Node) (how : Option CancellationType) (sent : List ℕ) {other : Node} {r : List ℕ} {gone : Bool} {t₁ : List ℕ} → other ≡ other_of own → r ≡ record_of t i → gone ≡ clears (slot_of other) (type_of how) r
      → t₁ ≡ register (slot_of own) sent i t → t' ≡ cond gone (clear (slot_of other) i t₁) t₁
      → cancel' ≡ put 0 (cancel_bytes most_entries (listed (slot_of own) (type_number (update_of own)) sent r ++ cancel_list (slot_of (other_of own)) (type_of how) sent r)) cancel
      → Did (updated (slot_of own) (slot_of (other_of own)) (type_number (update_of own)) (type_of how) sent (record_of t i) i t) cancel t' cancel'
  unfolding updated
  updated-did own how sent {other} {r} {gone} {t₁} o e g a b l =
      record {
        table = b ∙ rw (g, a, o, e) (cancelled_if (slot_of (other_of own)) (type_of how) (record_of t i) i (register (slot_of own) sent i t));
        list = l ∙ rw e;
      }

  -- the same of any two nodes, type and way of cancelling
  pub both-did : (own other : Node) (kind : ℕ) (type : paper.Option ℕ) (sent : List ℕ) {gone : Bool} {t₁ : List ℕ} → gone ≡ clears (slot_of other) type (record_of t i)
      → t₁ ≡ register (slot_of own) sent i t → t' ≡ cond gone (clear (slot_of other) i t₁) t₁
      → cancel' ≡ put 0 (cancel_bytes most_entries (listed (slot_of own) kind sent (record_of t i) ++ cancel_list (slot_of other) type sent (record_of t i))) cancel
      → Did (updated (slot_of own) (slot_of other) kind type sent (record_of t i) i t) cancel t' cancel'
  unfolding updated
  both-did own other kind type sent {gone} {t₁} g a b l =
      record { table = b ∙ rw (g, a) (cancelled_if (slot_of other) type (record_of t i) i (register (slot_of own) sent i t)); list = l }

  pub located_s6a : (s6a : Bool) (how type : paper.Option ℕ) (sent : List ℕ) → s6a ≡ true → how ≡ type
      → Did (updated mme sgsn 0 how sent (record_of t i) i t) cancel t' cancel' → Did (located s6a type sent (record_of t i) i t) cancel t' cancel'
  located_s6a s6a how type sent q w did = rw q (rw w at did)

  pub located_s6d : (s6a : Bool) (how type : paper.Option ℕ) (sent : List ℕ) → s6a ≡ false → how ≡ type
      → Did (updated sgsn mme 1 how sent (record_of t i) i t) cancel t' cancel' → Did (located s6a type sent (record_of t i) i t) cancel t' cancel'
  located_s6d s6a how type sent q w did = rw q (rw w at did)

  pub notified-did : (how : Option CancellationType) (type : paper.Option ℕ) (sent : List ℕ) {r : List ℕ} {gone : Bool} → type_of how ≡ type → r ≡ record_of t i → gone ≡ clears sgsn (type_of how) r
      → t' ≡ cond gone (clear sgsn i t) t → cancel' ≡ put 0 (cancel_bytes most_entries (cancel_list sgsn (type_of how) sent r)) cancel
      → Did (notified type sent (record_of t i) i t) cancel t' cancel'
  notified-did how type sent {r} {gone} w e g b l =
      record {
        table = b ∙ rw (g, w, e) (cancelled_if sgsn type (record_of t i) i t);
        list = l ∙ rw (w, e);
      }

  module _ (h : Held t i) where
    pub held_located : (s6a : Bool) (type : paper.Option ℕ) (sent : List ℕ) → is_name sent ≡ true → Did (located s6a type sent (record_of t i) i t) cancel t' cancel' → Held t' i
    held_located s6a type sent good did =
        subst (λ (x : List ℕ). Held x i) (sym did.table) (held_served h (located-served i t h.right h.below s6a type sent (record_of t i) good))

    pub held_notified : (type : paper.Option ℕ) (sent : List ℕ) → Did (notified type sent (record_of t i) i t) cancel t' cancel' → Held t' i
    held_notified type sent did =
        subst (λ (x : List ℕ). Held x i) (sym did.table) (held_served h (cancelled-served i t h.right h.below sgsn type (record_of t i) the_sgsn))

-- both purge bits, one after the other, and the flags that say so
pub purged_both : (t : List ℕ) (i : ℕ) (sent : List ℕ) (there : Bool) (flags : ℕ) {a b : Bool} {t₁ t₂ : List ℕ} {x y : ℕ} → a ≡ purges mme sent there flags (record_of t i)
    → b ≡ purges sgsn sent there flags (record_of t i) → t₁ ≡ purged_if a mme i t → t₂ ≡ purged_if b sgsn i t₁ → x ≡ cond a 1 0 → y ≡ cond b 2 0
    → Purged (purges mme sent there flags (record_of t i)) (purges sgsn sent there flags (record_of t i)) i t (x + y) t₂
purged_both t i sent there flags pa pb q₁ q₂ f g = record { table = q₂ ∙ rw (q₁, pa, pb); flags = rw (f, g, pa, pb) }

pub flag_small : (b : Bool) (n : ℕ) → cond b n 0 ≤ n
flag_small true n = omega arith
flag_small false n = omega arith
