-- The list of nodes as the code writes it: an entry or nothing for a node, then zeros.
-- Assumes nothing.
use mathlib.Core.Path.{◌≡◌, sym, ap, ◌∙◌, subst}
use mathlib.Core.Bool.{true, false, and-false}
use mathlib.Core.Option as paper
use mathlib.Core.List.{List, [], ◌++◌, append-nil}
use Prim.Native.Nat.{ℕ, ◌-◌, ◌≤◌}
use native.Mathlib.Omega.{arith}
use lib.Dec.{ltb}
use lib.ListN.{length, get_or, replicate, length-append}
use borrow.Author.Tests.{lt-ltb}
use Rattle.std.specs.Prelude.{Option, Some, None}
use Rattle.wire.specs.Put.{put, Wrote}
use Rattle.wire.proofs.PutLaws.{wrote_then, wrote-same}
use Rattle.paper.specs.Layout.{entry_size, most_entries, cancel_size}
use Rattle.paper.specs.Table as Table
use Rattle.paper.specs.Table.{record_right, name_of}
use Rattle.paper.specs.Procedures.{Entry, same_name, registered, listed, cancel_list, entry_bytes, cancel_bytes}
use Rattle.paper.proofs.EntryLaws.{EachOf, Listable, each_append, listed-each, cancel_list-each, listed-few, cancel_list-few, list_bytes, list_bytes_append, length_list_bytes, cancel_bytes-list}
use Rattle.procedures.specs.Values.{slot_of, bytes_of, type_number, type_of, clears}
use Rattle.procedures.specs.declared.nodes.Node.{Node}
use Rattle.procedures.specs.declared.subscriber.Subscriber.{Subscriber}
use Rattle.procedures.specs.declared.cancel.CancellationType.{CancellationType}
use Rattle.procedures.proofs.NodeLaws.{node_of, name_count}

module _ (s : Subscriber) (host : List ℕ) where
  -- what is written for a node whose name the code read
  module _ (n : Node) (kind : ℕ) {name : List ℕ} (read : name ≡ name_of (slot_of n) (bytes_of s)) where
    count : length name ≡ get_or (bytes_of s) (slot_of n).at 0
    count = ap length read ∙ name_count n (bytes_of s) s.right s.long

    pub unregistered_listed : length name ≡ 0 → list_bytes (listed (slot_of n) kind host (bytes_of s)) ≡ []
    unfolding listed list_bytes
    unregistered_listed e = let z : get_or (bytes_of s) (slot_of n).at 0 ≡ 0 = sym count ∙ e in rw z

    pub sender-listed : same_name name host ≡ true → list_bytes (listed (slot_of n) kind host (bytes_of s)) ≡ []
    unfolding listed list_bytes
    sender-listed e =
        let q : same_name (name_of (slot_of n) (bytes_of s)) host ≡ true = rw read at e in
        rw (q, and-false)

    pub other-listed : (length name ≡ 0 → ⊥) → same_name name host ≡ false
        → list_bytes (listed (slot_of n) kind host (bytes_of s)) ≡ entry_bytes (record { node = (slot_of n).number; type = kind; name = name })
    unfolding listed list_bytes
    other-listed ne e =
        let c = count in
        let named : ltb 0 (get_or (bytes_of s) (slot_of n).at 0) ≡ true = lt-ltb 0 (get_or (bytes_of s) (slot_of n).at 0) (omega arith) in
        let q : same_name (name_of (slot_of n) (bytes_of s)) host ≡ false = rw read at e in
        rw (named, q, read) (append-nil _)

  listed-right : (n : Node) (kind : ℕ) → EachOf (Listable host) (listed (slot_of n) kind host (bytes_of s))
  listed-right n kind = listed-each host (bytes_of s) s.long s.right (slot_of n) kind (node_of n)

  cancel_list-right : (n : Node) (type : paper.Option ℕ) → EachOf (Listable host) (cancel_list (slot_of n) type host (bytes_of s))
  cancel_list-right n type = cancel_list-each host (bytes_of s) s.long s.right (slot_of n) type (node_of n)

  -- the bytes of at most one entry
  pub listed-size : (n : Node) (kind : ℕ) → length (list_bytes (listed (slot_of n) kind host (bytes_of s))) ≤ entry_size
  listed-size n kind =
      let j = length_list_bytes host (listed (slot_of n) kind host (bytes_of s)) (listed-right n kind) in
      let k = listed-few (slot_of n) kind host (bytes_of s) in
      omega arith

  pub cancel_list-size : (n : Node) (type : paper.Option ℕ) → length (list_bytes (cancel_list (slot_of n) type host (bytes_of s))) ≤ entry_size
  cancel_list-size n type =
      let j = length_list_bytes host (cancel_list (slot_of n) type host (bytes_of s)) (cancel_list-right n type) in
      let k = cancel_list-few (slot_of n) type host (bytes_of s) in
      omega arith

  -- a list with zeros behind it is what the cancel buffer holds
  zeros-behind : (es : List Entry) {l l₁ l₂ : List ℕ} {e z : ℕ} → EachOf (Listable host) es → length es ≤ most_entries → Wrote l 0 (list_bytes es) l₁ e → Wrote l₁ e (replicate (cancel_size - e) 0) l₂ z
      → l₂ ≡ put 0 (cancel_bytes most_entries es) l
  zeros-behind es {l} {l₁} {l₂} {e} {z} right few p q =
      let k : e ≡ length (list_bytes es) = p.next ∙ omega arith in
      let w = wrote_then (omega arith) p (subst (λ (n : ℕ). Wrote l₁ e (replicate (cancel_size - n) 0) l₂ z) k q) in
      w.made ∙ ap (λ (xs : List ℕ). put 0 xs l) (sym (cancel_bytes-list most_entries host es right few))

  pub one-listed : (n : Node) (type : paper.Option ℕ) {l l₁ l₂ : List ℕ} {e z : ℕ} → Wrote l 0 (list_bytes (cancel_list (slot_of n) type host (bytes_of s))) l₁ e
      → Wrote l₁ e (replicate (cancel_size - e) 0) l₂ z → l₂ ≡ put 0 (cancel_bytes most_entries (cancel_list (slot_of n) type host (bytes_of s))) l
  one-listed n type p q =
      let k = cancel_list-few (slot_of n) type host (bytes_of s) in
      zeros-behind (cancel_list (slot_of n) type host (bytes_of s)) (cancel_list-right n type) (omega arith) p q

  pub two_listed : (own other : Node) (kind : ℕ) (type : paper.Option ℕ) {l l₁ l₂ l₃ : List ℕ} {b e z : ℕ}
      → Wrote l 0 (list_bytes (listed (slot_of own) kind host (bytes_of s))) l₁ b → Wrote l₁ b (list_bytes (cancel_list (slot_of other) type host (bytes_of s))) l₂ e
      → Wrote l₂ e (replicate (cancel_size - e) 0) l₃ z
      → l₃ ≡ put 0 (cancel_bytes most_entries (listed (slot_of own) kind host (bytes_of s) ++ cancel_list (slot_of other) type host (bytes_of s))) l
  two_listed own other kind type v w x =
      let a = listed (slot_of own) kind host (bytes_of s) in
      let b = cancel_list (slot_of other) type host (bytes_of s) in
      let j = listed-few (slot_of own) kind host (bytes_of s) in
      let k = cancel_list-few (slot_of other) type host (bytes_of s) in
      zeros-behind (a ++ b) (each_append (Listable host) a b (listed-right own kind) (cancel_list-right other type)) (simp length-append (omega arith))
      (wrote-same (sym (list_bytes_append a b)) (wrote_then (omega arith) v w)) x

-- ---- a node by how it is cancelled

module _ (slot : Table.Slot) (host r : List ℕ) {how : Option CancellationType} where
  pub kept_listed : how ≡ None → list_bytes (cancel_list slot (type_of how) host r) ≡ []
  unfolding cancel_list list_bytes
  kept_listed e = rw e

  pub cancelled-listed : (kind : CancellationType) → how ≡ Some kind → list_bytes (cancel_list slot (type_of how) host r) ≡ list_bytes (listed slot (type_number kind) host r)
  unfolding cancel_list
  cancelled-listed kind e = rw e

  pub kept_clears : how ≡ None → clears slot (type_of how) r ≡ false
  unfolding clears
  kept_clears e = rw e

  pub cancelled-clears : (kind : CancellationType) → how ≡ Some kind → clears slot (type_of how) r ≡ registered slot r
  unfolding clears
  cancelled-clears kind e = rw e
