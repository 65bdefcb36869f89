-- Every entry of a list has the number of a node, 1 or 2: an unused entry, which is zero, can be told from one.
-- Assumes nothing.
use mathlib.Core.Bool.{Bool, true, false, cond, ◌&&◌, not}
use mathlib.Core.Option.{Option, none, some}
use mathlib.Core.List.{List, [], ◌∷◌}
use Prim.Native.Nat.{ℕ, ◌≤◌}
use native.Mathlib.Omega.{arith}
use Rattle.paper.specs.Table.{Slot, mme, sgsn, name_of, record_of}
use Rattle.paper.specs.Request.{imei_of}
use Rattle.paper.specs.Procedures.{Entry, sender, is_ulr, is_pur, on_s6a, single_registration, initial_attach, nor_single_registration, code_if, registered, same_name, listed, other_type, cancel_list, updated, located, update_location, purge_ue, notified, notify, carried_out}
use Rattle.paper.proofs.FieldLaws.{Node, the_mme, the_sgsn}
use Rattle.paper.proofs.EntryLaws.{EachOf, each_append}
use Rattle.paper.proofs.ProcedureLaws.{each-command, imei-entries}

-- ---- every entry has a node's number

abbrev pub Numbered : Entry → Type 0
Numbered e = (1 ≤ e.node) × (e.node ≤ 2)

numbered_if : (b : Bool) (e : Entry) → Numbered e → EachOf Numbered (cond b (e ∷ []) [])
numbered_if true e p = (p, tt)
numbered_if false e p = tt

pub node-number : (slot : Slot) → Node slot → (1 ≤ slot.number) × (slot.number ≤ 2)
node-number slot the_mme = omega arith
node-number slot the_sgsn = omega arith

listed_numbered : (slot : Slot) (type : ℕ) (sent r : List ℕ) → Node slot → EachOf Numbered (listed slot type sent r)
unfolding listed
listed_numbered slot type sent r node = numbered_if (registered slot r && not (same_name (name_of slot r) sent)) _ (node-number slot node)

cancel_list_numbered : (slot : Slot) (type : Option ℕ) (sent r : List ℕ) → Node slot → EachOf Numbered (cancel_list slot type sent r)
unfolding cancel_list
cancel_list_numbered slot none sent r node = tt
cancel_list_numbered slot (some type) sent r node = listed_numbered slot type sent r node

updated_numbered : (own other : Slot) (own_type : ℕ) (type : Option ℕ) (sent r : List ℕ) (i : ℕ) (t : List ℕ) → Node own → Node other
    → EachOf Numbered (updated own other own_type type sent r i t).entries
unfolding updated
updated_numbered own other own_type type sent r i t o p =
    each_append Numbered (listed own own_type sent r) (cancel_list other type sent r) (listed_numbered own own_type sent r o) (cancel_list_numbered other type sent r p)

located_numbered : (s6a : Bool) (type : Option ℕ) (sent r : List ℕ) (i : ℕ) (t : List ℕ) → EachOf Numbered (located s6a type sent r i t).entries
located_numbered true type sent r i t = updated_numbered mme sgsn 0 type sent r i t the_mme the_sgsn
located_numbered false type sent r i t = updated_numbered sgsn mme 1 type sent r i t the_sgsn the_mme

pub carried_numbered : (m : List ℕ) (i : ℕ) (t : List ℕ) → EachOf Numbered (carried_out m i t).entries
unfolding carried_out update_location purge_ue notify
carried_numbered m i t =
    let r = record_of t i in
    let type = other_type (on_s6a m) (single_registration m) (initial_attach m) in
    each-command (λ d. EachOf Numbered d.entries) (is_ulr m) (is_pur m) _ _ _
    (rw (imei-entries (imei_of m) i (located (on_s6a m) type (sender m) r i t)) (located_numbered (on_s6a m) type (sender m) r i t))
    tt
    (rw (imei-entries (imei_of m) i (notified (code_if (nor_single_registration m) 1) (sender m) r i t)) (cancel_list_numbered sgsn (code_if (nor_single_registration m) 1) (sender m) r the_sgsn))
