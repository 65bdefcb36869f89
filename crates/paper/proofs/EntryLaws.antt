-- The list of nodes to cancel: how many entries, never the sender, and the bytes that they are written as.
-- Assumes nothing.
use mathlib.Core.Path.{◌≡◌, refl, sym, ap, ◌∙◌}
use mathlib.Core.Bool.{Bool, true, false, cond, ◌&&◌, not}
use mathlib.Core.Option.{Option, none, some}
use mathlib.Core.List.{List, [], ◌∷◌, ◌++◌, append_assoc}
use Prim.Native.Nat.{ℕ, zero, suc, ◌+◌, ◌-◌, ◌*◌, ◌≤◌}
use native.Mathlib.Omega.{arith}
use lib.ListN.{length, get_or, replicate, length-append, length-replicate, replicate-append-replicate}
use borrow.Author.Tests.{not-true}
use Rattle.std.proofs.lemmas.Bool.{and_parts}
use Rattle.wire.proofs.ListLaws.{length_part}
use Rattle.paper.specs.Layout.{record_size, most_name, entry_size, most_entries, cancel_size}
use Rattle.paper.specs.Table.{record_right, Slot, name_of}
use Rattle.paper.specs.Procedures.{Entry, same_name, registered, listed, cancel_list, updated, entry_bytes, cancel_bytes}
use Rattle.paper.proofs.FieldLaws.{Node, slot_inside, name-size}

-- ---- the name of a node

-- it is as long as its count says
pub length-name : (slot : Slot) (r : List ℕ) → Node slot → length r ≡ record_size → record_right r ≡ true → length (name_of slot r) ≡ get_or r slot.at 0
unfolding name_of
length-name slot r node long right =
    let n = name-size slot r node right in
    let s = (slot_inside slot node).1 in
    length_part (slot.at + 1) (get_or r slot.at 0) r (omega arith)

-- ---- the entries

-- each entry of a list
abbrev pub EachOf : (Entry → Type 0) → List Entry → Type 0
EachOf P [] = Unit
EachOf P (e ∷ es) = P e × EachOf P es

pub each_append : (P : Entry → Type 0) (xs ys : List Entry) → EachOf P xs → EachOf P ys → EachOf P (xs ++ ys)
each_append P [] ys p q = q
each_append P (x ∷ xs) ys p q = (p.0, each_append P xs ys p.1 q)

each_if : (P : Entry → Type 0) (b : Bool) (e : Entry) → (b ≡ true → P e) → EachOf P (cond b (e ∷ []) [])
each_if P true e p = (p refl, tt)
each_if P false e p = tt

-- an entry of the list that goes to `sent`: its name fits, and is not the sender's
pub record Listable (sent : List ℕ) (e : Entry) : Type 0 where
  pub size : length e.name ≤ most_name
  pub other : same_name e.name sent ≡ false

module _ (sent r : List ℕ) (long : length r ≡ record_size) (right : record_right r ≡ true) where
  -- "A name equal to the sender's is never listed"
  pub listed-each : (slot : Slot) (type : ℕ) → Node slot → EachOf (Listable sent) (listed slot type sent r)
  unfolding listed
  listed-each slot type node =
      let n = length-name slot r node long right in
      let k = name-size slot r node right in
      each_if (Listable sent) (registered slot r && not (same_name (name_of slot r) sent)) (record { node = slot.number; type = type; name = name_of slot r })
      (λ e. record { size = omega arith; other = not-true (same_name (name_of slot r) sent) (and_parts (registered slot r) _ e).1 })

  pub cancel_list-each : (slot : Slot) (type : Option ℕ) → Node slot → EachOf (Listable sent) (cancel_list slot type sent r)
  unfolding cancel_list
  cancel_list-each slot none node = tt
  cancel_list-each slot (some type) node = listed-each slot type node

  pub updated-each : (own other : Slot) (own_type : ℕ) (type : Option ℕ) (i : ℕ) (t : List ℕ) → Node own → Node other
      → EachOf (Listable sent) (updated own other own_type type sent r i t).entries
  unfolding updated
  updated-each own other own_type type i t o p =
      each_append (Listable sent) (listed own own_type sent r) (cancel_list other type sent r) (listed-each own own_type o) (cancel_list-each other type p)

few_if : (b : Bool) (e : Entry) → length (cond b (e ∷ []) []) ≤ 1
few_if true e = omega arith
few_if false e = omega arith

pub listed-few : (slot : Slot) (type : ℕ) (sent r : List ℕ) → length (listed slot type sent r) ≤ 1
unfolding listed
listed-few slot type sent r = few_if (registered slot r && not (same_name (name_of slot r) sent)) _

pub cancel_list-few : (slot : Slot) (type : Option ℕ) (sent r : List ℕ) → length (cancel_list slot type sent r) ≤ 1
unfolding cancel_list
cancel_list-few slot none sent r = omega arith
cancel_list-few slot (some type) sent r = listed-few slot type sent r

-- "two entries"
pub updated-few : (own other : Slot) (own_type : ℕ) (type : Option ℕ) (sent r : List ℕ) (i : ℕ) (t : List ℕ) → length (updated own other own_type type sent r i t).entries ≤ most_entries
unfolding updated
updated-few own other own_type type sent r i t =
    let a = listed-few own own_type sent r in
    let b = cancel_list-few other type sent r in
    simp length-append (omega arith)

-- ---- their bytes

pub length_entry : (e : Entry) → length e.name ≤ most_name → length (entry_bytes e) ≡ entry_size
unfolding entry_bytes
length_entry e h = simp (length-append, length-replicate) (omega arith)

-- the entries one after another
unfoldable pub list_bytes : List Entry → List ℕ
list_bytes [] = []
list_bytes (e ∷ es) = entry_bytes e ++ list_bytes es

pub list_bytes_append : (xs ys : List Entry) → list_bytes (xs ++ ys) ≡ list_bytes xs ++ list_bytes ys
unfolding list_bytes
list_bytes_append [] ys = refl
list_bytes_append (x ∷ xs) ys = ap (λ (l : List ℕ). entry_bytes x ++ l) (list_bytes_append xs ys) ∙ sym (append_assoc (entry_bytes x) (list_bytes xs) (list_bytes ys))

pub length_list_bytes : (sent : List ℕ) (es : List Entry) → EachOf (Listable sent) es → length (list_bytes es) ≡ entry_size * length es
unfolding list_bytes
length_list_bytes sent [] p = refl
length_list_bytes sent (e ∷ es) p =
    let n = length_entry e p.0.size in
    let k = length_list_bytes sent es p.1 in
    simp length-append (omega arith)

-- "Unused entries are zero.": the entries, and zeros behind them
pub cancel_bytes-list : (n : ℕ) (sent : List ℕ) (es : List Entry) → EachOf (Listable sent) es → length es ≤ n → cancel_bytes n es ≡ list_bytes es ++ replicate (entry_size * n - length (list_bytes es)) 0
unfolding cancel_bytes list_bytes
cancel_bytes-list zero sent [] p h = refl
cancel_bytes-list zero sent (e ∷ es) p h = absurd (omega arith)
cancel_bytes-list (suc n) sent [] p h =
    let k : entry_size + (entry_size * n - 0) ≡ entry_size * suc n - 0 = omega arith in
    ap (λ (l : List ℕ). replicate entry_size 0 ++ l) (cancel_bytes-list n sent [] tt (omega arith))
    ∙ replicate-append-replicate {A = ℕ} entry_size (entry_size * n - 0) 0
    ∙ ap (λ (j : ℕ). replicate j 0) k
cancel_bytes-list (suc n) sent (e ∷ es) p h =
    let a = entry_bytes e in
    let b = list_bytes es in
    let k : length (a ++ b) ≡ entry_size + length b = length-append a b ∙ ap (λ (j : ℕ). j + length b) (length_entry e p.0.size) in
    let z : entry_size * n - length b ≡ entry_size * suc n - length (a ++ b) = omega arith in
    ap (λ (l : List ℕ). a ++ l) (cancel_bytes-list n sent es p.1 (omega arith))
    ∙ sym (append_assoc a b (replicate (entry_size * n - length b) 0))
    ∙ ap (λ (j : ℕ). (a ++ b) ++ replicate j 0) z

-- "Every answered request writes all 136 bytes"
pub length-cancel_bytes : (n : ℕ) (sent : List ℕ) (es : List Entry) → EachOf (Listable sent) es → length (cancel_bytes n es) ≡ entry_size * n
unfolding cancel_bytes
length-cancel_bytes zero sent es p = refl
length-cancel_bytes (suc n) sent [] p =
    let k = length-cancel_bytes n sent [] tt in
    simp (length-append, length-replicate) (omega arith)
length-cancel_bytes (suc n) sent (e ∷ es) p =
    let a = length_entry e p.0.size in
    let k = length-cancel_bytes n sent es p.1 in
    simp length-append (omega arith)

-- no node to cancel
pub no_entries : cancel_bytes most_entries [] ≡ replicate cancel_size 0
unfolding cancel_bytes
no_entries = refl
