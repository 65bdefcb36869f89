-- The entries of the cancel buffer, read back from its bytes; which nodes are among them.
-- Assumes nothing.
use mathlib.Core.Path.{◌≡◌, refl, sym, ap, ◌∙◌}
use mathlib.Core.Logic.{◌≢◌}
use mathlib.Core.Bool.{Bool, true, false, cond, ◌&&◌, ◌||◌, not}
use mathlib.Core.Option.{Option, none, some}
use mathlib.Core.List.{List, [], ◌∷◌, ◌++◌, append_assoc, append-nil}
use Prim.Native.Nat.{ℕ, zero, suc, ◌+◌, ◌-◌, ◌≤◌}
use native.Mathlib.Nat.{add-zero}
use native.Mathlib.Omega.{arith}
use lib.Dec.{ltb, eqb}
use lib.ListN.{length, take, drop, get_or, replicate, length-append, length-replicate}
use lib.Seq.{take_at, get_or-append-add}
use borrow.Author.Tests.{ltb-false, eqb-false, ne_eqb}
use Rattle.wire.specs.Put.{part, put}
use Rattle.wire.proofs.ListLaws.{part-append-right}
use Rattle.wire.proofs.StretchLaws.{same-equal, same_differ}
use Rattle.paper.specs.Layout.{record_size, most_name, entry_size, most_entries}
use Rattle.paper.specs.Table.{record_right, Slot, name_of}
use Rattle.paper.specs.Procedures.{Entry, same_name, registered, listed, cancel_list, entry_bytes, cancel_bytes}
use Rattle.paper.specs.Read.{entry_at, entries_in, entry_laid, list_laid, of_nodes, of_node, listing}
use Rattle.paper.specs.ReadBack.{ListRead}
use Rattle.paper.proofs.FieldLaws.{Node, name-size}
use Rattle.paper.proofs.EntryLaws.{length-name, length_entry, EachOf}
use Rattle.paper.proofs.ListedLaws.{Numbered, node-number}
use Rattle.paper.proofs.PromiseFields.{Other, sgsn_of_mme, mme_of_sgsn}

-- ---- read back

-- an entry that can be told from an unused one, and whose name fits
pub record Readable (e : Entry) : Type 0 where
  pub node : Numbered e
  pub size : length e.name ≤ most_name

not_unused : (e : Entry) → Numbered e → e.node ≢ 0
not_unused e n q = omega arith

module _ (a : List ℕ) (e : Entry) (b : List ℕ) where
  byte_of : (j : ℕ) → get_or (a ++ (entry_bytes e ++ b)) (length a + j) 0 ≡ get_or (entry_bytes e ++ b) j 0
  byte_of j = get_or-append-add a (entry_bytes e ++ b) j 0

  node-read : get_or (a ++ (entry_bytes e ++ b)) (length a) 0 ≡ e.node
  unfolding entry_bytes
  node-read = ap (λ (j : ℕ). get_or (a ++ (entry_bytes e ++ b)) j 0) (sym (add-zero (length a))) ∙ byte_of 0

  name-read : part (length a + 4) (length e.name) (a ++ (entry_bytes e ++ b)) ≡ e.name
  unfolding entry_bytes
  name-read =
      part-append-right 4 (length e.name) a (entry_bytes e ++ b)
      ∙ ap (take (length e.name)) (append_assoc e.name (replicate (most_name - length e.name) 0) b)
      ∙ take_at e.name (replicate (most_name - length e.name) 0 ++ b) (length e.name) refl

  entry_read : entry_at (length a) (a ++ (entry_bytes e ++ b)) ≡ e
  unfolding entry_bytes
  entry_read =
      let named : part (length a + 4) (get_or (a ++ (entry_bytes e ++ b)) (length a + 2) 0) (a ++ (entry_bytes e ++ b)) ≡ e.name =
      ap (λ (n : ℕ). part (length a + 4) n (a ++ (entry_bytes e ++ b))) (byte_of 2) ∙ name-read in
      λ i. record { node = node-read i; type = byte_of 1 i; name = named i }

-- the entries that stand behind `a`, whatever stands behind them
entries-behind : (n : ℕ) (a : List ℕ) (es : List Entry) (b : List ℕ) → EachOf Readable es → length es ≤ n → entries_in n (length a) (a ++ (cancel_bytes n es ++ b)) ≡ es
unfolding entries_in cancel_bytes
entries-behind zero a [] b r h = refl
entries-behind zero a (e ∷ es) b r h = absurd (omega arith)
entries-behind (suc n) a [] b r h =
    let z : get_or (a ++ ((replicate entry_size 0 ++ cancel_bytes n []) ++ b)) (length a) 0 ≡ 0 =
    ap (λ (j : ℕ). get_or (a ++ ((replicate entry_size 0 ++ cancel_bytes n []) ++ b)) j 0) (sym (add-zero (length a)))
    ∙ get_or-append-add a ((replicate entry_size 0 ++ cancel_bytes n []) ++ b) 0 0 in
    rw z
entries-behind (suc n) a (e ∷ es) b r h =
    let c = cancel_bytes n es in
    let joined : a ++ ((entry_bytes e ++ c) ++ b) ≡ a ++ (entry_bytes e ++ (c ++ b)) = ap (λ (l : List ℕ). a ++ l) (append_assoc (entry_bytes e) c b) in
    let after : a ++ (entry_bytes e ++ (c ++ b)) ≡ (a ++ entry_bytes e) ++ (c ++ b) = sym (append_assoc a (entry_bytes e) (c ++ b)) in
    let size : length a + entry_size ≡ length (a ++ entry_bytes e) = sym (length-append a (entry_bytes e) ∙ ap (λ (k : ℕ). length a + k) (length_entry e r.0.size)) in
    let others : entries_in n (length a + entry_size) (a ++ (entry_bytes e ++ (c ++ b))) ≡ es =
    ap (λ (k : ℕ). entries_in n k (a ++ (entry_bytes e ++ (c ++ b)))) size
    ∙ ap (λ (l : List ℕ). entries_in n (length (a ++ entry_bytes e)) l) after
    ∙ entries-behind n (a ++ entry_bytes e) es b r.1 (omega arith) in
    let used : eqb (get_or (a ++ (entry_bytes e ++ (c ++ b))) (length a) 0) 0 ≡ false = ap (λ (k : ℕ). eqb k 0) (node-read a e (c ++ b)) ∙ ne_eqb e.node 0 (not_unused e r.0.node) in
    rw (joined, used, entry_read a e (c ++ b), others)

-- the entries of a cancel buffer to which they were written
pub entries_back : (es : List Entry) (c : List ℕ) → EachOf Readable es → length es ≤ most_entries → entries_in most_entries 0 (put 0 (cancel_bytes most_entries es) c) ≡ es
unfolding put
entries_back es c r h = entries-behind most_entries [] es (drop (0 + length (cancel_bytes most_entries es)) c) r h

-- ---- byte for byte

one_of_two : (n : ℕ) → 1 ≤ n → n ≤ 2 → eqb n 1 || eqb n 2 ≡ true
one_of_two n h k = go (eqb n 1) refl
  where
    go : (b : Bool) → eqb n 1 ≡ b → b || eqb n 2 ≡ true
    go true e = refl
    go false e =
        let other : n ≢ 1 = λ q. eqb-false n 1 e q in
        let two : n ≡ 2 = omega arith in
        rw two

of_nodes_lem : (es : List Entry) → EachOf Readable es → of_nodes es ≡ true
unfolding of_nodes
of_nodes_lem [] r = refl
of_nodes_lem (e ∷ es) r = let n = r.0.node in rw (one_of_two e.node n.0 n.1, of_nodes_lem es r.1)

laid_entry : (e : Entry) → entry_bytes e ≡ entry_laid e
unfolding entry_bytes entry_laid
laid_entry e = refl

laid_length : (e : Entry) → length e.name ≤ most_name → length (entry_laid e) ≡ 68
laid_length e h = ap length (sym (laid_entry e)) ∙ length_entry e h

laid_list : (es : List Entry) → length es ≤ 2 → cancel_bytes 2 es ≡ list_laid es
unfolding cancel_bytes list_laid
laid_list [] h = refl
laid_list (e ∷ []) h = rw (laid_entry e)
laid_list (e ∷ f ∷ []) h = rw (laid_entry e, laid_entry f, append-nil (entry_laid f))
laid_list (e ∷ f ∷ g ∷ es) h = absurd (omega arith)

length_laid : (es : List Entry) → EachOf Readable es → length (list_laid es) ≡ 136
unfolding list_laid
length_laid [] r = refl
length_laid (e ∷ []) r = let n = laid_length e r.0.size in simp (length-append, length-replicate) (omega arith)
length_laid (e ∷ f ∷ es) r =
    let n = laid_length e r.0.size in
    let k = laid_length f r.1.0.size in
    simp length-append (omega arith)

pub list_read : (es : List Entry) (c : List ℕ) → EachOf Readable es → length es ≤ 2 → ListRead (put 0 (cancel_bytes 2 es) c) es
unfolding put
list_read es c r h = record { most = h; nodes = of_nodes_lem es r; bytes = rw (laid_list es h) (take_at (list_laid es) (drop (0 + length (list_laid es)) c) 136 (length_laid es r)) }

-- ---- a node is listed, or not

module _ (slot : Slot) (r sent : List ℕ) (node : Node slot) (long : length r ≡ record_size) (right : record_right r ≡ true) where
  pub registered-named : name_of slot r ≢ [] → registered slot r ≡ true
  unfolding name_of
  registered-named ne = go (ltb 0 (get_or r slot.at 0)) refl
    where
      go : (b : Bool) → ltb 0 (get_or r slot.at 0) ≡ b → ltb 0 (get_or r slot.at 0) ≡ true
      go true q = q
      go false q =
          let z : get_or r slot.at 0 ≡ 0 = let k = ltb-false 0 (get_or r slot.at 0) q in omega arith in
          absurd (ne (ap (λ (n : ℕ). part (slot.at + 1) n r) z))

  pub unregistered_unnamed : name_of slot r ≡ [] → registered slot r ≡ false
  unregistered_unnamed e =
      let n : get_or r slot.at 0 ≡ 0 = sym (length-name slot r node long right) ∙ ap length e in
      ap (ltb 0) n

  pub listed-other : (type : ℕ) → name_of slot r ≢ [] → name_of slot r ≢ sent → listed slot type sent r ≡ listing slot type r ∷ []
  unfolding listed same_name
  listed-other type named other = rw (registered-named named, same_differ (name_of slot r) sent other)

  pub listed-sender : (type : ℕ) → name_of slot r ≡ sent → listed slot type sent r ≡ []
  unfolding listed same_name
  listed-sender type e = rw (same-equal (name_of slot r) sent e) (go (registered slot r))
    where
      go : (b : Bool) → cond (b && false) (listing slot type r ∷ []) [] ≡ []
      go true = refl
      go false = refl

  pub listed_none : (type : ℕ) → name_of slot r ≡ [] → listed slot type sent r ≡ []
  unfolding listed
  listed_none type e = rw (unregistered_unnamed e)

  each_if : (b : Bool) (type : ℕ) → EachOf Readable (cond b (listing slot type r ∷ []) [])
  each_if true type =
      let n = length-name slot r node long right in
      let k = name-size slot r node right in
      (record { node = node-number slot node; size = omega arith }, tt)
  each_if false type = tt

  pub listed-readable : (type : ℕ) → EachOf Readable (listed slot type sent r)
  unfolding listed
  listed-readable type = each_if (registered slot r && not (same_name (name_of slot r) sent)) type

  pub cancel_list-readable : (type : Option ℕ) → EachOf Readable (cancel_list slot type sent r)
  unfolding cancel_list
  cancel_list-readable none = tt
  cancel_list-readable (some type) = listed-readable type

-- ---- of two nodes

own_if : {own other : Slot} → Other own other → (b : Bool) (r : List ℕ) (type : ℕ) → of_node own (cond b (listing own type r ∷ []) []) ≡ cond b (listing own type r ∷ []) []
unfolding of_node
own_if sgsn_of_mme true r type = refl
own_if sgsn_of_mme false r type = refl
own_if mme_of_sgsn true r type = refl
own_if mme_of_sgsn false r type = refl

other_if : {own other : Slot} → Other own other → (b : Bool) (r : List ℕ) (type : ℕ) → of_node other (cond b (listing own type r ∷ []) []) ≡ []
unfolding of_node
other_if sgsn_of_mme true r type = refl
other_if sgsn_of_mme false r type = refl
other_if mme_of_sgsn true r type = refl
other_if mme_of_sgsn false r type = refl

pub listed-own : {own other : Slot} → Other own other → (type : ℕ) (sent r : List ℕ) → of_node own (listed own type sent r) ≡ listed own type sent r
unfolding listed
listed-own {own} o type sent r = own_if o (registered own r && not (same_name (name_of own r) sent)) r type

pub listed-not-other : {own other : Slot} → Other own other → (type : ℕ) (sent r : List ℕ) → of_node other (listed own type sent r) ≡ []
unfolding listed
listed-not-other {own} o type sent r = other_if o (registered own r && not (same_name (name_of own r) sent)) r type

pub cancel_list-own : {own other : Slot} → Other own other → (type : Option ℕ) (sent r : List ℕ) → of_node own (cancel_list own type sent r) ≡ cancel_list own type sent r
unfolding cancel_list of_node
cancel_list-own o none sent r = refl
cancel_list-own o (some type) sent r = listed-own o type sent r

pub cancel_list-not-other : {own other : Slot} → Other own other → (type : Option ℕ) (sent r : List ℕ) → of_node other (cancel_list own type sent r) ≡ []
unfolding cancel_list of_node
cancel_list-not-other o none sent r = refl
cancel_list-not-other o (some type) sent r = listed-not-other o type sent r

pub of_node-append : (slot : Slot) (xs ys : List Entry) → of_node slot (xs ++ ys) ≡ of_node slot xs ++ of_node slot ys
unfolding of_node
of_node-append slot [] ys = refl
of_node-append slot (x ∷ xs) ys = go (eqb x.node slot.number) (of_node-append slot xs ys)
  where
    go : (b : Bool) → of_node slot (xs ++ ys) ≡ of_node slot xs ++ of_node slot ys
        → cond b (x ∷ of_node slot (xs ++ ys)) (of_node slot (xs ++ ys)) ≡ cond b (x ∷ of_node slot xs) (of_node slot xs) ++ of_node slot ys
    go true h = ap (λ (l : List Entry). x ∷ l) h
    go false h = h
