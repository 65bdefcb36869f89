-- What a promise reads of a record after each store of 01: the names, the purge bits, the IMEI.
-- Assumes nothing.
use mathlib.Core.Path.{◌≡◌, refl, sym, ap, ◌∙◌}
use mathlib.Core.Bool.{true, false}
use mathlib.Core.Logic.{◌⊎◌, inl, inr}
use mathlib.Core.List.{List, [], ◌∷◌}
use Prim.Native.Nat.{ℕ, ◌+◌, ◌-◌, ◌/◌, ◌%◌, ◌^◌, ◌≤◌, ◌<◌}
use native.Mathlib.Nat.{add-zero}
use native.Mathlib.Omega.{arith}
use lib.Dec.{eqb}
use lib.ListN.{length, get_or, replicate}
use lib.Seq.{take_at}
use Rattle.std.proofs.lemmas.Bool.{and_parts}
use Rattle.wire.specs.Put.{part, put}
use Rattle.wire.proofs.ListLaws.{get_d_part, part-part}
use Rattle.wire.proofs.PutLaws.{length-put, part-put, part-other, put-before}
use Rattle.paper.specs.Layout.{record_size, purged_at, most_name, imei_at, most_digits}
use Rattle.paper.specs.Table.{record_right, record_of, count_of, valid, counted, imei_right, Slot, mme, sgsn, name_of}
use Rattle.paper.specs.Fields.{filled, with_bit, without_bit, store_node, store_purged, store_imei}
use Rattle.paper.specs.Read.{purged_in, imei_in}
use Rattle.paper.specs.Promises.{Kept}
use Rattle.paper.proofs.RecordLaws.{imei_count}
use Rattle.paper.proofs.FieldLaws.{Node, the_mme, the_sgsn, slot_inside, name-size, purged-size, right_parts, bit_cleared, bit-set, first-put, length-filled, cleared_right, with_node}
use Rattle.paper.proofs.TableLaws.{own-store}
use Rattle.paper.proofs.StoreLaws.{replaced_node, inside-valid, right_valid, long-valid}
use Rattle.paper.proofs.PromiseTests.{below_six}

-- ---- a counted field

-- as many bytes as its count says: a name, an IMEI
abbrev held_at : ℕ → List ℕ → List ℕ
held_at at r = part (at + 1) (get_or r at 0) r

-- it is read from its own bytes alone
pub first_of_field : (at n : ℕ) (r : List ℕ) → get_or (part at (1 + n) r) 0 0 ≡ get_or r at 0
first_of_field at n r = get_d_part at (1 + n) r 0 (omega arith) ∙ ap (λ (j : ℕ). get_or r j 0) (add-zero at)

held_field : (most at : ℕ) (r : List ℕ) → get_or r at 0 ≤ most → held_at at r ≡ held_at 0 (part at (1 + most) r)
held_field most at r h =
    sym (ap (λ (n : ℕ). part 1 n (part at (1 + most) r)) (first_of_field at most r) ∙ part-part at (1 + most) 1 (get_or r at 0) r (omega arith))

held_filled : (most : ℕ) (xs : List ℕ) → held_at 0 (filled most xs) ≡ xs
unfolding filled
held_filled most xs = take_at xs (replicate (most - length xs) 0) (length xs) refl

filled-first : (most : ℕ) (xs : List ℕ) → get_or (filled most xs) 0 0 ≡ length xs
unfolding filled
filled-first most xs = refl

held_put : (most at : ℕ) (xs r : List ℕ) → at ≤ length r → length xs ≤ most → held_at at (put at (filled most xs) r) ≡ xs
held_put most at xs r inside few =
    let n = length-filled most xs few in
    let count : get_or (put at (filled most xs) r) at 0 ≡ length xs = first-put at (filled most xs) r inside (omega arith) ∙ filled-first most xs in
    let field : part at (1 + most) (put at (filled most xs) r) ≡ filled most xs = rw n at (part-put at (filled most xs) r inside) in
    held_field most at (put at (filled most xs) r) (omega arith) ∙ ap (held_at 0) field ∙ held_filled most xs

held_kept : (most at : ℕ) (r r' : List ℕ) → get_or r at 0 ≤ most → part at (1 + most) r' ≡ part at (1 + most) r → held_at at r' ≡ held_at at r
held_kept most at r r' few same =
    let count : get_or r' at 0 ≡ get_or r at 0 = sym (first_of_field at most r') ∙ ap (λ (s : List ℕ). get_or s 0 0) same ∙ first_of_field at most r in
    held_field most at r' (omega arith) ∙ ap (held_at 0) same ∙ sym (held_field most at r few)

-- ---- the two nodes, and the purge bits

pub data Other : Slot → Slot → Type 0 where
  sgsn_of_mme : Other mme sgsn
  mme_of_sgsn : Other sgsn mme

pub own-node : {own other : Slot} → Other own other → Node own
own-node sgsn_of_mme = the_mme
own-node mme_of_sgsn = the_sgsn

pub other-node : {own other : Slot} → Other own other → Node other
other-node sgsn_of_mme = the_sgsn
other-node mme_of_sgsn = the_mme

bit-left : {own other : Slot} → Other own other → (b : ℕ) → b < 6 → eqb (without_bit own.purge_bit b / 2 ^ other.purge_bit % 2) 1 ≡ eqb (b / 2 ^ other.purge_bit % 2) 1
unfolding without_bit
bit-left sgsn_of_mme = below_six (λ b. eqb (without_bit 0 b / 2 ^ 1 % 2) 1 ≡ eqb (b / 2 ^ 1 % 2) 1) refl refl refl refl refl refl
bit-left mme_of_sgsn = below_six (λ b. eqb (without_bit 1 b / 2 ^ 0 % 2) 1 ≡ eqb (b / 2 ^ 0 % 2) 1) refl refl refl refl refl refl

bit_added : {own other : Slot} → Other own other → (b : ℕ) → b < 6 → eqb (with_bit own.purge_bit b / 2 ^ other.purge_bit % 2) 1 ≡ eqb (b / 2 ^ other.purge_bit % 2) 1
unfolding with_bit
bit_added sgsn_of_mme = below_six (λ b. eqb (with_bit 0 b / 2 ^ 1 % 2) 1 ≡ eqb (b / 2 ^ 1 % 2) 1) refl refl refl refl refl refl
bit_added mme_of_sgsn = below_six (λ b. eqb (with_bit 1 b / 2 ^ 0 % 2) 1 ≡ eqb (b / 2 ^ 0 % 2) 1) refl refl refl refl refl refl

-- the fields of the two nodes and of the IMEI lie apart
apart_nodes : {own other : Slot} → Other own other → (own.at + 65 ≤ other.at) ⊎ (other.at + 65 ≤ own.at)
apart_nodes sgsn_of_mme = inl (omega arith)
apart_nodes mme_of_sgsn = inr (omega arith)

pub imei-few : (r : List ℕ) → record_right r ≡ true → get_or r imei_at 0 ≤ most_digits
unfolding imei_right counted
imei-few r right = imei_count (get_or r imei_at 0) (and_parts _ _ (right_parts r right).imei).0

-- ---- one put into a record of a valid table

module _ (r : List ℕ) (long : length r ≡ record_size) (right : record_right r ≡ true) where
  -- the bytes of a field apart from what was put
  name_kept : (slot : Slot) (at : ℕ) (xs : List ℕ) → Node slot → at + length xs ≤ record_size → (slot.at + 65 ≤ at) ⊎ (at + length xs ≤ slot.at)
      → name_of slot (put at xs r) ≡ name_of slot r
  unfolding name_of
  name_kept slot at xs node fits apart =
      held_kept most_name slot.at r (put at xs r) (name-size slot r node right) (part-other at slot.at (1 + most_name) xs r (rw long fits) apart)

  imei_kept : (at : ℕ) (xs : List ℕ) → at + length xs ≤ imei_at → imei_in (put at xs r) ≡ imei_in r
  imei_kept at xs below = held_kept most_digits imei_at r (put at xs r) (imei-few r right) (part-other at imei_at (1 + most_digits) xs r (omega arith) (inr below))

-- ---- each store, as a promise reads it

-- "the name becomes Origin-Host; its purge bit is cleared"; with no bytes for a name, both are cleared
pub record Registered (own other : Slot) (name r r' : List ℕ) : Type 0 where
  pub named : name_of own r' ≡ name
  pub unpurged : purged_in own r' ≡ false
  pub other_kept : Kept other r r'
  pub imei-same : imei_in r' ≡ imei_in r

-- "gets its purge bit"
pub record PurgeSet (own other : Slot) (r r' : List ℕ) : Type 0 where
  pub set : purged_in own r' ≡ true
  pub own_name : name_of own r' ≡ name_of own r
  pub other_kept : Kept other r r'
  pub imei-same : imei_in r' ≡ imei_in r

-- "IMEI, if there, is stored."
pub record ImeiSet (imei r r' : List ℕ) : Type 0 where
  pub held : imei_in r' ≡ imei
  pub nodes : (slot : Slot) → Node slot → Kept slot r r'

module _ (r : List ℕ) (long : length r ≡ record_size) (right : record_right r ≡ true) where
  -- another byte of purge bits
  byte_put : (b : ℕ) → get_or (put purged_at (b ∷ []) r) purged_at 0 ≡ b
  byte_put b = first-put purged_at (b ∷ []) r (omega arith) (omega arith)

  bits_name : (slot : Slot) (b : ℕ) → Node slot → name_of slot (put purged_at (b ∷ []) r) ≡ name_of slot r
  bits_name slot b the_mme = name_kept r long right mme purged_at (b ∷ []) the_mme (omega arith) (inr (omega arith))
  bits_name slot b the_sgsn = name_kept r long right sgsn purged_at (b ∷ []) the_sgsn (omega arith) (inr (omega arith))

  pub purge-read : {own other : Slot} → Other own other → PurgeSet own other r (put purged_at (with_bit own.purge_bit (get_or r purged_at 0) ∷ []) r)
  purge-read {own} {other} o =
      let b = get_or r purged_at 0 in
      let small = purged-size r right in
      record {
        set = rw (byte_put (with_bit own.purge_bit b)) (bit-set own (own-node o) b small);
        own_name = bits_name own _ (own-node o);
        other_kept = record { name = bits_name other _ (other-node o); purged = rw (byte_put (with_bit own.purge_bit b)) (bit_added o b (omega arith)) };
        imei-same = imei_kept r long right purged_at _ (omega arith);
      }

  pub imei-read : (imei : List ℕ) → length imei ≤ most_digits → ImeiSet imei r (put imei_at (filled most_digits imei) r)
  imei-read imei few =
      let n = length-filled most_digits imei few in
      record {
        held = held_put most_digits imei_at imei r (omega arith) few;
        nodes = λ slot node.
            let s = below slot node in
            record {
              name = name_kept r long right slot imei_at (filled most_digits imei) node (omega arith) (inl s);
              purged = ap (λ (b : ℕ). eqb (b / 2 ^ slot.purge_bit % 2) 1) (put-before imei_at purged_at (filled most_digits imei) r (omega arith) (omega arith));
            };
      }
    where
      below : (slot : Slot) → Node slot → slot.at + 65 ≤ imei_at
      below slot the_mme = omega arith
      below slot the_sgsn = omega arith

-- a name stored behind the purge bits
node-read : {own other : Slot} (o : Other own other) (name r : List ℕ) → length r ≡ record_size → record_right r ≡ true → length name ≤ most_name
    → Registered own other name r (with_node own.at own.purge_bit name r)
unfolding name_of
node-read {own} {other} o name r long right few =
    let b = get_or r purged_at 0 in
    let b' = without_bit own.purge_bit b in
    let r₁ = put purged_at (b' ∷ []) r in
    let long₁ : length r₁ ≡ record_size = length-put purged_at (b' ∷ []) r (omega arith) ∙ long in
    let right₁ : record_right r₁ ≡ true = cleared_right own r (own-node o) long right in
    let n = length-filled most_name name few in
    let small = purged-size r right in
    let s = slot_inside own (own-node o) in
    let far = far_off o in
    let byte : get_or (put own.at (filled most_name name) r₁) purged_at 0 ≡ b' =
    put-before own.at purged_at (filled most_name name) r₁ (omega arith) (omega arith) ∙ byte_put r long right b' in
    record {
      named = stored own r₁ long₁ (own-node o);
      unpurged = rw byte (bit_cleared own (own-node o) b small);
      other_kept = record {
        name = name_kept r₁ long₁ right₁ other own.at (filled most_name name) (other-node o) (omega arith) (rw n far.1) ∙ bits_name r long right other b' (other-node o);
        purged = rw byte (bit-left o b (omega arith));
      };
      imei-same = imei_kept r₁ long₁ right₁ own.at (filled most_name name) (rw n far.0) ∙ imei_kept r long right purged_at (b' ∷ []) (omega arith);
    }
  where
    far_off : {own other : Slot} → Other own other → (own.at + (1 + most_name) ≤ imei_at) × ((other.at + 65 ≤ own.at) ⊎ (own.at + (1 + most_name) ≤ other.at)) × (purged_at < own.at)
    far_off sgsn_of_mme = (omega arith, inr (omega arith), omega arith)
    far_off mme_of_sgsn = (omega arith, inl (omega arith), omega arith)

    stored : (slot : Slot) (r₁ : List ℕ) → length r₁ ≡ record_size → Node slot → name_of slot (put slot.at (filled most_name name) r₁) ≡ name
    stored slot r₁ long₁ node = let s = slot_inside slot node in held_put most_name slot.at name r₁ (omega arith) few

-- ---- over the table

module _ (i : ℕ) (t : List ℕ) (e : valid t ≡ true) (h : i < count_of t) where
  pub node-table : {own other : Slot} (o : Other own other) (name : List ℕ) → length name ≤ most_name
      → Registered own other name (record_of t i) (record_of (store_node own.at own.purge_bit i name t) i)
  node-table {own} o name few =
      let s = slot_inside own (own-node o) in
      rw (replaced_node own.at own.purge_bit i name t (inside-valid i t e h) s.1 few).own
      (node-read o name (record_of t i) (long-valid i t e h) (right_valid i t e h) few)

  pub purge-table : {own other : Slot} (o : Other own other) → PurgeSet own other (record_of t i) (record_of (store_purged own.purge_bit i t) i)
  unfolding store_purged
  purge-table {own} o =
      rw (own-store i purged_at (with_bit own.purge_bit (get_or (record_of t i) purged_at 0) ∷ []) t (inside-valid i t e h) (omega arith))
      (purge-read (record_of t i) (long-valid i t e h) (right_valid i t e h) o)

  pub imei-table : (imei : List ℕ) → length imei ≤ most_digits → ImeiSet imei (record_of t i) (record_of (store_imei i imei t) i)
  unfolding store_imei
  imei-table imei few =
      let n = length-filled most_digits imei few in
      rw (own-store i imei_at (filled most_digits imei) t (inside-valid i t e h) (omega arith))
      (imei-read (record_of t i) (long-valid i t e h) (right_valid i t e h) imei few)
