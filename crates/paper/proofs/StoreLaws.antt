-- Each store of 01 replaces one record and keeps the table valid: the change number, the values of a correction, a node, its purge bit, the IMEI.
-- Assumes nothing.
use mathlib.Core.Path.{◌≡◌, refl, sym, ◌∙◌, subst}
use mathlib.Core.Bool.{Bool, true, false, ◌||◌, false≢true}
use mathlib.Core.List.{List, [], ◌∷◌}
use Prim.Native.Nat.{ℕ, ◌+◌, ◌≤◌, ◌<◌}
use native.Mathlib.Omega.{arith}
use lib.Dec.{eqb}
use lib.ListN.{length, take, drop, get_or, length-drop}
use lib.Seq.{length-take-le}
use borrow.Author.Tests.{eqb-true}
use Rattle.wire.specs.Number.{be}
use Rattle.wire.specs.Put.{put}
use Rattle.wire.specs.Stretch.{all_in, name_bytes, digits}
use Rattle.wire.proofs.PutLaws.{length-put}
use Rattle.paper.specs.Layout.{record_size, imsi_size, change_at, subscription_at, restriction_at, plmn_count_at, plmns_at, purged_at, most_name, ambr_at, imei_at, least_imei, most_digits}
use Rattle.paper.specs.Table.{record_right, record_at, record_of, count_of, imsi_of, valid, Slot, store}
use Rattle.paper.specs.Fields.{filled, without_bit, purged_of, store_node, store_purged, store_imei}
use Rattle.paper.specs.Correction.{value_size, value_right, store_value}
use Rattle.paper.specs.Clerks.{with_value}
use Rattle.paper.proofs.FieldLaws.{Node, slot_inside, free_right, change_free, restriction_free, ambr_free, length-filled, subscription-right, plmns_right_lem, purged-right, with_node, node-right, imei-right, imei-size}
use Rattle.paper.proofs.TableLaws.{valid_parts, valid-whole, record_inside, length_record, Replaced, replaced_store, replaced_more, replaced_valid, imsi-put}

-- ---- a node

pub replaced_node : (at bit i : ℕ) (name t : List ℕ) → record_at i + record_size ≤ length t → at + 1 + most_name ≤ record_size → length name ≤ most_name
    → Replaced i (with_node at bit name (record_of t i)) t (store_node at bit i name t)
unfolding store_node
replaced_node at bit i name t inside fits few =
    let n = length-filled most_name name few in
    replaced_more i at (filled most_name name) _ t _ inside (omega arith)
    (replaced_store i purged_at (without_bit bit (purged_of t i) ∷ []) t inside (omega arith))

imsi-node : (at bit : ℕ) (name r : List ℕ) → length r ≡ record_size → imsi_size ≤ at → at + 1 + most_name ≤ record_size → length name ≤ most_name → imsi_of (with_node at bit name r) ≡ imsi_of r
imsi-node at bit name r long behind fits few =
    let b = without_bit bit (get_or r purged_at 0) in
    let n = length-filled most_name name few in
    let m : length (put purged_at (b ∷ []) r) ≡ record_size = length-put purged_at (b ∷ []) r (omega arith) ∙ long in
    imsi-put at (filled most_name name) (put purged_at (b ∷ []) r) (omega arith) behind ∙ imsi-put purged_at (b ∷ []) r (omega arith) (omega arith)

-- what a store into a record of a valid table starts from
module _ (i : ℕ) (t : List ℕ) (e : valid t ≡ true) (h : i < count_of t) where
  pub inside-valid : record_at i + record_size ≤ length t
  inside-valid = record_inside t i (valid_parts t e).header h

  pub right_valid : record_right (record_of t i) ≡ true
  right_valid = (valid_parts t e).right i h

  pub long-valid : length (record_of t i) ≡ record_size
  long-valid = length_record t i inside-valid

  again : (r t' : List ℕ) → Replaced i r t t' → imsi_of r ≡ imsi_of (record_of t i) → record_right r ≡ true → valid t' ≡ true
  again r t' p imsi right = valid-whole t' (replaced_valid i r t t' p imsi (valid_parts t e) right)

  -- one put behind the IMSI
  stored : (at : ℕ) (xs : List ℕ) → imsi_size ≤ at → at + length xs ≤ record_size → record_right (put at xs (record_of t i)) ≡ true → valid (store i at xs t) ≡ true
  stored at xs behind fits right =
      again (put at xs (record_of t i)) (store i at xs t) (replaced_store i at xs t inside-valid fits)
      (imsi-put at xs (record_of t i) (rw long-valid fits) behind) right

  pub change-valid : (v : ℕ) → valid (store i change_at (be 4 v) t) ≡ true
  change-valid v =
      stored change_at (be 4 v) (omega arith) (omega arith) (free_right change_at 4 (be 4 v) (record_of t i) change_free refl (rw long-valid (omega arith)) right_valid)

  -- "the name becomes Origin-Host; its purge bit is cleared"
  pub node-valid : (slot : Slot) (name : List ℕ) → Node slot → length name ≤ most_name → name_bytes name ≡ true → valid (store_node slot.at slot.purge_bit i name t) ≡ true
  node-valid slot name node few good =
      let s = slot_inside slot node in
      again (with_node slot.at slot.purge_bit name (record_of t i)) (store_node slot.at slot.purge_bit i name t)
      (replaced_node slot.at slot.purge_bit i name t inside-valid s.1 few)
      (imsi-node slot.at slot.purge_bit name (record_of t i) long-valid s.0 s.1 few)
      (node-right slot name (record_of t i) node few good long-valid right_valid)

  -- "name and purge bit are cleared"
  pub cleared_valid : (slot : Slot) → Node slot → valid (store_node slot.at slot.purge_bit i [] t) ≡ true
  unfolding all_in
  cleared_valid slot node = node-valid slot [] node (omega arith) refl

  -- "each registered name [..] gets its purge bit"
  pub purged-valid : (slot : Slot) → Node slot → 0 < get_or (record_of t i) slot.at 0 → valid (store_purged slot.purge_bit i t) ≡ true
  unfolding store_purged
  purged-valid slot node named = stored purged_at _ (omega arith) (omega arith) (purged-right slot (record_of t i) node long-valid named right_valid)

  -- "IMEI, if there, is stored."
  pub imei-valid : (imei : List ℕ) → eqb (length imei) least_imei || eqb (length imei) most_digits ≡ true → digits imei ≡ true → valid (store_imei i imei t) ≡ true
  unfolding store_imei
  imei-valid imei size good =
      let n = length-filled most_digits imei (imei-size imei size) in
      stored imei_at (filled most_digits imei) (omega arith) (omega arith) (imei-right imei (record_of t i) size good long-valid right_valid)

-- ---- the values of a correction

-- the kinds of 01
pub data Corrects : ℕ → Type 0 where
  subscription : Corrects 1
  restriction : Corrects 2
  plmns : Corrects 3
  ambr : Corrects 4

-- a kind whose value has a size is one of them
pub corrects : (kind : ℕ) → eqb (value_size kind) 0 ≡ false → Corrects kind
unfolding value_size
corrects kind e = go_1 (eqb kind 1) refl
  where
    named : (k : ℕ) → Corrects k → eqb kind k ≡ true → Corrects kind
    named k c q = subst Corrects (sym (eqb-true kind k q)) c

    go_4 : eqb kind 1 ≡ false → eqb kind 2 ≡ false → eqb kind 3 ≡ false → (b : Bool) → eqb kind 4 ≡ b → Corrects kind
    go_4 n₁ n₂ n₃ true q = named 4 ambr q
    go_4 n₁ n₂ n₃ false q = let z : true ≡ false = rw (n₁, n₂, n₃, q) at e in absurd (false≢true (sym z))

    go_3 : eqb kind 1 ≡ false → eqb kind 2 ≡ false → (b : Bool) → eqb kind 3 ≡ b → Corrects kind
    go_3 n₁ n₂ true q = named 3 plmns q
    go_3 n₁ n₂ false q = go_4 n₁ n₂ q (eqb kind 4) refl

    go_2 : eqb kind 1 ≡ false → (b : Bool) → eqb kind 2 ≡ b → Corrects kind
    go_2 n₁ true q = named 2 restriction q
    go_2 n₁ false q = go_3 n₁ q (eqb kind 3) refl

    go_1 : (b : Bool) → eqb kind 1 ≡ b → Corrects kind
    go_1 true q = named 1 subscription q
    go_1 false q = go_2 q (eqb kind 2) refl

pub replaced_value : (kind i : ℕ) (v t : List ℕ) → Corrects kind → record_at i + record_size ≤ length t → length v ≡ value_size kind
    → Replaced i (with_value kind v (record_of t i)) t (store_value kind i v t)
unfolding with_value store_value value_size
replaced_value kind i v t subscription inside n = replaced_store i subscription_at v t inside (omega arith)
replaced_value kind i v t restriction inside n = replaced_store i restriction_at v t inside (omega arith)
replaced_value kind i v t plmns inside n =
    let n₁ : length (take 1 v) ≡ 1 = length-take-le 1 v (omega arith) in
    let n₂ : length (drop 1 v) ≡ 24 = simp length-drop (omega arith) in
    replaced_more i plmns_at (drop 1 v) _ t _ inside (omega arith) (replaced_store i plmn_count_at (take 1 v) t inside (omega arith))
replaced_value kind i v t ambr inside n = replaced_store i ambr_at v t inside (omega arith)

-- "15 value not valid in a table": any other value keeps the record right
pub value_right_lem : (kind : ℕ) (v r : List ℕ) → Corrects kind → length v ≡ value_size kind → value_right kind v ≡ true → length r ≡ record_size → record_right r ≡ true → record_right (with_value kind v r) ≡ true
unfolding with_value value_size value_right
value_right_lem kind v r subscription n good long right = subscription-right v r n long good right
value_right_lem kind v r restriction n good long right = free_right restriction_at 4 v r restriction_free n (omega arith) right
value_right_lem kind v r plmns n good long right = plmns_right_lem v r n long good right
value_right_lem kind v r ambr n good long right = free_right ambr_at 8 v r ambr_free n (omega arith) right

pub imsi_value : (kind : ℕ) (v r : List ℕ) → Corrects kind → length v ≡ value_size kind → length r ≡ record_size → imsi_of (with_value kind v r) ≡ imsi_of r
unfolding with_value value_size
imsi_value kind v r subscription n long = imsi-put subscription_at v r (omega arith) (omega arith)
imsi_value kind v r restriction n long = imsi-put restriction_at v r (omega arith) (omega arith)
imsi_value kind v r plmns n long =
    let n₁ : length (take 1 v) ≡ 1 = length-take-le 1 v (omega arith) in
    let n₂ : length (drop 1 v) ≡ 24 = simp length-drop (omega arith) in
    let m : length (put plmn_count_at (take 1 v) r) ≡ record_size = length-put plmn_count_at (take 1 v) r (omega arith) ∙ long in
    imsi-put plmns_at (drop 1 v) (put plmn_count_at (take 1 v) r) (omega arith) (omega arith) ∙ imsi-put plmn_count_at (take 1 v) r (omega arith) (omega arith)
imsi_value kind v r ambr n long = imsi-put ambr_at v r (omega arith) (omega arith)

pub value_valid : (kind i : ℕ) (v t : List ℕ) → Corrects kind → valid t ≡ true → i < count_of t → length v ≡ value_size kind → value_right kind v ≡ true
    → valid (store_value kind i v t) ≡ true
value_valid kind i v t k e h n good =
    let long = long-valid i t e h in
    again i t e h (with_value kind v (record_of t i)) (store_value kind i v t) (replaced_value kind i v t k (inside-valid i t e h) n)
    (imsi_value kind v (record_of t i) k n long) (value_right_lem kind v (record_of t i) k n good long (right_valid i t e h))
