-- The tests of the Experimental results, as the code goes about them.
-- Assumes nothing.
use mathlib.Core.Path.{◌≡◌, refl, sym, ap, ◌∙◌}
use mathlib.Core.Bool.{Bool, true, false, cond, ◌&&◌, ◌||◌, not, and-false, or-false}
use mathlib.Core.Logic.{◌⊎◌, inl, inr, ⊎_elim}
use mathlib.Core.Option.{Option, none, some}
use mathlib.Core.List.{List}
use Prim.Native.Nat.{ℕ, zero, suc, ◌+◌, ◌-◌, ◌*◌, ◌<◌, ◌≤◌}
use native.Mathlib.Numerals.{add-one}
use native.Mathlib.Omega.{arith}
use lib.Dec.{ltb, leb}
use lib.ListN.{length, get_or}
use borrow.Author.Tests.{ltb-true, lt-ltb, le-ltb}
use Rattle.std.proofs.Common.{add-zero, zero-add}
use Rattle.std.proofs.Math.Bool.{or_assoc}
use Rattle.std.specs.Prelude as Got
use denote.Ref.{Bor}
use Rattle.std.specs.Slice.{IsItemAt}
use Rattle.std.specs.Prelude.{None, Some, slice_get, option_copied}
use Rattle.std.specs.List.{list_any, range_with_len}
use Rattle.std.proofs.lemmas.Option.{none-some, slice_get_within, get_or_from_slice_get, slice_get_cases, slice_get_past, slice_get_read}
use Rattle.wire.specs.Put.{part}
use Rattle.wire.specs.Stretch.{same}
use Rattle.wire.proofs.TableLaws.{at_each}
use Rattle.paper.specs.Avp.{bit}
use Rattle.paper.specs.Layout.{subscription_at, plmn_count_at, plmns_at, plmn_size}
use Rattle.paper.specs.Table.{mme, sgsn}
use Rattle.paper.specs.Procedures.{code_if, is_sender, stranger, unsubscribed, rat_bits, rat_refused, restriction_of, has_plmn, plmn_refused, other_type}
use Rattle.paper.specs.Reader.{or_else}
use Rattle.procedures.specs.Values.{bit_of_rat, refused_update}

-- ---- the RAT array

pub got_at : (xs : List ℕ) (k : ℕ) (r : Got.Option (Bor ℕ)) → IsItemAt xs k r → option_copied r ≡ slice_get xs k
got_at xs k None p = sym (slice_get_past xs k p.3)
got_at xs k (Some x) p = sym (slice_get_read xs (length xs) k x.now refl p.3.0 p.1)

got_none : (xs : List ℕ) (k : ℕ) → slice_get xs k ≡ None → length xs ≤ k
got_none xs k e = ⊎_elim (λ w. absurd (none-some w.0 (sym e ∙ w.2))) (λ w. w.0) (slice_get_cases xs k).1

some_if : (t : Bool) (o : Got.Option ℕ) (b : ℕ) → cond t o None ≡ Some b → (t ≡ true) × (o ≡ Some b)
some_if true o b e = (refl, e)
some_if false o b e = absurd (none-some b e)

none_if : (t : Bool) (o : Got.Option ℕ) → cond t o None ≡ None → (t ≡ false) ⊎ (o ≡ None)
none_if true o e = inr e
none_if false o e = inl refl

-- an entry is a bit of a u32
pub rat_entry_small : (k : ℕ) → k < length rat_bits → get_or rat_bits k 0 < 32
unfolding rat_bits
rat_entry_small k h = ltb-true (get_or rat_bits k 0) 32 (at_each 0 (λ (i x : ℕ). ltb x 32) rat_bits refl k h)

-- the test as the code makes it: by the bit of the RAT-Type, if it has one
module _ (rat restriction : ℕ) where
  module _ (b : ℕ) (e : bit_of_rat rat ≡ Some b) where
    found : (leb 1000 rat ≡ true) × (slice_get rat_bits (rat - 1000) ≡ Some b)
    unfolding bit_of_rat
    found = some_if (leb 1000 rat) (slice_get rat_bits (rat - 1000)) b e

    pub rat_bit_small : b < 32
    rat_bit_small =
        let small = rat_entry_small (rat - 1000) (slice_get_within rat_bits (rat - 1000) b found.1) in
        rw (get_or_from_slice_get rat_bits (rat - 1000) b 0 found.1) at small

    pub refused-by_bit : bit b restriction ≡ rat_refused rat restriction
    unfolding rat_refused
    refused-by_bit =
        rw (found.0, lt-ltb (rat - 1000) (length rat_bits) (slice_get_within rat_bits (rat - 1000) b found.1), get_or_from_slice_get rat_bits (rat - 1000) b 0 found.1)

  pub refused_without_bit : bit_of_rat rat ≡ None → true ≡ rat_refused rat restriction
  unfolding bit_of_rat rat_refused
  refused_without_bit e =
      ⊎_elim (λ q. rw q) (λ q. rw (le-ltb (rat - 1000) (length rat_bits) (got_none rat_bits (rat - 1000) q), and-false))
      (none_if (leb 1000 rat) (slice_get rat_bits (rat - 1000)) e)

-- the RAT test, of the restriction that the code read
pub rat_ruled : (rat : ℕ) (r : List ℕ) (b : Bool) {restriction : ℕ} {test : Bool} → restriction ≡ restriction_of r → test ≡ rat_refused rat restriction → test ≡ b → rat_refused rat (restriction_of r) ≡ b
rat_ruled rat r b e p q = rw (← e) (sym p ∙ q)

-- ---- the subscription

module _ (r : List ℕ) (b : ℕ) (e : b ≡ get_or r subscription_at 0) {s6a x : Bool} (p : x ≡ bit 0 b) where
  pub unsubscribed_s6a : s6a ≡ true → not x ≡ unsubscribed s6a r
  unfolding unsubscribed
  unsubscribed_s6a s = rw (s, p, e)

  pub unsubscribed_s6d : {y : Bool} → y ≡ bit 1 b → s6a ≡ false → not x && not y ≡ unsubscribed s6a r
  unfolding unsubscribed
  unsubscribed_s6d q s = rw (s, p, q, e)

-- ---- the sender

pub stranger-is : (host r : List ℕ) {x y : Bool} → x ≡ is_sender mme host r → y ≡ is_sender sgsn host r → not x && not y ≡ stranger host r
unfolding stranger
stranger-is host r p q = rw (p, q)

-- ---- the PLMNs

pub has_plmn-more : (plmn r : List ℕ) (j : ℕ) {found b : Bool} {read : List ℕ} → found ≡ has_plmn plmn r j → read ≡ part (plmns_at + plmn_size * j) plmn_size r → b ≡ same read plmn
    → found || b ≡ has_plmn plmn r (j + 1)
unfolding has_plmn
has_plmn-more plmn r j f p q = rw (add-one, f, q, p)

-- the first `j` PLMNs are all of them
pub has_plmn-ruled : (plmn r : List ℕ) (n j : ℕ) {found : Bool} → n ≡ get_or r plmn_count_at 0 → found ≡ has_plmn plmn r j → j ≡ n → ltb 0 n && not found ≡ plmn_refused plmn r
unfolding plmn_refused
has_plmn-ruled plmn r n j e f q = rw (f, q, e)

any_more : (f : ℕ → Bool) (a n : ℕ) → list_any f (range_with_len a (suc n)) ≡ list_any f (range_with_len a n) || f (a + n)
any_more f a zero = or-false (f a) ∙ ap f (sym (add-zero a))
any_more f a (suc n) =
    let k : a + 1 + n ≡ a + suc n = omega arith in
    ap (λ b. f a || b) (any_more f (a + 1) n ∙ ap (λ j. list_any f (range_with_len (a + 1) n) || f j) k)
    ∙ sym (or_assoc (f a) (list_any f (range_with_len (a + 1) n)) (f (a + suc n)))

module _ (plmn r : List ℕ) where
  -- PLMN `j` of the record is this one
  abbrev pub is_plmn : ℕ → Bool
  is_plmn j = same (part (plmns_at + plmn_size * j) plmn_size r) plmn

  any_plmn : (n : ℕ) → list_any is_plmn (range_with_len 0 n) ≡ has_plmn plmn r n
  unfolding has_plmn
  any_plmn zero = refl
  any_plmn (suc n) = any_more is_plmn 0 n ∙ rw (zero-add, any_plmn n)

  pub plmn-ruled : (n : ℕ) {listed : Bool} → n ≡ get_or r plmn_count_at 0 → listed ≡ list_any is_plmn (range_with_len 0 n) → ltb 0 n && not listed ≡ plmn_refused plmn r
  unfolding plmn_refused
  plmn-ruled n {listed} e f = rw (f, any_plmn n, e)

-- ---- what refuses a ULR, test by test

module _ (flags rat : ℕ) (plmn r : List ℕ) where
  pub refused-unsubscribed : unsubscribed (bit 1 flags) r ≡ true → some 5420 ≡ refused_update flags rat plmn r
  unfolding refused_update
  refused-unsubscribed u = rw u

  module _ (u : unsubscribed (bit 1 flags) r ≡ false) where
    pub refused_rat : rat_refused rat (restriction_of r) ≡ true → some 5421 ≡ refused_update flags rat plmn r
    unfolding refused_update
    refused_rat v = rw (u, v)

    module _ (v : rat_refused rat (restriction_of r) ≡ false) where
      pub refused-plmn : plmn_refused plmn r ≡ true → some 5004 ≡ refused_update flags rat plmn r
      unfolding refused_update
      refused-plmn w = rw (u, v, w)

      pub refused-not : plmn_refused plmn r ≡ false → none ≡ refused_update flags rat plmn r
      unfolding refused_update
      refused-not w = rw (u, v, w)

module _ {test b : Bool} (code : ℕ) (p : test ≡ b) where
  pub first_refuses : (y : Option ℕ) {n : ℕ} → some n ≡ code_if test code → some n ≡ or_else (code_if b code) y
  first_refuses y e = rw (← p, ← e)

  pub first_passes : {y z : Option ℕ} → none ≡ code_if test code → z ≡ y → z ≡ or_else (code_if b code) y
  first_passes e q = rw (← p, ← e) q

-- ---- the type with which a ULR cancels the other node

module _ (s6a single initial : Bool) {x y : Bool} (p : x ≡ s6a) (q : y ≡ single) where
  pub type-single : x && y ≡ true → some 1 ≡ other_type s6a single initial
  unfolding other_type
  type-single e = rw (← p, ← q, e)

  pub type_initial : x && y ≡ false → initial ≡ true → some 4 ≡ other_type s6a single initial
  unfolding other_type
  type_initial e i = rw (← p, ← q, e, i)

  pub type_none : x && y ≡ false → initial ≡ false → none ≡ other_type s6a single initial
  unfolding other_type
  type_none e i = rw (← p, ← q, e, i)
