-- Laws of a value's bytes: what is left behind a place, and the PLMNs.
-- Assumes nothing.
use Rattle.std.proofs.Common.{◌≡◌, ℕ, ◌+◌, ◌-◌, ◌*◌, ◌<◌, ◌≤◌, Bool, true, false, cond, ◌&&◌, eqb, leb, ◌≢◌, List, [], ◌∷◌, length, get_or, take, drop, sym, refl, ap, ◌∙◌, arith, length-drop, le-leb, eqb-true, ne_eqb}
use lib.Seq.{take-length}
use borrow.Author.Tests.{lt-leb}
use Rattle.wire.specs.Stretch.{all_in, zeros}
use Rattle.paper.specs.Layout.{plmn_size, most_plmns}
use Rattle.paper.specs.Correction.{value_size, value_right}

-- the rest of a list is its part from there on
pub rest-whole : (n : ℕ) (v : List ℕ) → take (length v - n) (drop n v) ≡ drop n v
rest-whole n v = ap (λ (m : ℕ). take m (drop n v)) (sym (length-drop n v)) ∙ take-length (drop n v)

-- nothing is left past the end, and nothing is all zeros
pub zeros_past : (n : ℕ) (v : List ℕ) → length v ≤ n → zeros (drop n v) ≡ true
unfolding all_in
zeros_past n v h = go (drop n v) (simp length-drop (omega arith))
  where
    go : (s : List ℕ) → length s ≡ 0 → zeros s ≡ true
    go [] e = refl
    go (x ∷ s) e = absurd (omega arith)

-- a number beside the four is of no kind
pub no_kind : (code : ℕ) → code ≢ 1 → code ≢ 2 → code ≢ 3 → code ≢ 4 → value_size code ≡ 0
unfolding value_size
no_kind code a b c d = rw (ne_eqb code 1 a, ne_eqb code 2 b, ne_eqb code 3 c, ne_eqb code 4 d)

-- under such a number no value is wrong
pub right_of_no_kind : (code : ℕ) (v : List ℕ) → value_size code ≡ 0 → value_right code v ≡ true
unfolding value_size value_right
right_of_no_kind code v e = go (eqb code 1) refl (eqb code 3) refl
  where
    go : (a : Bool) → eqb code 1 ≡ a → (c : Bool) → eqb code 3 ≡ c → value_right code v ≡ true
    go true p c q = let h = eqb-true code 1 p in let z : ◌≡◌ {A = ℕ} 1 0 = rw h at e in absurd (omega arith)
    go false p true q = let h = eqb-true code 3 q in let z : ◌≡◌ {A = ℕ} 25 0 = rw h at e in absurd (omega arith)
    go false p false q = rw (p, q) refl

-- no kind has a longer value than the PLMNs
pub value_size-most : (kind : ℕ) → value_size kind ≤ 25
unfolding value_size
value_size-most kind = go (eqb kind 1) (eqb kind 2) (eqb kind 3) (eqb kind 4)
  where
    go : (a b c d : Bool) → cond a 1 (cond b 4 (cond c 25 (cond d 8 0))) ≤ 25
    go true b c d = omega arith
    go false true c d = omega arith
    go false false true d = omega arith
    go false false false true = omega arith
    go false false false false = omega arith

-- the PLMNs of a value whose count is `n`
pub many_plmns : (v : List ℕ) (n : ℕ) → n ≡ get_or v 0 0 → most_plmns < n → leb (get_or v 0 0) most_plmns && zeros (drop (1 + plmn_size * get_or v 0 0) v) ≡ false
many_plmns v n count h = rw (← count, lt-leb n most_plmns h)

pub few_plmns : (v : List ℕ) (n : ℕ) → n ≡ get_or v 0 0 → n ≤ most_plmns → leb (get_or v 0 0) most_plmns && zeros (drop (1 + plmn_size * get_or v 0 0) v) ≡ zeros (drop (1 + plmn_size * n) v)
few_plmns v n count h = rw (← count, le-leb n most_plmns h)
