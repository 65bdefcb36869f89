-- What the stores of an accepted correction come to.
-- Assumes nothing.
use Rattle.std.proofs.Common.{◌≡◌, ℕ, ◌+◌, ◌-◌, ◌%◌, ◌^◌, Bool, true, false, eqb, List, [], ◌∷◌, ◌++◌, length, take, drop, sym, refl, ap, ◌∙◌, arith, take-append-drop, eqb-true}
use Rattle.wire.specs.Number.{be}
use Rattle.paper.specs.Layout.{change_at, plmn_count_at, plmns_at, ambr_at}
use Rattle.wire.specs.Put.{put}
use Rattle.paper.specs.Table.{record_at, record_of, change_of, store}
use Rattle.paper.specs.Correction.{frame_head, frame_kind, value_size, store_value, next_change, accepted}
use Rattle.correction.proofs.KindLaws.{rest-whole}

pub plmns_size : (kind : ℕ) → kind ≡ 3 → value_size kind ≡ 25
unfolding value_size
plmns_size kind e = ap value_size e

-- the count, then the PLMNs
pub stored_plmns : (kind i : ℕ) (v t t₁ t₂ : List ℕ) → kind ≡ 3 → t₁ ≡ store i plmn_count_at (take 1 v) t → t₂ ≡ store i plmns_at (take (length v - 1) (drop 1 v)) t₁
    → t₂ ≡ store_value kind i v t
unfolding store_value
stored_plmns kind i v t t₁ t₂ e p q =
    q
    ∙ ap (λ (x : List ℕ). store i plmns_at x t₁) (rest-whole 1 v)
    ∙ ap (store i plmns_at (drop 1 v)) p
    ∙ ap (λ (k : ℕ). store_value k i v t) (sym e)

-- the value of a number of no kind has no byte, and leaves the table
pub stored_no_kind : (code i : ℕ) (v t : List ℕ) → value_size code ≡ 0 → length v ≡ value_size code → store_value code i v t ≡ t
unfolding value_size store_value store put
stored_no_kind code i [] t e l = go (eqb code 1) refl (eqb code 2) refl (eqb code 3) refl
  where
    go : (a : Bool) → eqb code 1 ≡ a → (b : Bool) → eqb code 2 ≡ b → (c : Bool) → eqb code 3 ≡ c → store_value code i [] t ≡ t
    go true p b q c r = let h = eqb-true code 1 p in let z : ◌≡◌ {A = ℕ} 1 0 = rw h at e in absurd (omega arith)
    go false p true q c r = let h = eqb-true code 2 q in let z : ◌≡◌ {A = ℕ} 4 0 = rw h at e in absurd (omega arith)
    go false p false q true r = let h = eqb-true code 3 r in let z : ◌≡◌ {A = ℕ} 25 0 = rw h at e in absurd (omega arith)
    go false p false q false r =
        let z : record_at i + ambr_at + 0 ≡ record_at i + ambr_at = omega arith in
        rw (p, q, r) (ap (λ (n : ℕ). take (record_at i + ambr_at) t ++ drop n t) z ∙ take-append-drop (record_at i + ambr_at) t)
stored_no_kind code i (x ∷ v) t e l = absurd (omega (arith, e, l))

-- the value, then the next change number
pub stored-correction : (k i n : ℕ) (t f t₁ t₂ : List ℕ) → k ≡ frame_kind f → t₁ ≡ store_value k i (take (length f - frame_head) (drop frame_head f)) t
    → n ≡ (change_of (record_of t i) + 1) % 2 ^ 32 → t₂ ≡ store i change_at (be 4 n) t₁ → t₂ ≡ (accepted i f t).table
unfolding accepted next_change
stored-correction k i n t f t₁ t₂ kind p e q =
    q
    ∙ ap (λ (c : ℕ). store i change_at (be 4 c) t₁) e
    ∙ ap (store i change_at (be 4 ((change_of (record_of t i) + 1) % 2 ^ 32))) (p ∙ ap (λ (x : List ℕ). store_value k i x t) (rest-whole frame_head f) ∙ ap (λ (c : ℕ). store_value c i (drop frame_head f) t) kind)
