-- An IMSI as stored, made in a field of zeros.
-- Assumes nothing.
use Rattle.std.proofs.Common.{◌≡◌, ℕ, zero, suc, ◌+◌, ◌-◌, ◌≤◌, List, ◌∷◌, ◌++◌, length, drop, replicate, ap, ◌∙◌, arith}
use Rattle.wire.specs.Put.{put, Wrote}
use Rattle.paper.specs.Layout.{most_digits}
use Rattle.paper.specs.Fields.{filled}

drop-replicate : (k n x : ℕ) → k ≤ n → drop k (replicate n x) ≡ replicate (n - k) x
drop-replicate zero n x h = let e : n ≡ n - 0 = omega arith in ap (λ (j : ℕ). replicate j x) e
drop-replicate (suc k) zero x h = absurd (omega arith)
drop-replicate (suc k) (suc n) x h =
    let e : n - k ≡ suc n - suc k = omega arith in
    drop-replicate k n x (omega arith) ∙ ap (λ (j : ℕ). replicate j x) e

pub field-filled : {xs field : List ℕ} {r : ℕ} → length xs ≤ most_digits → Wrote (length xs ∷ replicate most_digits 0) 1 xs field r → field ≡ filled most_digits xs
unfolding put filled
field-filled {xs} h w =
    let e : 1 + length xs ≡ suc (length xs) = omega arith in
    w.made ∙ ap (λ (l : List ℕ). length xs ∷ (xs ++ l)) (ap (λ (j : ℕ). drop j (length xs ∷ replicate most_digits 0)) e ∙ drop-replicate (length xs) most_digits 0 h)
