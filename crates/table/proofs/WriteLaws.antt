-- A counted field as three writers leave it: the count, the bytes, the zeros.
-- Assumes nothing.
use mathlib.Core.Path.{◌≡◌, ap, ◌∙◌}
use mathlib.Core.List.{List, ◌∷◌, ◌++◌}
use Prim.Native.Nat.{ℕ, ◌-◌, ◌/◌, ◌%◌, ◌≤◌, ◌<◌}
use native.Mathlib.Omega.{arith}
use lib.ListN.{length, replicate}
use Rattle.wire.specs.Number.{be}
use Rattle.wire.specs.Put.{put, Wrote}
use Rattle.wire.proofs.PutLaws.{wrote_then}
use Rattle.paper.specs.Fields.{filled}

pub counted-written : (from most a b c : ℕ) (xs t t₁ t₂ t₃ : List ℕ) → from ≤ length t → length xs < 256
    → Wrote t from (be 1 (length xs)) t₁ a → Wrote t₁ a xs t₂ b → Wrote t₂ b (replicate (most - length xs) 0) t₃ c
    → t₃ ≡ put from (filled most xs) t
unfolding filled
counted-written from most a b c xs t t₁ t₂ t₃ h small w₁ w₂ w₃ =
    let n : length xs / 1 % 256 ≡ length xs = omega arith in
    let w = wrote_then h (wrote_then h w₁ w₂) w₃ in
    w.made ∙ ap (λ (k : ℕ). put from (k ∷ (xs ++ replicate (most - length xs) 0)) t) n
