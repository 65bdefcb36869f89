-- Promise: the reader's AVPs of a stretch are those that its bytes hold, by numbers in their places.
-- Assumes nothing.
use mathlib.Core.Path.{◌≡◌, refl, ap}
use mathlib.Core.Logic.{◌⊎◌, inl, inr}
use mathlib.Core.Bool.{Bool, true, false, ◌&&◌}
use mathlib.Core.List.{List}
use Prim.Native.Nat.{ℕ, ◌+◌, ◌≤◌, ◌<◌}
use native.Mathlib.Omega.{arith}
use lib.Dec.{leb}
use lib.ListN.{length}
use borrow.Author.Tests.{leb-true, leb-false}
use Rattle.std.proofs.lemmas.Bool.{and_parts}
use Rattle.paper.specs.Avp.{head_size, padded, vendor_of, framed, body_of, after, avp_of, bare_of, length_of}
use Rattle.paper.specs.Reader.{Avps, avps, more, broken, placed, stump}
use Rattle.paper.specs.Laid.{head_at, length_at, room_at, head_laid, Laid, ends, holds, breaks}
use Rattle.paper.proofs.AvpsLaws.{avps_induction}

-- an AVP that lies inside the stretch
holds-one : (at : ℕ) (s : List ℕ) → framed s ≡ true → (rest : Avps) → Laid (at + padded (length_of s)) (after s) rest → Laid at s (more (placed at s) rest)
unfolding framed head_size padded after placed avp_of vendor_of body_of head_laid
holds-one at s f rest r =
    holds (leb-true (head_at s) (length_at s) (and_parts (leb (head_at s) (length_at s)) _ f).0) (leb-true (room_at s) (length s) (and_parts (leb (head_at s) (length_at s)) _ f).1) refl r

-- what stands there is none
either : (a b n k : ℕ) → leb a b && leb n k ≡ false → (b < a) ⊎ (k < n)
either a b n k e = go (leb a b) refl (leb n k) refl e
  where
    go : (x : Bool) → leb a b ≡ x → (y : Bool) → leb n k ≡ y → x && y ≡ false → (b < a) ⊎ (k < n)
    go false p y q h = inl (leb-false a b p)
    go true p false q h = inr (leb-false n k q)
    go true p true q h = let z : ◌≡◌ {A = ℕ} 0 1 = cc in absurd (omega arith)

breaks-here : (at : ℕ) (s : List ℕ) → 1 ≤ length s → framed s ≡ false → Laid at s (broken (stump at s))
unfolding framed head_size padded stump bare_of vendor_of head_laid
breaks-here at s n f =
    breaks (λ e. let z : length s ≡ 0 = ap length e in absurd (omega arith)) (either (head_at s) (length_at s) (room_at s) (length s) f) refl

pub avps_laid : (at : ℕ) (s : List ℕ) → Laid at s (avps at s)
avps_laid = avps_induction Laid (λ at. ends) (λ at s f r. holds-one at s f _ r) breaks-here
