-- `put_be` meets its contract. The loop's invariant: the bytes from place `k` on stand, and `w` is what is left of `v`.
-- Assumes nothing.
use mathlib.Core.Path.{◌≡◌, sym}
use mathlib.Core.List.{List}
use Prim.Native.Nat.{ℕ, suc, ◌+◌, ◌-◌, ◌/◌, ◌%◌, ◌^◌, ◌≤◌, ◌<◌}
use native.Mathlib.Omega.{arith}
use native.Mathlib.Nat.{div-div-eq-div-mul, pow-suc, div-one, sub_self, add-zero, sub-zero}
use lib.ListN.{length, set}
use Rattle.wire.specs.Number.{be}
use Rattle.wire.specs.Put.{put}
use Rattle.wire.proofs.NumberLaws.{length-be}
use Rattle.wire.proofs.PutLaws.{put-nil, put_front}
use Rattle.wire.proofs.number.put_be.Goals as goal

-- a turn's store is in front of what was put
turn : (at width k v w : ℕ) (out l : List ℕ) → 0 < k → k ≤ width → at + width ≤ length l → (out ≡ put (at + k) (be (width - k) v) l) × (w ≡ v / 256 ^ (width - k))
    → (set out (at + (k - 1)) (w % 256) ≡ put (at + (k - 1)) (be (width - (k - 1)) v) l) × (w / 256 ≡ v / 256 ^ (width - (k - 1)))
turn at width k v w out l h₀ h₁ hl i =
    let p = at + (k - 1) in
    let n = width - k in
    let e₁ : at + k ≡ suc p = omega arith in
    let e₂ : width - (k - 1) ≡ suc n = omega arith in
    (rw (i.0, i.1, e₁, e₂) (put_front p (v / 256 ^ n % 256) (be n v) l (omega arith)), rw (i.1, e₂, pow-suc) (div-div-eq-div-mul v (256 ^ n) 256))

pub loop-k-init : goal.loop-k-init
loop-k-init c = rw sub_self (sym (put-nil _ _), sym (div-one _))

pub loop-k-preserved : goal.loop-k-preserved
loop-k-preserved c =
    let k = c.loop-k in
    turn c.args.at c.args.width k.k c.args.v k.w k.out _ c.loop-k-test.true k.auto.k c.requires k.invariant

pub returns : goal.returns
returns c =
    let e : c.loop-k.k ≡ 0 = omega arith in
    record { next = rw length-be; made = rw (e, add-zero, sub-zero) at c.loop-k.invariant.0 }
