-- `get_be` meets its contract. The loop's invariant: `v` is the number that the bytes read so far are.
-- Assumes nothing.
use mathlib.Core.Path.{◌≡◌}
use mathlib.Core.List.{List}
use Prim.Native.Nat.{ℕ, ◌+◌, ◌-◌, ◌≤◌, ◌<◌}
use native.Mathlib.Omega.{arith}
use lib.ListN.{length, get_or}
use Rattle.wire.specs.Number.{num_at}
use Rattle.wire.specs.Put.{part}
use Rattle.wire.proofs.ListLaws.{get_d_part, length_part}
use Rattle.wire.proofs.NumberLaws.{read_turn, num-room}
use borrow.Author.Rules.{rules}
use Rattle.wire.proofs.number.get_be.Goals as goal

-- where a turn's byte stands
place : (at width i : ℕ) (s : List ℕ) → at + width ≤ length s → i < length (part at (at + width - at) s)
    → (i < width) × (get_or (part at (at + width - at) s) i 0 ≡ get_or s (at + i) 0)
place at width i s h k =
    let n = at + width - at in
    let l : i < width = omega (arith, length_part at n s (omega arith)) in
    (l, get_d_part at n s i (omega arith))

pub loop-b-init : goal.loop-b-init
unfolding num_at
loop-b-init c = search rules

pub overflow_mul-v : goal.overflow_mul-v
overflow_mul-v c = omega (arith, num-room c.loop-b.b-index _ (omega arith) c.loop-b.invariant.2)

pub overflow_add-v : goal.overflow_add-v
overflow_add-v c =
    let a = c.args in
    let i = c.loop-b.b-index in
    let p = place a.at a.width i a.s.now c.requires.0 c.loop-b-test.true in
    omega (arith, c.type_inv.s (a.at + i), num-room i _ (omega arith) c.loop-b.invariant.2)

pub loop-b-preserved : goal.loop-b-preserved
loop-b-preserved c =
    let a = c.args in
    let i = c.loop-b.b-index in
    let p = place a.at a.width i a.s.now c.requires.0 c.loop-b-test.true in
    let r = read_turn i a.s.now a.at _ p.1 (omega (arith, c.type_inv.s (a.at + i))) c.loop-b.invariant.1 c.loop-b.invariant.2 in
    (omega arith, r.0, r.1)
