-- A field held against its window of bounds: its first bytes within the range, the others zero.
-- Assumes nothing.
use mathlib.Core.Path.{◌≡◌, refl, sym, ap, ◌∙◌}
use mathlib.Core.Bool.{Bool, true, ◌&&◌}
use mathlib.Core.List.{List, ◌++◌}
use Prim.Native.Nat.{ℕ, ◌+◌, ◌-◌, ◌≤◌}
use native.Mathlib.Omega.{arith}
use lib.ListN.{length, take, drop, get_or, replicate, length-replicate}
use Rattle.std.specs.List.{flat_map}
use Rattle.std.proofs.lemmas.List.{take-replicate, drop-replicate}
use Rattle.wire.specs.Number.{Bytes}
use Rattle.wire.specs.Put.{part}
use Rattle.wire.specs.Stretch.{all_in, between, zeros}
use Rattle.wire.proofs.ListLaws.{length_part, part-split, part-append-left, part-append-right}
use Rattle.wire.proofs.StretchLaws.{all_in_intro, between-append, between-replicate}
use Rattle.table.specs.Bounds.{half, bound, halves}
use Rattle.table.proofs.PartLaws.{lent}

-- ---- the bounds

pub first-bound : (v : ℕ) (s : List ℕ) → s ≡ bound v → get_or s 0 0 ≡ v
unfolding bound
first-bound v s e = rw e

pub is_bound : (v : ℕ) (s : List ℕ) → s ≡ bound v → s ≡ bound (get_or s 0 0)
is_bound v s e = e ∙ ap bound (sym (first-bound v s e))

pub length-bound : (v : ℕ) → length (bound v) ≡ half + half
unfolding bound
length-bound v = refl

-- the halves, one behind the other
pub flat-halves : (v : ℕ) → flat_map (λ x. x) (halves v) ≡ bound v
unfolding bound
flat-halves v = refl

-- `n` before the middle: `n` times the bound, then zeros
window : (v n m : ℕ) → n ≤ half → m ≤ half → part (half - n) (n + m) (bound v) ≡ replicate n v ++ replicate m 0
unfolding bound
window v n m h k =
    let a = replicate half v in
    let z = replicate {A = ℕ} half 0 in
    let e : half - (half - n) ≡ n = omega arith in
    let f : half - n + n ≡ half + 0 = omega arith in
    let front : part (half - n) n (a ++ z) ≡ replicate n v =
    part-append-left (half - n) n a z (omega arith) ∙ ap (take n) (drop-replicate (half - n) half v) ∙ ap (λ (q : ℕ). take n (replicate q v)) e ∙ take-replicate n n v (omega arith) in
    let back : part (half - n + n) m (a ++ z) ≡ replicate m 0 = ap (λ (q : ℕ). part q m (a ++ z)) f ∙ part-append-right 0 m a z ∙ take-replicate m half 0 k in
    part-split (half - n) n m (a ++ z) ∙ rw (front, back)

between-filled : (l h n m : ℕ) (s s' : List ℕ) → length s ≡ n → length s' ≡ m
    → between (replicate n l ++ replicate m 0) (replicate n h ++ replicate m 0) (s ++ s') ≡ all_in l h s && zeros s'
between-filled l h n m s s' e f =
    between-append (replicate n l) (replicate m 0) (replicate n h) (replicate m 0) s s' (e ∙ sym (length-replicate n l)) (e ∙ sym (length-replicate n h)) ∙ rw (between-replicate l h n s e, between-replicate 0 0 m s' f)

-- ---- a field

pub between_window : (l h at most n : ℕ) (r : List ℕ) → at + most ≤ length r → n ≤ most → most ≤ half
    → between (part (half - n) most (bound l)) (part (half - n) most (bound h)) (part at most r) ≡ all_in l h (part at n r) && zeros (part (at + n) (most - n) r)
between_window l h at most n r fits few small =
    let m = most - n in
    let e : most ≡ n + m = omega arith in
    ap (λ (q : ℕ). between (part (half - n) q (bound l)) (part (half - n) q (bound h)) (part at q r)) e
    ∙ rw (window l n m (omega arith) (omega arith), window h n m (omega arith) (omega arith), part-split at n m r)
    (between-filled l h n m (part at n r) (part (at + n) m r) (length_part at n r (omega arith)) (length_part (at + n) m r (omega arith)))

-- the same of bounds that are known by their first bytes, lent by a start and an end
pub lent_bounds : (at most n : ℕ) (r low high : List ℕ) → at + most ≤ length r → n ≤ most → most ≤ half → low ≡ bound (get_or low 0 0) → high ≡ bound (get_or high 0 0)
    → between (take (half - n + most - (half - n)) (drop (half - n) low)) (take (half - n + most - (half - n)) (drop (half - n) high)) (take (at + most - at) (drop at r))
    ≡ all_in (get_or low 0 0) (get_or high 0 0) (part at n r) && zeros (part (at + n) (most - n) r)
lent_bounds at most n r low high fits few small bl bh =
    rw (lent (half - n) most low, lent (half - n) most high, lent at most r)
    (ap (λ (s : List ℕ). between (part (half - n) most s) (part (half - n) most high) (part at most r)) bl
    ∙ ap (λ (s : List ℕ). between (part (half - n) most (bound (get_or low 0 0))) (part (half - n) most s) (part at most r)) bh
    ∙ between_window (get_or low 0 0) (get_or high 0 0) at most n r fits few small)

-- a test with bounds, with the bounds' bytes by name
pub bounds_named : (l h : ℕ) (low high s s' : List ℕ) {v : Bool} → low ≡ bound l → high ≡ bound h → v ≡ all_in (get_or low 0 0) (get_or high 0 0) s && zeros s' → v ≡ all_in l h s && zeros s'
bounds_named l h low high s s' el eh e = e ∙ rw (first-bound l low el, first-bound h high eh)

-- the same as the code lends it
pub lent_window : (at most n l h : ℕ) (r : List ℕ) (low high : List (List ℕ)) → at + most ≤ length r → n ≤ most → most ≤ half → low ≡ halves l → high ≡ halves h
    → between (take (half - n + most - (half - n)) (drop (half - n) (flat_map (λ x. x) low))) (take (half - n + most - (half - n)) (drop (half - n) (flat_map (λ x. x) high))) (take (at + most - at) (drop at r))
    ≡ all_in l h (part at n r) && zeros (part (at + n) (most - n) r)
lent_window at most n l h r low high fits few small el eh =
    rw (el, eh, flat-halves l, flat-halves h, lent (half - n) most (bound l), lent (half - n) most (bound h), lent at most r) (between_window l h at most n r fits few small)

-- every byte is free
pub free_bytes : (s : List ℕ) → Bytes s → all_in 0 255 s ≡ true
free_bytes s h = all_in_intro 0 255 s (λ i k. (omega arith, omega (arith, h i)))
