-- Laws of parts of lists.
-- Assumes nothing.
use mathlib.Core.Path.{◌≡◌, sym, ap, ◌∙◌}
use mathlib.Core.List.{List, [], ◌∷◌, ◌++◌, append_assoc}
use Prim.Native.Nat.{ℕ, ◌+◌, ◌-◌, ◌≤◌, ◌<◌}
use native.Mathlib.Numerals.{add-one}
use native.Mathlib.Omega.{arith}
use lib.ListN.{length, take, drop, get_or, replicate, length-append, length-take, length-drop, length-replicate, replicate-append-replicate}
use lib.Seq.{take-suc, take-length, take-take, take-add, take_at, drop_at, drop-drop, take-append-le, drop-append-le, drop-append-add, get_or-take, get_or-drop, ext_get_or}
use Rattle.std.proofs.lemmas.List.{drop-take}
use Rattle.wire.specs.Put.{part}

-- ---- parts

pub length_part : (at n : ℕ) (s : List ℕ) → at + n ≤ length s → length (part at n s) ≡ n
length_part at n s h = simp (length-take, length-drop) (omega arith)

pub get_d_part : (at n : ℕ) (s : List ℕ) (i : ℕ) → i < n → get_or (part at n s) i 0 ≡ get_or s (at + i) 0
get_d_part at n s i h = rw (get_or-take n (drop at s) i 0 h, get_or-drop)

pub part-whole : (s : List ℕ) → part 0 (length s) s ≡ s
part-whole s = take-length s

-- one element more
pub part-more : (at n : ℕ) (s : List ℕ) → at + n < length s → part at (n + 1) s ≡ part at n s ++ (get_or s (at + n) 0 ∷ [])
part-more at n s h = rw (add-one, take-suc (drop at s) n 0 (simp length-drop (omega arith)), get_or-drop)

pub part-split : (at m n : ℕ) (s : List ℕ) → part at (m + n) s ≡ part at m s ++ part (at + m) n s
part-split at m n s = take-add m n (drop at s) ∙ ap (λ (t : List ℕ). part at m s ++ take n t) (drop-drop m at s)

-- a part of a part
pub part-part : (at n at' n' : ℕ) (s : List ℕ) → at' + n' ≤ n → part at' n' (part at n s) ≡ part (at + at') n' s
part-part at n at' n' s h =
    let k = n - at' in
    let e : n ≡ at' + k = omega arith in
    ap (λ (m : ℕ). part at' n' (take m (drop at s))) e
    ∙ ap (take n') (drop-take at' k (drop at s))
    ∙ take-take n' k (drop at' (drop at s)) (omega arith)
    ∙ ap (take n') (drop-drop at' at s)

-- two lists that agree on a range have the same part there
pub part_same : (at n : ℕ) (s t : List ℕ) → length s ≡ length t → ((j : ℕ) → at ≤ j → j < at + n → get_or s j 0 ≡ get_or t j 0) → part at n s ≡ part at n t
part_same at n s t e h = ext_get_or 0 (part at n s) (part at n t) (simp (length-take, length-drop, e)) at-each-place
  where
    at-each-place : (j : ℕ) → j < length (part at n s) → get_or (part at n s) j 0 ≡ get_or (part at n t) j 0
    at-each-place j k =
        let b : j < n = let i = simp (length-take, length-drop) at k in omega arith in
        get_d_part at n s j b ∙ h (at + j) (omega arith) (omega arith) ∙ sym (get_d_part at n t j b)

-- ---- parts of lists that are joined

pub part-append-left : (at n : ℕ) (xs ys : List ℕ) → at + n ≤ length xs → part at n (xs ++ ys) ≡ part at n xs
part-append-left at n xs ys h =
    ap (take n) (drop-append-le at xs ys (omega arith)) ∙ take-append-le n (drop at xs) ys (simp length-drop (omega arith))

pub part-append-right : (at n : ℕ) (xs ys : List ℕ) → part (length xs + at) n (xs ++ ys) ≡ part at n ys
part-append-right at n xs ys = ap (take n) (drop-append-add xs ys at)

-- what stands between two others
pub part_middle : (at n : ℕ) (xs ys zs : List ℕ) → length xs ≡ at → length ys ≡ n → part at n (xs ++ (ys ++ zs)) ≡ ys
part_middle at n xs ys zs e f = ap (take n) (drop_at xs (ys ++ zs) at e) ∙ take_at ys zs n f

-- a window on two runs of n: k of the first run and n - k of the second
pub part_window : (n k a b : ℕ) → k ≤ n → part (n - k) n (replicate n a ++ replicate n b) ≡ replicate k a ++ replicate (n - k) b
part_window n k a b h =
    let m = n - k in
    let f : m + k ≡ n = omega arith in
    let ea : replicate n a ≡ replicate m a ++ replicate k a = sym (replicate-append-replicate m k a ∙ ap (λ (i : ℕ). replicate i a) f) in
    let eb : replicate n b ≡ replicate m b ++ replicate k b = sym (replicate-append-replicate m k b ∙ ap (λ (i : ℕ). replicate i b) f) in
    let e : replicate n a ++ replicate n b ≡ replicate m a ++ ((replicate k a ++ replicate m b) ++ replicate k b) = rw (ea, eb) (simp append_assoc) in
    ap (part m n) e
    ∙ part_middle m n (replicate m a) (replicate k a ++ replicate m b) (replicate k b) (length-replicate m a) (simp (length-append, length-replicate) (omega arith))
