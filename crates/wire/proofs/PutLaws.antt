-- Laws of `put` and of the writers' contract `Wrote`.
-- Assumes nothing.
use mathlib.Core.Path.{◌≡◌, refl, sym, ap, ◌∙◌, subst}
use mathlib.Core.Logic.{◌⊎◌, ⊎_elim}
use mathlib.Core.List.{List, [], ◌∷◌, ◌++◌, append_assoc}
use borrow.Rule.Slice.PartMut.{put_mid}
use Prim.Native.Nat.{ℕ, suc, ◌+◌, ◌-◌, ◌^◌, ◌≤◌, ◌<◌}
use native.Mathlib.Nat.{add-zero, add-suc, suc-add, add_assoc}
use native.Mathlib.Numerals.{add-one}
use native.Mathlib.Omega.{arith}
use lib.ListN.{length, take, drop, set, get_or, replicate, length-append, length-take, length-drop, length-replicate, take-append-drop, replicate-append-replicate, get_or-append}
use lib.Seq.{length-take-le, take-suc, take_at, take-take, take-append-le, take-append-add, drop_at, drop-drop, drop-append-le, drop-append-add, set_at, get_or-take, get_or-drop}
use Rattle.wire.specs.Number.{be, num, num_at, Bytes}
use Rattle.wire.specs.Put.{part, put, Wrote}
use Rattle.wire.proofs.ListLaws.{length_part, part_same}
use Rattle.wire.proofs.NumberLaws.{length-be, num_back, num_at-part, num_at_agree, bytes-append, bytes_take, bytes_drop}

-- ---- one put

-- what is before the end of what was put
length_front : (at : ℕ) (xs l : List ℕ) → at ≤ length l → length (take at l ++ xs) ≡ at + length xs
length_front at xs l h = simp (length-append, length-take-le)

pub length-put : (at : ℕ) (xs l : List ℕ) → at + length xs ≤ length l → length (put at xs l) ≡ length l
unfolding put
length-put at xs l h = simp (length-append, length-take, length-drop) (omega arith)

pub put-nil : (at : ℕ) (l : List ℕ) → put at [] l ≡ l
unfolding put
put-nil at l = rw (add-zero, take-append-drop)

pub take_put : (at : ℕ) (xs l : List ℕ) → at ≤ length l → take (at + length xs) (put at xs l) ≡ take at l ++ xs
unfolding put
take_put at xs l h = rw (← append_assoc (take at l) xs (drop (at + length xs) l)) (take_at _ _ _ (length_front at xs l h))

pub drop-put : (at : ℕ) (xs l : List ℕ) → at ≤ length l → drop (at + length xs) (put at xs l) ≡ drop (at + length xs) l
unfolding put
drop-put at xs l h = rw (← append_assoc (take at l) xs (drop (at + length xs) l)) (drop_at (take at l ++ xs) _ _ (length_front at xs l h))

-- what was put, read at its place
pub part-put : (at : ℕ) (xs l : List ℕ) → at ≤ length l → part at (length xs) (put at xs l) ≡ xs
unfolding put
part-put at xs l h = rw (drop_at (take at l) _ at (length-take-le at l h)) (take_at xs _ (length xs) refl)

-- putting what stands there changes nothing
pub put_same : (at n : ℕ) (l : List ℕ) → at + n ≤ length l → put at (part at n l) l ≡ l
unfolding put
put_same at n l h = rw (length_part at n l h, ← drop-drop n at l, take-append-drop, take-append-drop)

-- ---- every other byte stays

pub put-before : (at j : ℕ) (xs l : List ℕ) → at ≤ length l → j < at → get_or (put at xs l) j 0 ≡ get_or l j 0
unfolding put
put-before at j xs l h hj =
    let n : j < length (take at l) = rw (length-take-le at l h) hj in
    get_or-append (take at l) _ 0 j n ∙ get_or-take at l j 0 hj

pub put-after : (at j : ℕ) (xs l : List ℕ) → at ≤ length l → at + length xs ≤ j → get_or (put at xs l) j 0 ≡ get_or l j 0
put-after at j xs l h hj =
    let n = at + length xs in
    let e : j ≡ n + (j - n) = omega arith in
    rw (e, ← get_or-drop n (put at xs l) (j - n) 0, drop-put at xs l h) (get_or-drop n l (j - n) 0)

pub part-before : (at p n : ℕ) (xs l : List ℕ) → at + length xs ≤ length l → p + n ≤ at → part p n (put at xs l) ≡ part p n l
part-before at p n xs l h k = part_same p n (put at xs l) l (length-put at xs l h) (λ j _ b. put-before at j xs l (omega arith) (omega arith))

pub part-after : (at p n : ℕ) (xs l : List ℕ) → at + length xs ≤ length l → at + length xs ≤ p → part p n (put at xs l) ≡ part p n l
part-after at p n xs l h k = part_same p n (put at xs l) l (length-put at xs l h) (λ j a _. put-after at j xs l (omega arith) (omega arith))

-- a part wholly before or wholly after what was put
pub part-other : (at p n : ℕ) (xs l : List ℕ) → at + length xs ≤ length l → (p + n ≤ at) ⊎ (at + length xs ≤ p) → part p n (put at xs l) ≡ part p n l
part-other at p n xs l h = ⊎_elim (part-before at p n xs l h) (part-after at p n xs l h)

-- a number wholly before or wholly after what was put
pub num_at-before : (at p n : ℕ) (xs l : List ℕ) → at ≤ length l → p + n ≤ at → num_at n (put at xs l) p ≡ num_at n l p
num_at-before at p n xs l h k = num_at_agree n p p (put at xs l) l (λ i b. put-before at (p + i) xs l h (omega arith))

pub num_at-after : (at p n : ℕ) (xs l : List ℕ) → at ≤ length l → at + length xs ≤ p → num_at n (put at xs l) p ≡ num_at n l p
num_at-after at p n xs l h k = num_at_agree n p p (put at xs l) l (λ i b. put-after at (p + i) xs l h (omega arith))

-- ---- two puts

drop_more : (n m : ℕ) (l l' : List ℕ) → drop n l' ≡ drop n l → drop (n + m) l' ≡ drop (n + m) l
drop_more n m l l' e = sym (drop-drop m n l') ∙ ap (drop m) e ∙ drop-drop m n l

-- two puts in a row are one put of both
pub put-put : (at : ℕ) (xs ys l : List ℕ) → at ≤ length l → put (at + length xs) ys (put at xs l) ≡ put at (xs ++ ys) l
unfolding put
put-put at xs ys l h =
    ap (λ (t : List ℕ). t ++ (ys ++ drop (at + length xs + length ys) (put at xs l))) (take_put at xs l h)
    ∙ ap (λ (d : List ℕ). (take at l ++ xs) ++ (ys ++ d)) (drop_more (at + length xs) (length ys) l (put at xs l) (drop-put at xs l h))
    ∙ simp (append_assoc, length-append, add_assoc)

-- a put in front of one that stands already, as the header of a group whose length is known once its parts are written
pub put_under : (at : ℕ) (xs ys l : List ℕ) → at + length xs ≤ length l → put at xs (put (at + length xs) ys l) ≡ put at (xs ++ ys) l
unfolding put
put_under at xs ys l h =
    let n = at + length xs in
    let r = ys ++ drop (n + length ys) l in
    let t : length (take n l) ≡ n = length-take-le n l h in
    let front : take at (take n l ++ r) ≡ take at l = take-append-le at (take n l) r (rw t (omega arith)) ∙ take-take at n l (omega arith) in
    let back : drop n (take n l ++ r) ≡ r = drop_at (take n l) r n t in
    ap (λ (f : List ℕ). f ++ (xs ++ drop n (take n l ++ r))) front ∙ ap (λ (b : List ℕ). take at l ++ (xs ++ b)) back ∙ simp (append_assoc, length-append, add_assoc)

-- a put into the first of two joined lists, and into the second
pub put-append-left : (at : ℕ) (xs a b : List ℕ) → at + length xs ≤ length a → put at xs (a ++ b) ≡ put at xs a ++ b
unfolding put
put-append-left at xs a b h =
    let n : at ≤ length a = omega arith in
    rw (take-append-le at a b n, drop-append-le (at + length xs) a b h) (simp append_assoc)

pub put-append-right : (at : ℕ) (xs a b : List ℕ) → put (length a + at) xs (a ++ b) ≡ a ++ put at xs b
unfolding put
put-append-right at xs a b = rw (take-append-add a b at, add_assoc, drop-append-add a b (at + length xs)) (simp append_assoc)

put_second : (at : ℕ) (xs a b : List ℕ) → length a ≡ at → put at xs (a ++ b) ≡ a ++ put 0 xs b
put_second at xs a b e = ap (λ (k : ℕ). put k xs (a ++ b)) (sym e ∙ sym (add-zero (length a))) ∙ put-append-right 0 xs a b

-- two puts at disjoint places commute
pub put_swap : (at at' : ℕ) (xs ys l : List ℕ) → at + length xs ≤ at' → at' ≤ length l → put at xs (put at' ys l) ≡ put at' ys (put at xs l)
put_swap at at' xs ys l h k =
    let a = take at' l in
    let b = drop at' l in
    let n : length a ≡ at' = length-take-le at' l k in
    let h' : at + length xs ≤ length a = rw n h in
    let split : l ≡ a ++ b = sym (take-append-drop at' l) in
    ap (λ (m : List ℕ). put at xs (put at' ys m)) split
    ∙ ap (put at xs) (put_second at' ys a b n)
    ∙ put-append-left at xs a (put 0 ys b) h'
    ∙ sym (put_second at' ys (put at xs a) b (length-put at xs a h' ∙ n))
    ∙ ap (put at' ys) (sym (put-append-left at xs a b h'))
    ∙ ap (λ (m : List ℕ). put at' ys (put at xs m)) (sym split)

-- ---- one store

-- in front of what was put
pub put_front : (p x : ℕ) (xs l : List ℕ) → p < length l → set (put (suc p) xs l) p x ≡ put p (x ∷ xs) l
unfolding put
put_front p x xs l h = rw (take-suc l p 0, append_assoc) (set_at (take p l) _ _ x p (length-take-le p l (omega arith)) ∙ rw (suc-add, add-suc))

-- a store is a put of one
pub put_one : (p x : ℕ) (l : List ℕ) → p < length l → set l p x ≡ put p (x ∷ []) l
put_one p x l h = ap (λ (m : List ℕ). set m p x) (sym (put-nil (suc p) l)) ∙ put_front p x [] l h

pub put-more : (at x : ℕ) (xs l : List ℕ) → at + length xs < length l → set (put at xs l) (at + length xs) x ≡ put at (xs ++ (x ∷ [])) l
put-more at x xs l h = put_one (at + length xs) x (put at xs l) (rw (length-put at xs l (omega arith)) h) ∙ put-put at xs (x ∷ []) l (omega arith)

-- a turn of a loop that copies
pub copy_step : (at j : ℕ) (src out l : List ℕ) → j < length src → at + length src ≤ length l → out ≡ put at (take j src) l
    → set out (at + j) (get_or src j 0) ≡ put at (take (j + 1) src) l
copy_step at j src out l hj hl e =
    let n : length (take j src) ≡ j = length-take-le j src (omega arith) in
    rw (e, add-one, take-suc src j 0) (rw n at (put-more at (get_or src j 0) (take j src) l (rw n (omega arith))))

-- a turn of a loop that fills with one byte
pub fill_step : (at j n x : ℕ) (out l : List ℕ) → j < n → at + n ≤ length l → out ≡ put at (replicate j x) l → set out (at + j) x ≡ put at (replicate (j + 1) x) l
fill_step at j n x out l hj hl e =
    let k : length (replicate {A = ℕ} j x) ≡ j = length-replicate j x in
    rw (e, ← replicate-append-replicate {A = ℕ} j 1 x) (rw k at (put-more at x (replicate j x) l (rw k (omega arith))))

-- ---- the contract of the writers

-- a writer that writes a part of the slice, whole
pub wrote_part : (at n : ℕ) (xs ys l : List ℕ) → n ≡ length xs → ys ≡ xs → Wrote l at xs (put_mid at (at + n - at) l ys) (at + n)
unfolding put
wrote_part at n xs ys l e f =
    let k : at + length xs - at ≡ length xs = omega arith in
    record { next = rw e; made = rw (f, e, k) (ap (λ (t : List ℕ). take at l ++ (xs ++ t)) (drop-drop (length xs) at l)) }

-- one writer after another
pub wrote_then : {l l₁ l₂ xs ys : List ℕ} {at a b : ℕ} → at ≤ length l → Wrote l at xs l₁ a → Wrote l₁ a ys l₂ b → Wrote l at (xs ++ ys) l₂ b
wrote_then {l} {l₁} {l₂} {xs} {ys} {at} {a} {b} h p q =
    record {
      next = q.next ∙ ap (λ (k : ℕ). k + length ys) p.next ∙ add_assoc at (length xs) (length ys) ∙ ap (λ (k : ℕ). at + k) (sym (length-append xs ys));
      made = q.made ∙ ap (λ (k : ℕ). put k ys l₁) p.next ∙ ap (put (at + length xs) ys) p.made ∙ put-put at xs ys l h;
    }

-- a writer in front of what another wrote
pub wrote_under : {l l₁ l₂ xs ys : List ℕ} {at r q : ℕ} → at + length xs ≤ length l → Wrote l (at + length xs) ys l₁ r → Wrote l₁ at xs l₂ q → Wrote l at (xs ++ ys) l₂ r
wrote_under {l} {l₁} {l₂} {xs} {ys} {at} {r} {q} h p w =
    record {
      next = p.next ∙ add_assoc at (length xs) (length ys) ∙ ap (λ (k : ℕ). at + k) (sym (length-append xs ys));
      made = w.made ∙ ap (put at xs) p.made ∙ put_under at xs ys l h;
    }

-- a part that is left out
pub wrote_nothing : (l : List ℕ) (at : ℕ) → Wrote l at [] l at
wrote_nothing l at = record { next = omega arith; made = sym (put-nil at l) }

-- what was written, by another name
pub wrote-same : {l l' xs ys : List ℕ} {at r : ℕ} → xs ≡ ys → Wrote l at xs l' r → Wrote l at ys l' r
wrote-same {l} {l'} {xs} {ys} {at} {r} e w = subst (λ (zs : List ℕ). Wrote l at zs l' r) e w

-- ---- numbers and bytes in what was put

-- a number written at a width and read back there
pub read_back : (at n v : ℕ) (l : List ℕ) → at + n ≤ length l → v < 256 ^ n → num_at n (put at (be n v) l) at ≡ v
read_back at n v l h hv =
    let m : length (put at (be n v) l) ≡ length l = length-put at (be n v) l (rw length-be h) in
    num_at-part n (put at (be n v) l) at (rw m h)
    ∙ ap (λ (k : ℕ). num (part at k (put at (be n v) l))) (sym (length-be n v))
    ∙ ap num (part-put at (be n v) l (omega arith))
    ∙ num_back n v hv

pub read_back_u32 : (at v : ℕ) (l : List ℕ) → at + 4 ≤ length l → v < 2 ^ 32 → num_at 4 (put at (be 4 v) l) at ≡ v
read_back_u32 at v l h hv = read_back at 4 v l h hv

pub read_back_u64 : (at v : ℕ) (l : List ℕ) → at + 8 ≤ length l → v < 2 ^ 64 → num_at 8 (put at (be 8 v) l) at ≡ v
read_back_u64 at v l h hv = read_back at 8 v l h hv

pub bytes-put : (at : ℕ) (xs l : List ℕ) → Bytes xs → Bytes l → Bytes (put at xs l)
unfolding put
bytes-put at xs l hx hl = bytes-append (take at l) _ (bytes_take at l hl) (bytes-append xs _ hx (bytes_drop (at + length xs) l hl))
