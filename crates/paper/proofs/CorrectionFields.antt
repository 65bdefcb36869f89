-- Bytes put into fields of a record: what the fields then hold, and that every other byte stays. Over any fields that ascend.
-- Assumes nothing.
use mathlib.Core.Path.{◌≡◌, refl, sym, ap, ◌∙◌}
use mathlib.Core.Logic.{◌⊎◌, inl, inr}
use mathlib.Core.Bool.{Bool, true, false, ◌&&◌, true≢false}
use mathlib.Core.List.{List, [], ◌∷◌}
use Prim.Native.Nat.{ℕ, ◌+◌, ◌≤◌, ◌<◌}
use native.Mathlib.Omega.{arith}
use lib.ListN.{length, take, drop, get_or, length-drop, take-append-drop}
use lib.Seq.{length-take-le}
use lib.Dec.{leb, ltb}
use borrow.Author.Tests.{leb-false, ltb-false}
use Rattle.wire.specs.Put.{part, put}
use Rattle.wire.proofs.PutLaws.{length-put, part-put, part-before, part-after, put-before, put-after}
use Rattle.paper.specs.Clerks.{Field, held_in, lies_in}
use Rattle.paper.proofs.TestLaws.{or-false-left, or-false-right}

-- each field in turn gets as many bytes of `v` as it has
unfoldable pub put_fields : List Field → List ℕ → List ℕ → List ℕ
put_fields [] v r = r
put_fields (x ∷ xs) v r = put_fields xs (drop x.size v) (put x.at (take x.size v) r)

abbrev pub size_of : List Field → ℕ
size_of [] = 0
size_of (x ∷ xs) = x.size + size_of xs

-- the fields stand one behind the other from byte `from` on, inside a record of `size` bytes
abbrev pub Ascend : ℕ → List Field → ℕ → Type 0
Ascend from [] size = from ≤ size
Ascend from (x ∷ xs) size = (from ≤ x.at) × Ascend (x.at + x.size) xs size

ascend_end : (from : ℕ) (xs : List Field) (size : ℕ) → Ascend from xs size → from ≤ size
ascend_end from [] size a = a
ascend_end from (x ∷ xs) size a = let h = ascend_end (x.at + x.size) xs size a.1 in let k = a.0 in omega arith

module _ (x : Field) (xs : List Field) (v r : List ℕ) (from : ℕ) (n : size_of (x ∷ xs) ≡ length v) (a : Ascend from (x ∷ xs) (length r)) where
  first-size : length (take x.size v) ≡ x.size
  first-size = length-take-le x.size v (omega arith)

  first_fits : x.at + length (take x.size v) ≤ length r
  first_fits = let h = ascend_end (x.at + x.size) xs (length r) a.1 in rw first-size h

  rest-size : size_of xs ≡ length (drop x.size v)
  rest-size = simp length-drop (omega arith)

  first-put : length (put x.at (take x.size v) r) ≡ length r
  first-put = length-put x.at (take x.size v) r first_fits

  rest_ascend : Ascend (x.at + x.size) xs (length (put x.at (take x.size v) r))
  rest_ascend = rw first-put a.1

pub length_put_fields : (xs : List Field) (v r : List ℕ) (from : ℕ) → size_of xs ≡ length v → Ascend from xs (length r) → length (put_fields xs v r) ≡ length r
unfolding put_fields
length_put_fields [] v r from n a = refl
length_put_fields (x ∷ xs) v r from n a =
    length_put_fields xs (drop x.size v) (put x.at (take x.size v) r) (x.at + x.size) (rest-size x xs v r from n a) (rest_ascend x xs v r from n a)
    ∙ first-put x xs v r from n a

-- what is before the fields stays
before_put_fields : (xs : List Field) (v r : List ℕ) (from p m : ℕ) → size_of xs ≡ length v → Ascend from xs (length r) → p + m ≤ from
    → part p m (put_fields xs v r) ≡ part p m r
unfolding put_fields
before_put_fields [] v r from p m n a h = refl
before_put_fields (x ∷ xs) v r from p m n a h =
    let k = a.0 in
    before_put_fields xs (drop x.size v) (put x.at (take x.size v) r) (x.at + x.size) p m (rest-size x xs v r from n a) (rest_ascend x xs v r from n a) (omega arith)
    ∙ part-before x.at p m (take x.size v) r (first_fits x xs v r from n a) (omega arith)

-- the fields hold what was put into them
pub held_put_fields : (xs : List Field) (v r : List ℕ) (from : ℕ) → size_of xs ≡ length v → Ascend from xs (length r) → held_in xs (put_fields xs v r) ≡ v
unfolding put_fields held_in
held_put_fields [] [] r from n a = refl
held_put_fields [] (b ∷ v) r from n a = absurd (omega arith)
held_put_fields (x ∷ xs) v r from n a =
    let d = drop x.size v in
    let s = put x.at (take x.size v) r in
    let rs = rest-size x xs v r from n a in
    let ra = rest_ascend x xs v r from n a in
    let ff = first_fits x xs v r from n a in
    let own : part x.at x.size (put_fields xs d s) ≡ take x.size v =
    before_put_fields xs d s (x.at + x.size) x.at x.size rs ra (omega arith)
    ∙ ap (λ (m : ℕ). part x.at m s) (sym (first-size x xs v r from n a))
    ∙ part-put x.at (take x.size v) r (omega arith) in
    rw (own, held_put_fields xs d s (x.at + x.size) rs ra) (take-append-drop x.size v)

-- a byte outside a field is before it or behind it
pub outside : (x : Field) (at : ℕ) → leb x.at at && ltb at (x.at + x.size) ≡ false → (at < x.at) ⊎ (x.at + x.size ≤ at)
outside x at e = go (leb x.at at) refl (ltb at (x.at + x.size)) refl
  where
    go : (b : Bool) → leb x.at at ≡ b → (d : Bool) → ltb at (x.at + x.size) ≡ d → (at < x.at) ⊎ (x.at + x.size ≤ at)
    go false p d q = inl (leb-false _ _ p)
    go true p false q = inr (ltb-false _ _ q)
    go true p true q = let k : true ≡ false = rw (p, q) at e in absurd (true≢false k)

-- a byte that belongs to none of the fields stays
pub byte_put_fields : (xs : List Field) (v r : List ℕ) (from at : ℕ) → size_of xs ≡ length v → Ascend from xs (length r) → lies_in xs at ≡ false
    → get_or (put_fields xs v r) at 0 ≡ get_or r at 0
unfolding put_fields lies_in
byte_put_fields [] v r from at n a e = refl
byte_put_fields (x ∷ xs) v r from at n a e =
    byte_put_fields xs (drop x.size v) s (x.at + x.size) at (rest-size x xs v r from n a) (rest_ascend x xs v r from n a) (or-false-right (leb x.at at && ltb at (x.at + x.size)) (lies_in xs at) e)
    ∙ go (outside x at (or-false-left (leb x.at at && ltb at (x.at + x.size)) (lies_in xs at) e))
  where
    s : List ℕ
    s = put x.at (take x.size v) r

    ff : x.at + length (take x.size v) ≤ length r
    ff = first_fits x xs v r from n a

    go : (at < x.at) ⊎ (x.at + x.size ≤ at) → get_or s at 0 ≡ get_or r at 0
    go (inl h) = let k = ff in put-before x.at at (take x.size v) r (omega arith) h
    go (inr h) = let k = ff in put-after x.at at (take x.size v) r (omega arith) (rw (first-size x xs v r from n a) h)

-- what stands in fields behind what is put stays
pub held_behind : (xs : List Field) (at : ℕ) (ys r : List ℕ) → at + length ys ≤ length r → Ascend (at + length ys) xs (length r) → held_in xs (put at ys r) ≡ held_in xs r
unfolding held_in
held_behind xs at ys r h = go xs (at + length ys) (omega arith)
  where
    go : (zs : List Field) (from : ℕ) → at + length ys ≤ from → Ascend from zs (length r) → held_in zs (put at ys r) ≡ held_in zs r
    go [] from b a = refl
    go (z ∷ zs) from b a =
        let k = a.0 in
        rw (part-after at z.at z.size ys r h (omega arith), go zs (z.at + z.size) (omega arith) a.1)
