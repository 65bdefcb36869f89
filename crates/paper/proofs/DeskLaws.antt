-- Reading frames off the input: a right frame is read whole, and nothing behind it.
-- Assumes nothing.
use mathlib.Core.Path.{◌≡◌, refl, ◌∙◌}
use mathlib.Core.Bool.{true}
use mathlib.Core.List.{List, ◌++◌}
use Prim.Native.Nat.{ℕ, ◌+◌, ◌-◌, ◌≤◌}
use native.Mathlib.Omega.{arith}
use lib.Dec.{leb, eqb}
use lib.ListN.{length, take, length-append}
use lib.Seq.{length-take-le, take_at}
use borrow.Author.Tests.{le-ltb, leb-true, eqb-true}
use Rattle.std.proofs.lemmas.Bool.{and_parts}
use Rattle.wire.specs.Number.{num_at}
use Rattle.wire.proofs.NumberLaws.{num_at-take, num_at-append-left}
use Rattle.paper.specs.Desk.{desk_head, most_frame, size_right, frame_right, rest_size, frame_at}

pub size-least : (n : ℕ) → size_right n ≡ true → desk_head ≤ n
unfolding size_right
size-least n e = leb-true desk_head n (and_parts (leb desk_head n) _ e).0

pub size-most : (n : ℕ) → size_right n ≡ true → n ≤ most_frame
unfolding size_right
size-most n e = leb-true n most_frame (and_parts (leb desk_head n) _ e).1

-- what a right frame's length field says: its length, six at least
pub record Right (f : List ℕ) : Type 0 where
  pub size : size_right (num_at 4 f 0) ≡ true
  pub whole : length f ≡ num_at 4 f 0
  pub long : desk_head ≤ length f

pub frame_parts : (f : List ℕ) → frame_right f ≡ true → Right f
unfolding frame_right
frame_parts f e =
    let size = (and_parts (size_right (num_at 4 f 0)) _ e).0 in
    let whole = eqb-true (length f) (num_at 4 f 0) (and_parts (eqb (length f) (num_at 4 f 0)) _ (and_parts (size_right (num_at 4 f 0)) _ e).1).0 in
    let least = size-least (num_at 4 f 0) size in
    record { size = size; whole = whole; long = omega arith }

pub frame-read : (f s : List ℕ) → frame_right f ≡ true → frame_at (f ++ s) ≡ f
unfolding frame_at rest_size
frame-read f s e =
    let r = frame_parts f e in
    let long = r.long in
    let both = length-append f s in
    let four : length (take 4 (f ++ s)) ≡ 4 = length-take-le 4 (f ++ s) (omega arith) in
    let said : num_at 4 (take 4 (f ++ s)) 0 ≡ num_at 4 f 0 = num_at-take 4 4 (f ++ s) 0 (omega arith) ∙ num_at-append-left 4 f s 0 (omega arith) in
    let whole = r.whole in
    let size : 4 + (num_at 4 f 0 - 4) ≡ length f = omega arith in
    rw (le-ltb (length (take 4 (f ++ s))) 4 (omega arith), said, r.size, size) (take_at f s (length f) refl)
