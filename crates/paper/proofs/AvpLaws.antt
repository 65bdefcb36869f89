-- Laws of one AVP: sizes; the AVP in front of more bytes; the AVP at the front of a stretch cut out of it; the AVP at a place.
-- Assumes nothing.
use mathlib.Core.Path.{◌≡◌, refl, sym, ap, ◌∙◌}
use mathlib.Core.Bool.{Bool, true, false, cond, ◌&&◌}
use mathlib.Core.List.{List, ◌++◌}
use Prim.Native.Nat.{ℕ, ◌+◌, ◌-◌, ◌*◌, ◌/◌, ◌%◌, ◌≤◌, ◌<◌}
use native.Mathlib.Omega.{arith}
use lib.ListN.{length, take, drop, get_or, length-append, length-drop, take-append-drop, get_or-append}
use lib.Seq.{drop_at, drop-drop, get_or-take, get_or-drop, length-take-le}
use lib.Dec.{leb}
use borrow.Author.Tests.{le-leb, lt-leb, leb-true}
use Rattle.std.proofs.lemmas.Bool.{and_from, and_left, and_parts, and_right}
use Rattle.wire.specs.Number.{num_at}
use Rattle.wire.specs.Put.{part}
use Rattle.wire.proofs.ListLaws.{length_part, part-append-left}
use Rattle.wire.proofs.NumberLaws.{num_at_agree, num_at-drop}
use Rattle.paper.specs.Avp.{has_v, head_size, padded, code_of, flags_of, length_of, vendor_of, framed, body_of, after, avp_of}
use Rattle.paper.specs.Widened.{OneAvp}

-- ---- sizes

pub head_size-least : (flags : ℕ) → 8 ≤ head_size flags
unfolding head_size
head_size-least flags = go (has_v flags)
  where
    go : (b : Bool) → 8 ≤ cond b 12 8
    go true = omega arith
    go false = omega arith

pub head_size-most : (flags : ℕ) → head_size flags ≤ 12
unfolding head_size
head_size-most flags = go (has_v flags)
  where
    go : (b : Bool) → cond b 12 8 ≤ 12
    go true = omega arith
    go false = omega arith

pub padded-least : (n : ℕ) → n ≤ padded n
unfolding padded
padded-least n = omega arith

pub padded-most : (n : ℕ) → padded n ≤ n + 3
unfolding padded
padded-most n = omega arith

pub padded-fours : (n : ℕ) → padded n % 4 ≡ 0
unfolding padded
padded-fours n = omega arith

pub padded-whole : (n : ℕ) → n % 4 ≡ 0 → padded n ≡ n
unfolding padded
padded-whole n e = omega arith

-- a header is made of fours, so that only the data is padded
pub padded_head : (flags n : ℕ) → padded (head_size flags + n) ≡ head_size flags + padded n
unfolding head_size padded
padded_head flags n = go (has_v flags)
  where
    go : (b : Bool) → (cond b 12 8 + n + 3) / 4 * 4 ≡ cond b 12 8 + (n + 3) / 4 * 4
    go true = omega arith
    go false = omega arith

-- ---- stretches that begin with one head

pub record SameHead (s t : List ℕ) : Type 0 where
  pub code : code_of s ≡ code_of t
  pub flags : flags_of s ≡ flags_of t
  pub size : length_of s ≡ length_of t
  pub vendor : vendor_of s ≡ vendor_of t

abbrev pub Agree : List ℕ → List ℕ → ℕ → Type 0
Agree s t n = (k : ℕ) → k < n → get_or s k 0 ≡ get_or t k 0

number_agree : (s t : List ℕ) (n at m : ℕ) → at + n ≤ m → Agree s t m → num_at n s at ≡ num_at n t at
number_agree s t n at m h a = num_at_agree n at at s t (λ i l. a (at + i) (omega arith))

vendor_agree : (b : Bool) (s t : List ℕ) → Agree s t (cond b 12 8) → cond b (num_at 4 s 8) 0 ≡ cond b (num_at 4 t 8) 0
vendor_agree true s t a = number_agree s t 4 8 12 (omega arith) a
vendor_agree false s t a = refl

-- two stretches that agree on the header's bytes have the same head
pub head_agree : (s t : List ℕ) → Agree s t (head_size (flags_of t)) → SameHead s t
unfolding head_size vendor_of
head_agree s t a =
    let l = head_size-least (flags_of t) in
    let f : get_or s 4 0 ≡ get_or t 4 0 = a 4 (omega arith) in
    record {
      code = number_agree s t 4 0 (head_size (flags_of t)) (omega arith) a;
      flags = f;
      size = number_agree s t 3 5 (head_size (flags_of t)) (omega arith) a;
      vendor = rw f (vendor_agree (has_v (get_or t 4 0)) s t a);
    }

-- ---- a length that is right

pub record Framed (s : List ℕ) : Type 0 where
  pub long : head_size (flags_of s) ≤ length_of s
  pub inside : padded (length_of s) ≤ length s

-- the two tests of `framed`
abbrev long_test : List ℕ → Bool
long_test s = leb (head_size (flags_of s)) (length_of s)

abbrev inside_test : List ℕ → Bool
inside_test s = leb (padded (length_of s)) (length s)

pub framed-sizes : (s : List ℕ) → framed s ≡ true → Framed s
unfolding framed
framed-sizes s e = record { long = leb-true _ _ (and_parts (long_test s) (inside_test s) e).0; inside = leb-true _ _ (and_parts (long_test s) (inside_test s) e).1 }

pub sizes-framed : (s : List ℕ) → head_size (flags_of s) ≤ length_of s → padded (length_of s) ≤ length s → framed s ≡ true
unfolding framed
sizes-framed s a b = and_from (long_test s) (inside_test s) (le-leb _ _ a) (le-leb _ _ b)

pub short_unframed : (s : List ℕ) → length_of s < head_size (flags_of s) → framed s ≡ false
unfolding framed
short_unframed s a = and_left (long_test s) (inside_test s) (lt-leb _ _ a)

pub outside_unframed : (s : List ℕ) → length s < padded (length_of s) → framed s ≡ false
unfolding framed
outside_unframed s a = and_right (long_test s) (inside_test s) (lt-leb _ _ a)

-- too few bytes for the header that the flags ask for
pub stump_unframed : (s : List ℕ) → length s < head_size (flags_of s) → framed s ≡ false
unfolding framed
stump_unframed s h = go (long_test s) refl
  where
    go : (b : Bool) → long_test s ≡ b → b && inside_test s ≡ false
    go true e = let l = leb-true (head_size (flags_of s)) (length_of s) e in let p = padded-least (length_of s) in lt-leb (padded (length_of s)) (length s) (omega arith)
    go false e = refl

-- ---- an AVP in front of more bytes

module _ {x : List ℕ} (o : OneAvp x) where
  pub one_head : head_size (flags_of x) ≤ length x
  one_head = let h = padded-least (length_of x) in let a = o.long in let b = o.exact in omega arith

  pub one-least : 8 ≤ length x
  one-least = let h = head_size-least (flags_of x) in let a = one_head in omega arith

  pub head_append : (s : List ℕ) → SameHead (x ++ s) x
  head_append s = let h = one_head in head_agree (x ++ s) x (λ k l. get_or-append x s 0 k (omega arith))

  pub body-append : (s : List ℕ) → body_of (x ++ s) ≡ body_of x
  unfolding body_of
  body-append s =
      let h = head_append s in
      let a = one_head in
      let b = o.exact in
      let p = padded-least (length_of x) in
      rw (h.flags, h.size) (part-append-left (head_size (flags_of x)) (length_of x - head_size (flags_of x)) x s (omega arith))

  pub after-append : (s : List ℕ) → after (x ++ s) ≡ s
  unfolding after
  after-append s = rw (head_append s).size (drop_at x s (padded (length_of x)) o.exact)

  pub framed-append : (s : List ℕ) → framed (x ++ s) ≡ true
  framed-append s =
      let h = head_append s in
      let b = o.exact in
      sizes-framed (x ++ s) (rw (h.flags, h.size) o.long) (rw (h.size, length-append) (omega arith))

  pub avp-append : (s : List ℕ) → avp_of (x ++ s) ≡ avp_of x
  unfolding avp_of
  avp-append s = let h = head_append s in λ i. record { code = h.code i; flags = h.flags i; vendor = h.vendor i; body = body-append s i }

-- ---- the AVP at the front of a stretch, cut out of it

-- the bytes of the AVP at the front, with its padding
unfoldable pub front_avp : List ℕ → List ℕ
front_avp s = take (padded (length_of s)) s

module _ (s : List ℕ) (e : framed s ≡ true) where
  pub framed_head : head_size (flags_of s) ≤ length s
  framed_head = let f = framed-sizes s e in let a = f.long in let b = f.inside in let p = padded-least (length_of s) in omega arith

  pub framed-least : 8 ≤ length s
  framed-least = let h = framed_head in let l = head_size-least (flags_of s) in omega arith

  -- the AVP takes bytes
  pub framed_takes : 8 ≤ padded (length_of s)
  framed_takes = let a = (framed-sizes s e).long in let p = padded-least (length_of s) in let l = head_size-least (flags_of s) in omega arith

  pub length-body : length (body_of s) ≡ length_of s - head_size (flags_of s)
  unfolding body_of
  length-body =
      let a = (framed-sizes s e).long in
      let b = (framed-sizes s e).inside in
      let p = padded-least (length_of s) in
      length_part (head_size (flags_of s)) (length_of s - head_size (flags_of s)) s (omega arith)

  -- the length of the whole AVP, from its data
  pub head_and-body : head_size (flags_of s) + length (body_of s) ≡ length_of s
  head_and-body = let a = (framed-sizes s e).long in rw length-body (omega arith)

  pub after_shorter : length (after s) < length s
  unfolding after
  after_shorter = let t = framed_takes in let h = framed-least in rw length-drop (omega arith)

  pub length-after : padded (length_of s) + length (after s) ≡ length s
  unfolding after
  length-after = let b = (framed-sizes s e).inside in rw length-drop (omega arith)

  pub front_head : SameHead (front_avp s) s
  unfolding front_avp
  front_head =
      let a = (framed-sizes s e).long in
      let p = padded-least (length_of s) in
      head_agree (front_avp s) s (λ k l. get_or-take (padded (length_of s)) s k 0 (omega arith))

  pub front_one : OneAvp (front_avp s)
  unfolding front_avp
  front_one =
      let h = front_head in
      record {
        long = rw (h.flags, h.size) (framed-sizes s e).long;
        exact = length-take-le (padded (length_of s)) s (framed-sizes s e).inside ∙ ap padded (sym h.size);
      }

  pub length_front : length (front_avp s) ≡ padded (length_of s)
  unfolding front_avp
  length_front = length-take-le (padded (length_of s)) s (framed-sizes s e).inside

  pub front_rejoin : front_avp s ++ after s ≡ s
  unfolding front_avp after
  front_rejoin = take-append-drop (padded (length_of s)) s

  pub front_body : body_of (front_avp s) ≡ body_of s
  front_body = sym (body-append front_one (after s)) ∙ ap body_of front_rejoin

  pub front_avp_lem : avp_of (front_avp s) ≡ avp_of s
  front_avp_lem = sym (avp-append front_one (after s)) ∙ ap avp_of front_rejoin

pub one-framed : {x : List ℕ} → OneAvp x → framed x ≡ true
one-framed {x} o = let e = o.exact in sizes-framed x o.long (omega arith)

-- ---- the AVP at a place of a stretch

module _ (at : ℕ) (s : List ℕ) where
  pub code_at : code_of (drop at s) ≡ num_at 4 s at
  code_at = num_at-drop 4 at s 0 ∙ ap (num_at 4 s) (omega arith)

  pub flags-at : flags_of (drop at s) ≡ get_or s (at + 4) 0
  flags-at = get_or-drop at s 4 0

  pub length_at : length_of (drop at s) ≡ num_at 3 s (at + 5)
  length_at = num_at-drop 3 at s 5

  pub vendor-at : vendor_of (drop at s) ≡ cond (has_v (get_or s (at + 4) 0)) (num_at 4 s (at + 8)) 0
  unfolding vendor_of
  vendor-at = rw (flags-at, num_at-drop 4 at s 8)

  pub body_at : body_of (drop at s) ≡ part (at + head_size (flags_of (drop at s))) (length_of (drop at s) - head_size (flags_of (drop at s))) s
  unfolding body_of
  body_at = ap (take (length_of (drop at s) - head_size (flags_of (drop at s)))) (drop-drop (head_size (flags_of (drop at s))) at s)

  pub after-at : after (drop at s) ≡ drop (at + padded (length_of (drop at s))) s
  unfolding after
  after-at = drop-drop (padded (length_of (drop at s))) at s

  -- where its length is right, it and its padding end inside the stretch
  pub framed_at : framed (drop at s) ≡ true → at + padded (length_of (drop at s)) ≤ length s
  framed_at e =
      let b = rw length-drop at (framed-sizes (drop at s) e).inside in
      let t = framed_takes (drop at s) e in
      omega arith
