-- Laws of AVPs that are written: an AVP is read as it was written, and what was read and is written again reads as the same AVP.
-- Assumes nothing.
use mathlib.Core.Path.{◌≡◌, refl, sym, ap, ◌∙◌}
use mathlib.Core.Bool.{Bool, true, false, cond, false≢true}
use mathlib.Core.List.{List, [], ◌∷◌, ◌++◌}
use Prim.Native.Nat.{ℕ, zero, suc, ◌+◌, ◌-◌, ◌^◌, ◌≤◌, ◌<◌}
use native.Mathlib.Omega.{arith}
use lib.ListN.{length, replicate, length-append, length-replicate}
use lib.Dec.{eqb, eqb-suc-zero}
use borrow.Author.Tests.{eqb-true}
use Rattle.wire.specs.Number.{be, num_at, Bytes}
use Rattle.wire.proofs.ListLaws.{part_middle}
use Rattle.wire.proofs.NumberLaws.{num_at-be, num_at-drop, num_at-lt, bytes_drop, bytes-part}
use Rattle.paper.specs.Avp.{Avp, has_v, has_m, head_size, padded, code_of, flags_of, length_of, vendor_of, framed, body_of, after, avp_of, vendor_field, as_received, flags_for, written, written_again, Writable, alike_of}
use Rattle.paper.specs.Reader.{Avps, placed, avps, unbroken, written_all, alikes}
use Rattle.paper.specs.Widened.{OneAvp, SameKey, mended}
use Rattle.paper.proofs.AvpLaws.{head_size-most, padded-least, padded_head, head_and-body}
use Rattle.paper.proofs.AvpsLaws.{avps_empty, avps-one, avps_induction}

-- ---- the bytes of an AVP

-- the header of an AVP with `n` bytes of data
unfoldable pub head_bytes : (code flags vendor n : ℕ) → List ℕ
head_bytes code flags vendor n = be 4 code ++ (flags ∷ (be 3 (head_size flags + n) ++ vendor_field flags vendor))

pub length_head : (code flags vendor n : ℕ) → length (head_bytes code flags vendor n) ≡ head_size flags
unfolding head_bytes vendor_field head_size
length_head code flags vendor n = go (has_v flags)
  where
    go : (b : Bool) → length (be 4 code ++ (flags ∷ (be 3 (cond b 12 8 + n) ++ cond b (be 4 vendor) []))) ≡ cond b 12 8
    go true = refl
    go false = refl

-- header, data, padding
pub head_body-padding : (a : Avp)
    → as_received a ≡ head_bytes a.code a.flags a.vendor (length a.body) ++ (a.body ++ replicate (padded (length a.body) - length a.body) 0)
unfolding as_received head_bytes
head_body-padding a = refl

pub length_as_received : (a : Avp) → length (as_received a) ≡ padded (head_size a.flags + length a.body)
length_as_received a =
    let n = length a.body in
    let l = length_head a.code a.flags a.vendor n in
    let p = padded-least n in
    let h = padded_head a.flags n in
    rw (head_body-padding a) (simp (length-append, length-replicate) (omega arith))

-- ---- read as it was written

field-read : (b : Bool) (v : ℕ) (x : List ℕ) → v < 256 ^ 4 → (b ≡ false → v ≡ 0) → cond b (num_at 4 (cond b (be 4 v) [] ++ x) 0) 0 ≡ v
field-read true v x h z = num_at-be 4 v x h
field-read false v x h z = sym (z refl)

module _ (a : Avp) (w : Writable a) where
  code-received : code_of (as_received a) ≡ a.code
  unfolding as_received
  code-received = num_at-be 4 a.code _ w.code

  flags-received : flags_of (as_received a) ≡ a.flags
  unfolding as_received
  flags-received = refl

  length-received : length_of (as_received a) ≡ head_size a.flags + length a.body
  unfolding as_received
  length-received = sym (num_at-drop 3 5 (as_received a) 0) ∙ num_at-be 3 (head_size a.flags + length a.body) _ w.fits

  vendor-received : vendor_of (as_received a) ≡ a.vendor
  unfolding as_received vendor_of vendor_field
  vendor-received =
      ap (λ (n : ℕ). cond (has_v a.flags) n 0) (sym (num_at-drop 4 8 (as_received a) 0))
      ∙ field-read (has_v a.flags) a.vendor (a.body ++ replicate (padded (length a.body) - length a.body) 0) w.vendor w.own

  body-received : body_of (as_received a) ≡ a.body
  unfolding body_of
  body-received =
      let n = length a.body in
      let e : head_size a.flags + n - head_size a.flags ≡ n = omega arith in
      rw (flags-received, length-received, e, head_body-padding a)
      (part_middle (head_size a.flags) n (head_bytes a.code a.flags a.vendor n) a.body _ (length_head a.code a.flags a.vendor n) refl)

  pub one_written : OneAvp (as_received a)
  one_written = record { long = rw (flags-received, length-received) (omega arith); exact = length_as_received a ∙ ap padded (sym length-received) }

  pub read_as_received : avp_of (as_received a) ≡ a
  unfolding avp_of
  read_as_received = λ i. record { code = code-received i; flags = flags-received i; vendor = vendor-received i; body = body-received i }

-- ---- the flags that an AVP is written with

has_v_for : (vendor : ℕ) (mandatory : Bool) → has_v (flags_for vendor mandatory) ≡ cond (eqb vendor 0) false true
unfolding flags_for
has_v_for zero true = refl
has_v_for zero false = refl
has_v_for (suc v) true = rw (eqb-suc-zero v)
has_v_for (suc v) false = rw (eqb-suc-zero v)

has_m_for : (vendor : ℕ) (mandatory : Bool) → has_m (flags_for vendor mandatory) ≡ mandatory
unfolding flags_for
has_m_for zero true = refl
has_m_for zero false = refl
has_m_for (suc v) true = rw (eqb-suc-zero v)
has_m_for (suc v) false = rw (eqb-suc-zero v)

-- without V the vendor is 0
vendor_for : (vendor : ℕ) (mandatory : Bool) → has_v (flags_for vendor mandatory) ≡ false → vendor ≡ 0
vendor_for vendor mandatory e = go (eqb vendor 0) refl (sym (has_v_for vendor mandatory) ∙ e)
  where
    go : (z : Bool) → eqb vendor 0 ≡ z → cond z false true ≡ false → vendor ≡ 0
    go true q r = eqb-true vendor 0 q
    go false q r = absurd (false≢true (sym r))

module _ (vendor code : ℕ) (mandatory : Bool) (body : List ℕ) (v : vendor < 256 ^ 4) (c : code < 256 ^ 4) (f : head_size (flags_for vendor mandatory) + length body < 256 ^ 3) where
  abbrev pub for_key : Avp
  for_key = record { code = code; flags = flags_for vendor mandatory; vendor = vendor; body = body }

  pub for_key_writable : Writable for_key
  for_key_writable = record { code = c; vendor = v; own = vendor_for vendor mandatory; fits = f }

  pub one-written_for : OneAvp (written vendor code mandatory body)
  unfolding written
  one-written_for = one_written for_key for_key_writable

  pub read-written : avp_of (written vendor code mandatory body) ≡ record { code = code; flags = flags_for vendor mandatory; vendor = vendor; body = body }
  unfolding written
  read-written = read_as_received for_key for_key_writable

  -- key, M and data are those that were written
  pub alike-written : alike_of (avp_of (written vendor code mandatory body)) ≡ record { vendor = vendor; code = code; mandatory = mandatory; body = body }
  unfolding alike_of
  alike-written = ap alike_of read-written ∙ λ i. record { vendor = vendor; code = code; mandatory = has_m_for vendor mandatory i; body = body }

-- ---- "An AVP written again keeps key [..], M and data"

-- without V the vendor is read as 0
pub vendor_without_V : (s : List ℕ) → has_v (flags_of s) ≡ false → vendor_of s ≡ 0
unfolding vendor_of
vendor_without_V s e = rw e

pub vendor-fits : (s : List ℕ) → Bytes s → vendor_of s < 256 ^ 4
unfolding vendor_of
vendor-fits s b = go (has_v (flags_of s))
  where
    go : (v : Bool) → cond v (num_at 4 s 8) 0 < 256 ^ 4
    go true = num_at-lt 4 s 8 b
    go false = omega arith

-- V is written only where it was received
head_size_again : (s : List ℕ) → head_size (flags_for (vendor_of s) (has_m (flags_of s))) ≤ head_size (flags_of s)
unfolding head_size
head_size_again s = go (has_v (flags_of s)) refl
  where
    mine : ℕ
    mine = flags_for (vendor_of s) (has_m (flags_of s))

    go : (v : Bool) → has_v (flags_of s) ≡ v → cond (has_v mine) 12 8 ≤ cond v 12 8
    go true e = head_size-most mine
    go false e = rw (has_v_for (vendor_of s) (has_m (flags_of s)), vendor_without_V s e) (omega arith)

module _ (s : List ℕ) (b : Bytes s) (e : framed s ≡ true) where
  pub read_writable : Writable (avp_of s)
  unfolding avp_of
  read_writable =
      record {
        code = num_at-lt 4 s 0 b;
        vendor = vendor-fits s b;
        own = vendor_without_V s;
        fits = rw (head_and-body s e) (num_at-lt 3 s 5 b);
      }

  -- as received: it reads as the very same
  pub received_again : avp_of (as_received (avp_of s)) ≡ avp_of s
  received_again = read_as_received (avp_of s) read_writable

  pub received_again_alike : alike_of (avp_of (as_received (avp_of s))) ≡ alike_of (avp_of s)
  received_again_alike = ap alike_of received_again

  again_fits : head_size (flags_for (vendor_of s) (has_m (flags_of s))) + length (body_of s) < 256 ^ 3
  again_fits =
      let h = head_size_again s in
      let l = num_at-lt 3 s 5 b in
      let k = head_and-body s e in
      omega arith

  -- by key, M and data: it reads as an AVP alike in these
  pub written_again_alike : alike_of (avp_of (written_again (avp_of s))) ≡ alike_of (avp_of s)
  unfolding written_again avp_of alike_of
  written_again_alike = alike-written (vendor_of s) (code_of s) (has_m (flags_of s)) (body_of s) (vendor-fits s b) (num_at-lt 4 s 0 b) again_fits

  pub one-written_again : OneAvp (written_again (avp_of s))
  unfolding written_again avp_of
  one-written_again = one-written_for (vendor_of s) (code_of s) (has_m (flags_of s)) (body_of s) (vendor-fits s b) (num_at-lt 4 s 0 b) again_fits

-- ---- an AVP with other data, its length mended

pub mended_writable : (a : Avp) (d : List ℕ) → Writable a → head_size a.flags + length d < 256 ^ 3 → Writable (mended a d)
unfolding mended
mended_writable a d w h = record { code = w.code; vendor = w.vendor; own = w.own; fits = h }

module _ (x : List ℕ) (b : Bytes x) (e : framed x ≡ true) (d : List ℕ) (h : head_size (flags_of x) + length d < 256 ^ 3) where
  room : Writable (mended (avp_of x) d)
  unfolding avp_of
  room = mended_writable (avp_of x) d (read_writable x b e) h

  pub one-mended : OneAvp (as_received (mended (avp_of x) d))
  one-mended = one_written (mended (avp_of x) d) room

  pub read-mended : avp_of (as_received (mended (avp_of x) d)) ≡ mended (avp_of x) d
  read-mended = read_as_received (mended (avp_of x) d) room

  pub key-mended : SameKey x (as_received (mended (avp_of x) d))
  unfolding avp_of mended
  key-mended = record { vendor = ap (λ (a : Avp). a.vendor) read-mended; code = ap (λ (a : Avp). a.code) read-mended }

  pub body-mended : body_of (as_received (mended (avp_of x) d)) ≡ d
  unfolding avp_of mended
  body-mended = ap (λ (a : Avp). a.body) read-mended

-- ---- lists

pub bytes_after : (s : List ℕ) → Bytes s → Bytes (after s)
unfolding after
bytes_after s b = bytes_drop (padded (length_of s)) s b

pub bytes-body : (s : List ℕ) → Bytes s → Bytes (body_of s)
unfolding body_of
bytes-body s b = bytes-part (head_size (flags_of s)) (length_of s - head_size (flags_of s)) s b

-- what a writer has to do with each AVP that was read
pub record Faithful (write : Avp → List ℕ) : Type 0 where
  pub one : (s : List ℕ) → Bytes s → framed s ≡ true → OneAvp (write (avp_of s))
  pub alike : (s : List ℕ) → Bytes s → framed s ≡ true → alike_of (avp_of (write (avp_of s))) ≡ alike_of (avp_of s)

pub faithful_as_received : Faithful as_received
faithful_as_received = record { one = λ s b e. one_written (avp_of s) (read_writable s b e); alike = received_again_alike }

pub faithful_written_again : Faithful written_again
faithful_written_again = record { one = one-written_again; alike = written_again_alike }

-- the list `r` is whole and has the AVPs of `l`
pub record SameList (l r : Avps) : Type 0 where
  pub all : unbroken r ≡ true
  pub alike : alikes r ≡ alikes l

module _ (write : Avp → List ℕ) (f : Faithful write) where
  -- A list of AVPs read and written again, one after another, reads as the same list.
  pub list_again : (at : ℕ) (s : List ℕ) → Bytes s → unbroken (avps at s) ≡ true → (at' : ℕ) → SameList (avps at s) (avps at' (written_all write (avps at s)))
  unfolding written_all alikes unbroken placed
  list_again =
      avps_induction (λ at s l. Bytes s → unbroken l ≡ true → (at' : ℕ) → SameList l (avps at' (written_all write l)))
      (λ at b u at'. rw (avps_empty at') (record { all = refl; alike = refl }))
      (λ at s e ih b u at'.
      let r = ih (bytes_after s b) u (at' + length (write (avp_of s))) in
      rw (avps-one at' _ (f.one s b e)) (record { all = r.all; alike = rw (f.alike s b e, r.alike) }))
      (λ at s h e b u. absurd (false≢true u))
