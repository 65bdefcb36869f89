-- AVPs written one after another read as these, in this order, and the visit of them finds nothing to refuse.
-- Assumes nothing.
use mathlib.Core.Path.{◌≡◌, refl, sym, ap, ◌∙◌}
use mathlib.Core.Logic.{◌≢◌}
use mathlib.Core.Bool.{true}
use mathlib.Core.List.{List, [], ◌++◌, append_assoc, append-nil}
use Prim.Native.Nat.{ℕ, ◌+◌, ◌-◌, ◌%◌, ◌^◌, ◌≤◌, ◌<◌}
use native.Mathlib.Omega.{arith}
use lib.ListN.{length, length-append}
use Rattle.dictionary.specs.declared.Kind.{Kind}
use Rattle.dictionary.specs.declared.Kind.TheVariants.{Group, Unknown}
use Rattle.dictionary.specs.Kinds.{size_right}
use Rattle.dictionary.specs.Rows.{kind_of}
use Rattle.paper.specs.declared.Visit.TheVariants.{Clean}
use Rattle.paper.specs.Avp.{Avp, Writable, head_size, padded, flags_for, vendor_field, as_received, written}
use Rattle.paper.specs.Reader.{Placed, Avps, whole, more, avps, body_at, each, view_avp, view, told, join}
use Rattle.paper.specs.Profile.{Key}
use Rattle.paper.specs.Answer.{item}
use Rattle.paper.specs.ReadBack.{Held, no_more, plain, showing, grouped, octet, of_key, avp_laid, held_laid, ReadAs, ends, reads, shows, enters, ◌and_then◌}
use Rattle.paper.proofs.AvpLaws.{padded-least}
use Rattle.paper.proofs.AvpsLaws.{avps_empty, avps-one}
use Rattle.paper.proofs.ViewLaws.{told_empty, told_then, told-group, told-sized, view_known, view-group-below}
use Rattle.paper.proofs.WrittenLaws.{one_written, read_as_received, one-written_for, read-written}
use Rattle.paper.proofs.AnswerParts.{length-item}

-- ---- their bytes

unfoldable pub bytes_of : Held → List ℕ
bytes_of no_more = []
bytes_of (plain k x h) = item k x ++ bytes_of h
bytes_of (showing k a h) = item k (as_received a) ++ bytes_of h
bytes_of (grouped k inner h) = item k (bytes_of inner) ++ bytes_of h

pub bytes_then : (h g : Held) → bytes_of (h and_then g) ≡ bytes_of h ++ bytes_of g
unfolding bytes_of ◌and_then◌
bytes_then no_more g = refl
bytes_then (plain k x h) g = rw (bytes_then h g, append_assoc)
bytes_then (showing k a h) g = rw (bytes_then h g, append_assoc)
bytes_then (grouped k inner h) g = rw (bytes_then h g, append_assoc)

-- ---- what the dictionary says of them

-- a key of the base protocol or of 3GPP
pub record Own (k : Key) : Type 0 where
  pub vendor : k.vendor < 256 ^ 4
  pub code : k.code < 256 ^ 4
  pub flags : flags_for k.vendor true ≡ octet k

-- and what the dictionary says of it
pub record KeyIn (kind : Kind) (k : Key) : Type 0 where
  pub own : Own k
  pub known : kind_of k.vendor k.code ≡ kind

-- the data has a size that the type of the key allows, and the AVP is not entered
pub record Fitting (k : Key) (x : List ℕ) : Type 0 where
  pub kind : Kind
  pub key : KeyIn kind k
  pub no_group : kind ≢ Group
  pub no_stranger : kind ≢ Unknown
  pub size : size_right kind (length x) ≡ true

-- `left` groups may still be entered, one in another
abbrev pub Sound : ℕ → Held → Type 0
Sound left no_more = Unit {0}
Sound left (plain k x h) = Fitting k x × Sound left h
Sound left (showing k a h) = Fitting k (as_received a) × (Writable a × Sound left h)
Sound left (grouped k inner h) = KeyIn Group k × ((1 ≤ left) × (Sound (left - 1) inner × Sound left h))

pub sound_then : (left : ℕ) (h g : Held) → Sound left h → Sound left g → Sound left (h and_then g)
unfolding ◌and_then◌
sound_then left no_more g s t = t
sound_then left (plain k x h) g s t = (s.0, sound_then left h g s.1 t)
sound_then left (showing k a h) g s t = (s.0, (s.1.0, sound_then left h g s.1.1 t))
sound_then left (grouped k inner h) g s t = (s.0, (s.1.0, (s.1.1.0, sound_then left h g s.1.1.1 t)))

-- ---- their bytes, laid out by numbers

padding-is : (n : ℕ) → padded n - n ≡ (4 - n % 4) % 4
unfolding padded
padding-is n = omega arith

avp_laid_lem : (a : Avp) → avp_laid a ≡ as_received a
unfolding avp_laid as_received head_size vendor_field
avp_laid_lem a = rw (padding-is (length a.body))

item_laid : (k : Key) → Own k → (x : List ℕ) → avp_laid (of_key k x) ≡ item k x
unfolding written
item_laid k o x = avp_laid_lem (of_key k x) ∙ ap (λ (f : ℕ). as_received (record { code = k.code; flags = f; vendor = k.vendor; body = x })) (sym o.flags)

pub held_laid_lem : (left : ℕ) (h : Held) → Sound left h → held_laid h ≡ bytes_of h
unfolding held_laid bytes_of
held_laid_lem left no_more s = refl
held_laid_lem left (plain k x h) s = rw (item_laid k s.0.key.own x, held_laid_lem left h s.1)
held_laid_lem left (showing k a h) s = rw (avp_laid_lem a, item_laid k s.0.key.own (as_received a), held_laid_lem left h s.1.1)
held_laid_lem left (grouped k inner h) s =
    rw (held_laid_lem (left - 1) inner s.1.1.0, item_laid k s.0.own (bytes_of inner), held_laid_lem left h s.1.1.1)

-- ---- read

-- a stretch that is one AVP
pub one_alone : (at : ℕ) (a : Avp) → Writable a → avps at (as_received a) ≡ more (record { at = at; end = at + length (as_received a); avp = a }) whole
one_alone at a w =
    let x = as_received a in
    ap (avps at) (sym (append-nil x))
    ∙ avps-one at [] (one_written a w)
    ∙ rw (append-nil x, read_as_received a w, avps_empty (at + length x))

-- no answer is as long as this, so every AVP of an answer says its own length
abbrev pub short : ℕ
short = 5000

rest-short : (a s : List ℕ) → length (a ++ s) ≤ short → length s ≤ short
rest-short a s h = let l = length-append a s in omega arith

-- what the visit makes of an AVP's data does not matter here
abbrev pub seen : ℕ → ℕ → List ℕ → List ℕ
seen vendor code x = x

-- a stretch reads as these, and the visit finds nothing
pub record Reads (left at : ℕ) (s : List ℕ) (h : Held) : Type 0 where
  pub these : ReadAs (avps at s) h
  pub clean : told (view kind_of seen left at s) ≡ Clean

-- an AVP in front of a stretch
module _ (left : ℕ) (k : Key) (x s : List ℕ) {kind : Kind} (i : KeyIn kind k) (l : length (item k x ++ s) ≤ short) (at : ℕ) where
  own-size : head_size (flags_for k.vendor true) + length x ≤ short
  own-size =
      let n = length-item k x in
      let p = padded-least (head_size (flags_for k.vendor true) + length x) in
      let e = length-append (item k x) s in
      omega arith

  -- it says its own length
  fits : head_size (flags_for k.vendor true) + length x < 256 ^ 3
  fits = let o = own-size in omega arith

  abbrev here : Placed
  here = record { at = at; end = at + length (item k x ++ s); avp = record { code = k.code; flags = flags_for k.vendor true; vendor = k.vendor; body = x } }

  front : avps at (item k x ++ s) ≡ more here (avps (at + length (item k x)) s)
  front =
      avps-one at s (one-written_for k.vendor k.code true x i.own.vendor i.own.code fits)
      ∙ ap (λ (a : Avp). more (record { at = at; end = at + length (item k x ++ s); avp = a }) (avps (at + length (item k x)) s)) (read-written k.vendor k.code true x i.own.vendor i.own.code fits)

  of_key_lem : here.avp ≡ of_key k x
  of_key_lem = ap (λ (n : ℕ). record { code = k.code; flags = n; vendor = k.vendor; body = x }) i.own.flags

  -- the visit of the AVP, and of what follows
  visited : told (view_avp kind_of seen left here) ≡ Clean → told (view kind_of seen left (at + length (item k x)) s) ≡ Clean → told (view kind_of seen left at (item k x ++ s)) ≡ Clean
  unfolding view each join
  visited p q =
      ap (λ (a : Avps). told (each (view_avp kind_of seen left) a)) front
      ∙ told_then (view_avp kind_of seen left here) (each (view_avp kind_of seen left) (avps (at + length (item k x)) s))
      ∙ rw (p, q)

  -- the AVP's data is shorter than the whole
  data_short : length x ≤ short
  data_short = let o = own-size in omega arith

-- an AVP that is not entered
leaf_visited : (left : ℕ) (k : Key) (x s : List ℕ) (f : Fitting k x) (l : length (item k x ++ s) ≤ short) (at : ℕ) → told (view_avp kind_of seen left (here left k x s f.key l at)) ≡ Clean
leaf_visited left k x s f l at =
    let p = here left k x s f.key l at in
    ap told (view_known kind_of seen left p (λ e. f.no_group (sym f.key.known ∙ e)) (λ e. f.no_stranger (sym f.key.known ∙ e)))
    ∙ told-sized (kind_of k.vendor k.code) x p
    ∙ rw (f.key.known, f.size)

group_visited : (left : ℕ) (k : Key) (x s : List ℕ) (i : KeyIn Group k) (l : length (item k x ++ s) ≤ short) (at : ℕ) → 1 ≤ left
    → told (view kind_of seen (left - 1) (body_at (here left k x s i l at)) x) ≡ Clean → told (view_avp kind_of seen left (here left k x s i l at)) ≡ Clean
group_visited left k x s i l at b e =
    let p = here left k x s i l at in
    ap told (view-group-below kind_of seen left p b i.known) ∙ told-group (view kind_of seen (left - 1) (body_at p) x) p ∙ e

-- AVPs written one after another read as these, wherever they stand
pub read_held : (left : ℕ) (h : Held) → Sound left h → length (bytes_of h) ≤ short → (at : ℕ) → Reads left at (bytes_of h) h
unfolding bytes_of
read_held left no_more s l at = record { these = rw (avps_empty at) ends; clean = told_empty kind_of seen left at }
read_held left (plain k x h) s l at =
    let rest = bytes_of h in
    let r = read_held left h s.1 (rest-short (item k x) rest l) (at + length (item k x)) in
    let i = s.0.key in
    record {
      these = rw (front left k x rest i l at) (reads (of_key_lem left k x rest i l at) r.these);
      clean = visited left k x rest i l at (leaf_visited left k x rest s.0 l at) r.clean;
    }
read_held left (showing k a h) s l at =
    let x = as_received a in
    let rest = bytes_of h in
    let r = read_held left h s.1.1 (rest-short (item k x) rest l) (at + length (item k x)) in
    let i = s.0.key in
    record {
      these = rw (front left k x rest i l at) (shows (of_key_lem left k x rest i l at) (one_alone (body_at (here left k x rest i l at)) a s.1.0) r.these);
      clean = visited left k x rest i l at (leaf_visited left k x rest s.0 l at) r.clean;
    }
read_held left (grouped k inner h) s l at =
    let x = bytes_of inner in
    let rest = bytes_of h in
    let r = read_held left h s.1.1.1 (rest-short (item k x) rest l) (at + length (item k x)) in
    let i = s.0 in
    let n = read_held (left - 1) inner s.1.1.0 (data_short left k x rest i l at) (body_at (here left k x rest i l at)) in
    record {
      these = rw (front left k x rest i l at) (enters (of_key_lem left k x rest i l at) n.these r.these);
      clean = visited left k x rest i l at (group_visited left k x rest i l at s.1.0 n.clean) r.clean;
    }
