-- AVPs sought in a list that stands in a message: the places that code computes are the paper's, and what was found has its data in the message.
-- Assumes nothing.
use mathlib.Core.Path.{◌≡◌, refl, sym, ap, ◌∙◌}
use mathlib.Core.Bool.{Bool, true, false, cond}
use mathlib.Core.Option.{Option, none, some}
use mathlib.Core.List.{List, []}
use Prim.Native.Nat.{ℕ, ◌+◌, ◌-◌, ◌≤◌, ◌<◌}
use native.Mathlib.Omega.{arith}
use lib.Dec.{ltb}
use lib.ListN.{length, drop, length-drop}
use borrow.Author.Tests.{lt-ltb, le-ltb}
use Rattle.std.specs.Prelude as Std
use Rattle.std.specs.Prelude.{Some, None, is_some}
use Rattle.std.proofs.lemmas.Option.{none-some, same_Some}
use Rattle.wire.proofs.ListLaws.{length_part}
use Rattle.paper.specs.Avp.{head_size, flags_of, length_of, body_of, avp_of}
use Rattle.paper.specs.Reader.{Placed, placed, avps, body_at}
use Rattle.paper.specs.Find.{first_of, first_second, body_found}
use Rattle.paper.specs.Request.{earlier, inside, is_there}
use Rattle.paper.specs.Shown.{stretch}
use Rattle.paper.specs.ShownIn.{Standing}
use Rattle.paper.proofs.AvpLaws.{framed_at, head_and-body}
use Rattle.paper.proofs.AvpsLaws.{avps_empty}
use Rattle.paper.proofs.StandsIn.{body-fits, body-part}
use Rattle.avp.specs.declared.cursor.Avp.{Avp}
use Rattle.avp.specs.Step.{avp_at}
use Rattle.avp.specs.Found.{found_at}
use Rattle.avp.proofs.FindLaws.{Lies, lies-inside, found-lies, second-lies, found-placed, nothing_placed, second-placed, no_second-placed}
use Rattle.request.specs.declared.place.Spot.{Spot}
use Rattle.request.specs.Place.{spot_of, sought_of, earlier_sought, InMessage, DataIn, FoundIn, data_in, Finds}

-- ---- from a place in the list to a place in the message

-- the AVP `a` of the list of the bytes `s` that starts at `base` of the message
abbrev pub spot_at : ℕ → List ℕ → Avp → Spot
spot_at base s a = record { at = base + a.at; end = base + length s; from = base + a.start; to = base + a.end }

module _ (base : ℕ) (s : List ℕ) where
  spot_placed : {a : Avp} {f : Option Placed} → Lies s a f → spot_at base s a ≡ spot_of (placed (base + a.at) (drop a.at s))
  unfolding placed avp_of avp_at
  spot_placed {a} l =
      let x : List ℕ = drop a.at s in
      let room = framed_at a.at s l.right in
      let start : a.start ≡ a.at + head_size (flags_of x) = ap (λ (b : Avp). b.start) l.read in
      let stop : a.end ≡ a.at + length_of x = ap (λ (b : Avp). b.end) l.read in
      let size = head_and-body x l.right in
      let e₁ : base + length s ≡ base + a.at + length x = rw (length-drop a.at s) (omega arith) in
      let e₂ : base + a.start ≡ base + a.at + head_size (flags_of x) = omega arith in
      let e₃ : base + a.end ≡ base + a.at + head_size (flags_of x) + length (body_of x) = omega arith in
      λ j. record { at = base + a.at; end = e₁ j; from = e₂ j; to = e₃ j }

  -- its places can be counted where all of the list's can
  spot_fits : {a : Avp} {f : Option Placed} → Lies s a f → {top : ℕ} → base + length s < top → (base + a.at < top) × (base + a.end < top) × (base + a.start < top)
  spot_fits l h =
      let k = lies-inside l in
      let p = k.place in
      let o = k.order in
      let f = k.fits in
      (omega arith, omega arith, omega arith)

  module _ (vendor code : ℕ) where
    pub found-fits : {a : Avp} → Some a ≡ found_at s (first_of vendor code (avps 0 s)) → {top : ℕ} → base + length s < top → (base + a.at < top) × (base + a.end < top) × (base + a.start < top)
    found-fits e h = spot_fits (found-lies s vendor code e) h

    pub found_spot : {a : Avp} → Some a ≡ found_at s (first_of vendor code (avps 0 s)) → {r : Spot} → r ≡ spot_at base s a → Some r ≡ sought_of (first_of vendor code (avps base s))
    found_spot e q = ap Some (q ∙ spot_placed (found-lies s vendor code e)) ∙ sym (ap sought_of (found-placed base s vendor code e))

    pub found_no_spot : None ≡ found_at s (first_of vendor code (avps 0 s)) → None ≡ sought_of (first_of vendor code (avps base s))
    found_no_spot e = sym (ap sought_of (nothing_placed base s vendor code e))

  module _ (keys : List ℕ) where
    pub second_fits : {a : Avp} → Some a ≡ found_at s (first_second keys [] (avps 0 s)) → {top : ℕ} → base + length s < top → (base + a.at < top) × (base + a.end < top) × (base + a.start < top)
    second_fits e h = spot_fits (second-lies s keys e) h

    pub second_spot : {a : Avp} → Some a ≡ found_at s (first_second keys [] (avps 0 s)) → {r : Spot} → r ≡ spot_at base s a → Some r ≡ sought_of (first_second keys [] (avps base s))
    second_spot e q = ap Some (q ∙ spot_placed (second-lies s keys e)) ∙ sym (ap sought_of (second-placed base s keys e))

    pub second_no_spot : None ≡ found_at s (first_second keys [] (avps 0 s)) → None ≡ sought_of (first_second keys [] (avps base s))
    second_no_spot e = sym (ap sought_of (no_second-placed base s keys e))

-- ---- of two the earlier

pub earlier-first : (p q : Spot) → q.at < p.at → Some q ≡ earlier_sought (Some p) (Some q)
earlier-first p q h = rw (lt-ltb q.at p.at h)

pub earlier-second : (p q : Spot) → p.at ≤ q.at → Some p ≡ earlier_sought (Some p) (Some q)
earlier-second p q h = rw (le-ltb q.at p.at h)

pub earlier_sought_lem : (o q : Option Placed) → earlier_sought (sought_of o) (sought_of q) ≡ sought_of (earlier o q)
unfolding earlier
earlier_sought_lem none q = refl
earlier_sought_lem (some o) none = refl
earlier_sought_lem (some o) (some q) = go (ltb q.at o.at)
  where
    go : (b : Bool) → cond b (Some (spot_of q)) (Some (spot_of o)) ≡ sought_of (cond b (some q) (some o))
    go true = refl
    go false = refl

-- ---- what stands in the message

module _ (m : List ℕ) where
  pub data_inside : (o : Option Placed) → Standing m o → FoundIn m (sought_of o)
  data_inside none t = tt
  data_inside (some p) t = let b = body-fits m p (t p refl) in record { order = omega arith; fits = omega arith }

  pub data_bytes : (o : Option Placed) → Standing m o → data_in m (sought_of o) ≡ body_found o
  data_bytes none t = refl
  data_bytes (some p) t =
      let e : body_at p + length p.avp.body - body_at p ≡ length p.avp.body = omega arith in
      rw e (body-part m p (t p refl))

-- the data of an AVP stands in the message
pub data_stands : (m : List ℕ) {s : Spot} → DataIn m s → {x : List ℕ} → x ≡ stretch m s.from s.to → InMessage m s.from x
data_stands m {s} d {x} q =
    let o = d.order in
    let f = d.fits in
    let n : length x ≡ s.to - s.from = ap length q ∙ length_part s.from (s.to - s.from) m (omega arith) in
    let e : s.to ≡ s.from + length x = omega arith in
    record { fits = omega arith; same = q ∙ ap (stretch m s.from) e }

-- what is found in the message, from the places that the search answers
pub finds_lem : (m : List ℕ) (o : Option Placed) → Standing m o → {f : Std.Option Spot} → f ≡ sought_of o → Finds m o f
finds_lem m o t e = record { sought = e; stands = t; inside = rw e (data_inside m o t); value = rw e (data_bytes m o t) }

pub there-found : (o : Option Placed) {f : Std.Option Spot} → f ≡ sought_of o → is_there o ≡ is_some f
there-found none e = rw e
there-found (some p) e = rw e

-- the AVPs inside what was found
pub inside-spot : (o : Option Placed) {s : Spot} → Some s ≡ sought_of o → {x : List ℕ} → x ≡ body_found o → avps s.from x ≡ inside o
inside-spot none {s} e q = absurd (none-some s (sym e))
inside-spot (some p) {s} e q = let f : s.from ≡ body_at p = ap (λ (k : Spot). k.from) (same_Some s (spot_of p) e) in rw (f, q)

pub inside_nothing : (o : Option Placed) {f : Std.Option Spot} → f ≡ sought_of o → ((s : Spot) → f ≡ Some s → ⊥) → avps 0 [] ≡ inside o
inside_nothing none e n = avps_empty 0
inside_nothing (some p) e n = absurd (n (spot_of p) e)
