-- The AVPs of a stretch stand one behind another: each of a list, and the first of a key, by their places.
-- Assumes nothing.
use mathlib.Core.Path.{◌≡◌, refl, sym, ap, ◌∙◌, subst}
use mathlib.Core.Bool.{Bool, true, false, cond}
use mathlib.Core.Option.{Option, some}
use mathlib.Core.List.{List}
use Prim.Native.Nat.{ℕ, ◌+◌, ◌≤◌, ◌<◌}
use native.Mathlib.Omega.{arith}
use lib.ListN.{length}
use lib.Dec.{eqb}
use borrow.Author.Tests.{eqb-true, eq-eqb}
use Rattle.std.proofs.lemmas.Bool.{and_parts}
use Rattle.paper.specs.Avp.{padded, length_of, framed, after, avp_of}
use Rattle.paper.specs.Reader.{Placed, Avps, whole, broken, more, placed, stump, avps, body_at}
use Rattle.paper.specs.Find.{has_key, first_of}
use Rattle.paper.specs.Firsts.{IsFirst, Among, here, behind, BreaksAt, at_once, later_on, Keyed, Leads}
use Rattle.paper.proofs.AvpLaws.{head_size-least, padded-least, head_and-body, length-after}
use Rattle.paper.proofs.AvpsLaws.{Each, each_map, avps_induction, some_injective, first_of-each, first_of-key}

-- ---- each of a list

pub each_among : (P Q : Placed → Type 0) {l : Avps} {p : Placed} → Each P Q l → Among l p → P p
each_among P Q e here = e.0
each_among P Q e (behind a) = each_among P Q e.1 a

-- every AVP of a list is one of it
pub among_each : (l : Avps) → Each (Among l) (BreaksAt l) l
among_each whole = tt
among_each (broken p) = at_once
among_each (more p rest) = (here, each_map (λ q a. behind a) (λ q b. later_on b) rest (among_each rest))

-- ---- places

-- where the data of an AVP ends
abbrev pub body_end : Placed → ℕ
body_end p = body_at p + length p.avp.body

-- the AVPs of the list stand from `at` on, each behind the data of the one before, and end at `to`
abbrev pub Lies : ℕ → ℕ → Avps → Type 0
Lies at to whole = Unit {0}
Lies at to (broken p) = (at ≤ p.at) × (p.at < to)
Lies at to (more p rest) = (at ≤ p.at) × (body_end p ≤ to) × Lies (body_end p) to rest

lies-earlier : (at at' to : ℕ) (l : Avps) → at ≤ at' → Lies at' to l → Lies at to l
lies-earlier at at' to whole h e = tt
lies-earlier at at' to (broken p) h e = (omega arith, e.1)
lies-earlier at at' to (more p rest) h e = (omega arith, e.1, e.2)

-- an AVP in front of those that stand behind it
lies_more : (at : ℕ) (s : List ℕ) → framed s ≡ true → (l : Avps) → Lies (at + padded (length_of s)) (at + padded (length_of s) + length (after s)) l
    → Lies at (at + length s) (more (placed at s) l)
unfolding placed avp_of
lies_more at s e l h =
    let n = length-after s e in
    let b = head_and-body s e in
    let k = padded-least (length_of s) in
    let to : at + padded (length_of s) + length (after s) ≡ at + length s = omega arith in
    (omega arith, omega arith, lies-earlier (body_end (placed at s)) (at + padded (length_of s)) (at + length s) l (omega arith) (rw to at h))

pub avps_lie : (at : ℕ) (s : List ℕ) → Lies at (at + length s) (avps at s)
unfolding stump
avps_lie =
    avps_induction (λ at s l. Lies at (at + length s) l) (λ at. tt) (λ at s e h. lies_more at s e (avps (at + padded (length_of s)) (after s)) h)
    (λ at s h e. (omega arith, omega arith))

pub body-behind : (p : Placed) → p.at < body_end p
body-behind p = let h = head_size-least p.avp.flags in omega arith

-- every AVP of the list, and what breaks it, lies in its stretch
abbrev pub Inside : ℕ → ℕ → Placed → Type 0
Inside at to p = (at ≤ p.at) × (body_end p ≤ to)

abbrev pub Before : ℕ → ℕ → Placed → Type 0
Before at to p = (at ≤ p.at) × (p.at < to)

pub lies-each : (at to : ℕ) (l : Avps) → Lies at to l → Each (Inside at to) (Before at to) l
lies-each at to whole e = tt
lies-each at to (broken p) e = e
lies-each at to (more p rest) e =
    let b = body-behind p in
    ((e.0, e.1), each_map (λ q i. (omega arith, i.1)) (λ q i. (omega arith, i.1)) rest (lies-each (body_end p) to rest e.2))

-- those behind an AVP stand behind it
pub behind-later : (at to : ℕ) (p : Placed) {rest : Avps} {q : Placed} → Lies at to (more p rest) → Among rest q → p.at < q.at
behind-later at to p {rest} e a =
    let b = body-behind p in
    let i = each_among (Inside (body_end p) to) (Before (body_end p) to) (lies-each (body_end p) to rest e.2) a in
    omega arith

-- no two stand at one place
pub same_place : (at to : ℕ) {l : Avps} {p q : Placed} → Lies at to l → Among l p → Among l q → p.at ≡ q.at → p ≡ q
same_place at to e here here h = refl
same_place at to e (here {p}) (behind b) h = let k = behind-later at to p e b in absurd (omega arith)
same_place at to e (behind a) (here {p}) h = let k = behind-later at to p e a in absurd (omega arith)
same_place at to e (behind {q} a) (behind b) h = same_place (body_end q) to e.2 a b h

-- ---- what is found first

-- one was found that stands no later
abbrev pub NoLater : {A : Type 0} → (A → ℕ) → Option A → A → Type 0
NoLater {A} place found y = (x : A) × (found ≡ some x) × (place x ≤ place y)

abbrev pub place_of : Placed → ℕ
place_of p = p.at

module _ (vendor code : ℕ) where
  first-there : (at to : ℕ) {l : Avps} {q : Placed} → Lies at to l → Among l q → has_key vendor code q.avp ≡ true → NoLater place_of (first_of vendor code l) q
  unfolding first_of
  first-there at to e (here {p}) k = (p, rw k, omega arith)
  first-there at to e (behind {p} {q} {rest} a) k = go (has_key vendor code q.avp) (behind-later at to q e a) (first-there (body_end q) to e.2 a k)
    where
      go : (b : Bool) → q.at < p.at → NoLater place_of (first_of vendor code rest) p → NoLater place_of (cond b (some q) (first_of vendor code rest)) p
      go true h f = (q, refl, omega arith)
      go false h f = f

  -- the first of a key
  pub first_keyed : (at to : ℕ) (l : Avps) → Lies at to l → IsFirst place_of (Keyed l vendor code) (first_of vendor code l)
  unfolding has_key
  first_keyed at to l e =
      record {
        is = λ x q.
            let k = first_of-key vendor code l x q in
            record {
              there = first_of-each (Among l) (BreaksAt l) vendor code l (among_each l) x q;
              of_vendor = eqb-true _ _ (and_parts (eqb x.avp.vendor vendor) (eqb x.avp.code code) k).0;
              of_code = eqb-true _ _ (and_parts (eqb x.avp.vendor vendor) (eqb x.avp.code code) k).1;
            };
        first = λ y k. first-there at to e k.there (rw (eq-eqb _ _ k.of_vendor, eq-eqb _ _ k.of_code));
      }

  pub found_leads : (at to : ℕ) (l : Avps) (p : Placed) → Lies at to l → first_of vendor code l ≡ some p → Leads l vendor code p
  found_leads at to l p e f =
      let k = first_keyed at to l e in
      record {
        one = k.is p f;
        first = λ q h. let n = k.first q h in let r : n.0 ≡ p = some_injective (sym n.1 ∙ f) in subst (λ (x : Placed). x.at ≤ q.at) r n.2;
      }

  pub leads_found : (at to : ℕ) (l : Avps) (p : Placed) → Lies at to l → Leads l vendor code p → first_of vendor code l ≡ some p
  leads_found at to l p e h =
      let k = first_keyed at to l e in
      let n = k.first p h.one in
      let x = k.is n.0 n.1 in
      let o = h.first n.0 x in
      let i = n.2 in
      n.1 ∙ ap (λ (q : Placed). some q) (same_place at to e x.there h.one.there (omega arith))
