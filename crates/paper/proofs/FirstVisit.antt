-- "first fault of the visit", "visited unknown AVP with M set; the first": what the visit finds is that fault and that AVP.
-- Assumes nothing.
use mathlib.Core.Path.{◌≡◌, refl, sym, ap, subst}
use mathlib.Core.Bool.{false, false≢true}
use mathlib.Core.Option.{Option, none, some}
use mathlib.Core.List.{List}
use Prim.Native.Nat.{ℕ, zero, suc, ◌+◌, ◌-◌, ◌≤◌, ◌<◌}
use native.Mathlib.Omega.{arith}
use lib.ListN.{length, drop}
use borrow.Author.Tests.{eqb-false, ne_eqb}
use Rattle.dictionary.specs.Kinds.{size_right}
use Rattle.dictionary.specs.Rows.{kind_of}
use Rattle.dictionary.specs.declared.Kind.{Kind}
use Rattle.dictionary.specs.declared.Kind.TheVariants.{Four, Eight, Any, Group, Closed, Unknown}
use Rattle.paper.specs.Reader.{Placed, Avps, more, Faulty, View, most_groups, or_else, ◌then◌, faulty, unknown, body_at, bare, sized, group, each, by_kind, view_avp, view}
use Rattle.paper.specs.Request.{view_of}
use Rattle.paper.specs.Firsts.{IsFirst, Among, here, behind, BreaksAt, at_once, later_on, inside_of, top_of, kind_at, Visits, top, within, Faults, no_avp, not_four, not_eight, too_deep, Mandatory}
use Rattle.paper.specs.Firsts as Firsts
use Rattle.paper.proofs.AvpsLaws.{Each, each_map}
use Rattle.paper.proofs.VisitLaws.{Found, found_none, fault, Shows, Reaches, avp-shows, list-shows}
use Rattle.paper.proofs.FirstLaws.{among_each, body_end, Lies, avps_lie, body-behind, Inside, Before, lies-each, NoLater, place_of}

-- the visit of a request sees all of the data
abbrev data_seen : ℕ → ℕ → List ℕ → List ℕ
data_seen vendor code x = x

-- the view of an AVP where `left` groups may still be entered, and of a list there
abbrev view_one : ℕ → Placed → View
view_one left p = view_avp kind_of data_seen left p

abbrev view_list : ℕ → Avps → View
view_list left l = each (view_one left) l

abbrev fault_at : Faulty → ℕ
fault_at f = f.shown.at

-- ---- what is found is a fault, and an unknown AVP with M

module _ (m : List ℕ) where
  abbrev IsFault : Faulty → Type 0
  IsFault f = Faults m f.code f.shown.at f.shown.end

  -- an AVP of a visited list, or what breaks one off, where `left` groups may still be entered
  record Visited (In : Avps → Placed → Type 0) (left : ℕ) (p : Placed) : Type 0 where
    depth : ℕ
    list : Avps
    visits : Visits m depth list
    there : In list p
    sum : depth + left ≡ 8

  visited_each : (left d : ℕ) (l : Avps) → d + left ≡ 8 → Visits m d l → Each (Visited Among left) (Visited BreaksAt left) l
  visited_each left d l e v =
      each_map (λ p t. record { depth = d; list = l; visits = v; there = t; sum = e }) (λ p t. record { depth = d; list = l; visits = v; there = t; sum = e }) l (among_each l)

  wrong_size : (k : Kind) (left : ℕ) (p : Placed) → Visited Among left p → kind_at p ≡ k → size_right k (length p.avp.body) ≡ false → IsFault (fault 5014 (bare p))
  wrong_size Four left p t k e = not_four t.visits t.there k (eqb-false _ 4 e)
  wrong_size Eight left p t k e = not_eight t.visits t.there k (eqb-false _ 8 e)
  wrong_size Any left p t k e = absurd (false≢true (sym e))
  wrong_size Group left p t k e = absurd (false≢true (sym e))
  wrong_size Closed left p t k e = absurd (false≢true (sym e))
  wrong_size Unknown left p t k e = absurd (false≢true (sym e))

  visited_on : Reaches kind_of IsFault (Mandatory m) (Visited Among) (Visited BreaksAt)
  visited_on =
      record {
        mandatory = λ left p t k e. Firsts.unknown t.visits t.there k e;
        size = λ left p t e. wrong_size (kind_at p) left p t refl e;
        breaks = λ left p t. no_avp t.visits t.there;
        deep = λ p t k. let d : t.depth ≡ 8 = let s = t.sum in omega arith in too_deep (subst (λ (d : ℕ). Visits m d t.list) d t.visits) t.there k;
        enters = λ left p t k. let s = t.sum in visited_each left (suc t.depth) (inside_of p) (omega arith) (within t.visits t.there k (omega arith));
      }

  message-shows : Shows IsFault (Mandatory m) (view_of m)
  unfolding view_of view
  message-shows = list-shows kind_of data_seen IsFault (Mandatory m) (Visited Among) (Visited BreaksAt) visited_on most_groups (top_of m) (visited_each 8 0 (top_of m) refl top)

-- ---- places: what the visit of an AVP finds stands between its head and the end of its data

module _ (at to : ℕ) where
  abbrev Between : ℕ → Type 0
  Between n = (at ≤ n) × (n < to)

  inside_on : Reaches kind_of (λ f. Between f.shown.at) (λ p. Between p.at) (λ left. Inside at to) (λ left. Before at to)
  inside_on =
      record {
        mandatory = λ left p t k e. here-between p t;
        size = λ left p t e. here-between p t;
        breaks = λ left p t. t;
        deep = λ p t k. here-between p t;
        enters = λ left p t k.
            each_map (λ q i. (omega arith, omega arith)) (λ q i. (omega arith, omega arith)) (inside_of p) (lies-each (body_at p) (body_end p) (inside_of p) (avps_lie (body_at p) p.avp.body));
      }
    where
      here-between : (p : Placed) → Inside at to p → Between p.at
      here-between p t = let b = body-behind p in (t.0, omega arith)

  list-between : (left : ℕ) (l : Avps) → Lies at to l → Shows (λ f. Between f.shown.at) (λ p. Between p.at) (view_list left l)
  list-between left l e =
      list-shows kind_of data_seen (λ f. Between f.shown.at) (λ p. Between p.at) (λ left. Inside at to) (λ left. Before at to) inside_on left l (lies-each at to l e)

avp-between : (left : ℕ) (p : Placed) → Shows (λ f. Between p.at (body_end p) f.shown.at) (λ q. Between p.at (body_end p) q.at) (view_one left p)
avp-between left p =
    avp-shows kind_of data_seen (λ f. Between p.at (body_end p) f.shown.at) (λ q. Between p.at (body_end p) q.at) (λ left. Inside p.at (body_end p)) (λ left. Before p.at (body_end p))
    (inside_on p.at (body_end p)) left p (omega arith, omega arith)

-- ---- nothing of a part stands before what the whole shows

abbrev NoLaterThan : {A : Type 0} → (A → ℕ) → Option A → Option A → Type 0
NoLaterThan {A} place a b = (y : A) → b ≡ some y → NoLater place a y

record Covers (v w : View) : Type 0 where
  fault : NoLaterThan fault_at v.fault w.fault
  unsupported : NoLaterThan place_of v.unsupported w.unsupported

itself : {A : Type 0} (place : A → ℕ) (a : Option A) → NoLaterThan place a a
itself place a y e = (y, e, omega arith)

through : {A : Type 0} (place : A → ℕ) (a b c : Option A) → NoLaterThan place a b → NoLaterThan place b c → NoLaterThan place a c
through place a b c f g z e =
    let y = g z e in
    let x = f y.0 y.1 in
    (x.0, x.1, let i = x.2 in let j = y.2 in omega arith)

first_of_two : {A : Type 0} (place : A → ℕ) (a b : Option A) → NoLaterThan place (or_else a b) a
first_of_two place none b y e = found_none (λ x. NoLater place b y) y e
first_of_two place (some x) b y e = (y, e, omega arith)

second_of_two : {A : Type 0} (place : A → ℕ) (n : ℕ) (a b : Option A) → Found (λ x. place x < n) a → Found (λ y. n ≤ place y) b → NoLaterThan place (or_else a b) b
second_of_two place n none b f g y e = (y, e, omega arith)
second_of_two place n (some x) b f g y e = let i = f x refl in let j = g y e in (x, refl, omega arith)

covers_itself : (v : View) → Covers v v
covers_itself v = record { fault = itself fault_at v.fault; unsupported = itself place_of v.unsupported }

covers_through : (u v w : View) → Covers u v → Covers v w → Covers u w
covers_through u v w f g =
    record {
      fault = through fault_at u.fault v.fault w.fault f.fault g.fault;
      unsupported = through place_of u.unsupported v.unsupported w.unsupported f.unsupported g.unsupported;
    }

covers_first : (v w : View) → Covers (v then w) v
unfolding ◌then◌
covers_first v w = record { fault = first_of_two fault_at v.fault w.fault; unsupported = first_of_two place_of v.unsupported w.unsupported }

-- an AVP and those behind it
covers_behind : (left at to : ℕ) (p : Placed) (rest : Avps) → Lies at to (more p rest) → Covers (view_one left p then view_list left rest) (view_list left rest)
unfolding ◌then◌
covers_behind left at to p rest e =
    let v = view_one left p in
    let w = view_list left rest in
    let a = avp-between left p in
    let b = list-between (body_end p) to left rest e.2 in
    record {
      fault = second_of_two fault_at (body_end p) v.fault w.fault (λ x q. (a.fault x q).1) (λ y q. (b.fault y q).0);
      unsupported = second_of_two place_of (body_end p) v.unsupported w.unsupported (λ x q. (a.unsupported x q).1) (λ y q. (b.unsupported y q).0);
    }

module _ (left : ℕ) where
  covers_among : (at to : ℕ) {l : Avps} {p : Placed} → Lies at to l → Among l p → Covers (view_list left l) (view_one left p)
  unfolding each
  covers_among at to e (here {p} {rest}) = covers_first (view_one left p) (view_list left rest)
  covers_among at to e (behind {p} {q} {rest} a) =
      covers_through _ (view_list left rest) (view_one left p) (covers_behind left at to q rest e) (covers_among (body_end q) to e.2 a)

  covers_broken : (at to : ℕ) {l : Avps} {p : Placed} → Lies at to l → BreaksAt l p → Covers (view_list left l) (faulty 5014 p)
  unfolding each
  covers_broken at to e (at_once {p}) = covers_itself (faulty 5014 p)
  covers_broken at to e (later_on {p} {q} {rest} b) =
      covers_through _ (view_list left rest) (faulty 5014 p) (covers_behind left at to q rest e) (covers_broken (body_end q) to e.2 b)

-- ---- the whole visit

-- what the view of a group shows
inner : ℕ → Placed → View
inner zero p = faulty 5004 (bare p)
inner (suc left) p = group (view_list left (inside_of p)) p

avp-by : (left : ℕ) (p : Placed) (k : Kind) → kind_at p ≡ k → view_one left p ≡ by_kind k p.avp.body (inner left p) p
unfolding view_avp inner
avp-by zero p k e = ap (λ (k : Kind). by_kind k p.avp.body (inner zero p) p) e
avp-by (suc left) p k e = ap (λ (k : Kind). by_kind k p.avp.body (inner (suc left) p) p) e

module _ (m : List ℕ) where
  visits_lie : {d : ℕ} {l : Avps} → Visits m d l → (at : ℕ) × (to : ℕ) × Lies at to l
  visits_lie top = (20, 20 + length (drop 20 m), avps_lie 20 (drop 20 m))
  visits_lie (within {g} v a k h) = (body_at g, body_end g, avps_lie (body_at g) g.avp.body)

  visits_deep : {d : ℕ} {l : Avps} → Visits m d l → d ≤ 8
  visits_deep top = omega arith
  visits_deep (within v a k h) = omega arith

  covers_group : (left : ℕ) (g : Placed) → kind_at g ≡ Group → Covers (view_one (suc left) g) (view_list left (inside_of g))
  unfolding by_kind inner group
  covers_group left g k = rw (avp-by (suc left) g Group k) (record { fault = itself fault_at (view_list left (inside_of g)).fault; unsupported = itself place_of (view_list left (inside_of g)).unsupported })

  visits_cover : (left : ℕ) {d : ℕ} {l : Avps} → d + left ≡ 8 → Visits m d l → Covers (view_of m) (view_list left l)
  unfolding view_of view
  visits_cover left e top = let n : left ≡ 8 = omega arith in rw n (covers_itself (view_list 8 (top_of m)))
  visits_cover left e (within {d} {l} {g} v a k h) =
      let above = visits_cover (suc left) (omega arith) v in
      let place = visits_lie v in
      let one = covers_among (suc left) place.0 place.1 place.2 a in
      covers_through (view_of m) (view_one (suc left) g) (view_list left (inside_of g)) (covers_through (view_of m) (view_list (suc left) l) (view_one (suc left) g) above one) (covers_group left g k)

  -- the visit of an AVP, by its kind
  visit_covers : (left : ℕ) {d : ℕ} {l : Avps} {p : Placed} (k : Kind) → d + left ≡ 8 → Visits m d l → Among l p → kind_at p ≡ k
      → Covers (view_of m) (by_kind k p.avp.body (inner left p) p)
  visit_covers left {l} {p} k e v a q =
      let place = visits_lie v in
      rw (avp-by left p k q) at (covers_through (view_of m) (view_list left l) (view_one left p) (visits_cover left e v) (covers_among left place.0 place.1 place.2 a))

  mandatory_no_later : (p : Placed) → Mandatory m p → NoLater place_of (view_of m).unsupported p
  unfolding by_kind unknown
  mandatory_no_later p (Firsts.unknown {d} v a k e) =
      let n = visits_deep v in
      (visit_covers (8 - d) Unknown (omega arith) v a k).unsupported p (rw e)

  wrong_covers : (k : Kind) {d : ℕ} {l : Avps} {p : Placed} → Visits m d l → Among l p → kind_at p ≡ k → by_kind k p.avp.body (inner (8 - d) p) p ≡ faulty 5014 (bare p)
      → NoLater fault_at (view_of m).fault (fault 5014 (bare p))
  unfolding faulty
  wrong_covers k {d} {p} v a q e =
      let n = visits_deep v in
      (rw e at (visit_covers (8 - d) k (omega arith) v a q)).fault (fault 5014 (bare p)) refl

  fault_no_later : {code at to : ℕ} → Faults m code at to → (x : Faulty) × ((view_of m).fault ≡ some x) × (x.shown.at ≤ at)
  unfolding by_kind sized faulty inner
  fault_no_later (no_avp {d} {l} {p} v b) =
      let n = visits_deep v in
      let place = visits_lie v in
      (covers_through (view_of m) (view_list (8 - d) l) (faulty 5014 p) (visits_cover (8 - d) (omega arith) v) (covers_broken (8 - d) place.0 place.1 place.2 b)).fault (fault 5014 p) refl
  fault_no_later (not_four {p} v a k h) = wrong_covers Four v a k (rw (ne_eqb (length p.avp.body) 4 h))
  fault_no_later (not_eight {p} v a k h) = wrong_covers Eight v a k (rw (ne_eqb (length p.avp.body) 8 h))
  fault_no_later (too_deep {p} v a k) = (visit_covers 0 Group refl v a k).fault (fault 5004 (bare p)) refl

  -- what 5001 shows is the first visited unknown AVP with M
  pub first-mandatory : IsFirst place_of (Mandatory m) (view_of m).unsupported
  first-mandatory = record { is = (message-shows m).unsupported; first = mandatory_no_later }

  -- what 5014 and 5004 show is the first fault of the visit
  pub first_fault : IsFirst fault_at (IsFault m) (view_of m).fault
  first_fault = record { is = (message-shows m).fault; first = λ f q. fault_no_later q }
