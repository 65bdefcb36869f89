-- What a view shows is small: a fault a head alone, an unknown AVP with M no more than the AVP of the top level that it is or lies inside.
-- Assumes nothing.
use mathlib.Core.Path.{◌≡◌, refl, ap}
use mathlib.Core.Logic.{◌≢◌}
use mathlib.Core.Bool.{true}
use mathlib.Core.List.{List, []}
use Prim.Native.Nat.{ℕ, zero, suc, ◌+◌, ◌≤◌}
use native.Mathlib.Omega.{arith}
use lib.ListN.{length}
use Rattle.dictionary.specs.declared.Kind.{Kind}
use Rattle.dictionary.specs.declared.Kind.TheVariants.{Four, Eight, Any, Group, Closed, Unknown}
use Rattle.dictionary.specs.Kinds.{size_right}
use Rattle.paper.specs.Avp.{Avp, has_m, head_size, bare_of, size_of}
use Rattle.paper.specs.Reader.{Placed, Avps, whole, broken, more, avps, Faulty, View, ◌then◌, nothing, faulty, unknown, body_at, bare, single, sized, group, each, by_kind, kind_of, seen_of, view_avp, view}
use Rattle.paper.specs.Find.{member}
use Rattle.paper.proofs.AvpLaws.{padded-least}
use Rattle.paper.proofs.AvpsLaws.{cond_cases, Each, each_map, avps_stand, breaks-avp, sizes-most}
use Rattle.paper.proofs.ViewLaws.{view_known}
use Rattle.paper.proofs.OptionLaws.{Holds, holds-map, holds-or_else}
use Rattle.paper.proofs.Totals.{total, total_sizes, number_of, size_other}

-- the data of an AVP is part of its bytes
pub body_takes : (a : Avp) → length a.body ≤ size_of a
unfolding size_of
body_takes a = let p = padded-least (head_size a.flags + length a.body) in omega arith

-- ---- a fault is shown by a head alone

abbrev Headed : Faulty → Type 0
Headed f = f.shown.avp.body ≡ []

abbrev pub BareFault : View → Type 0
BareFault v = Holds Headed v.fault

abbrev Empty : Placed → Type 0
Empty p = p.avp.body ≡ []

each_bare : (one : Placed → View) → ((p : Placed) → BareFault (one p)) → (l : Avps) → Each (λ p. Unit {0}) Empty l → BareFault (each one l)
unfolding each nothing faulty ◌then◌
each_bare one h whole e = tt
each_bare one h (broken p) e = e
each_bare one h (more p rest) e = holds-or_else Headed (one p).fault (each one rest).fault (h p) (each_bare one h rest e.1)

-- what breaks a list is a head
stumps : (at : ℕ) (s : List ℕ) → Each (λ p. Unit {0}) Empty (avps at s)
unfolding bare_of
stumps at s = each_map (λ p t. tt) (λ p t. ap (λ (a : Avp). a.body) (breaks-avp at s p t)) (avps at s) (avps_stand at s)

sized-bare : (k : Kind) (x : List ℕ) (p : Placed) → BareFault (sized k x p)
unfolding sized single faulty
sized-bare k x p = cond_cases BareFault (size_right k (length p.avp.body)) (λ e. tt) (λ e. refl)

by_bare : (k : Kind) (x : List ℕ) (inside : View) (p : Placed) → BareFault inside → BareFault (by_kind k x inside p)
unfolding by_kind unknown
by_bare Unknown x inside p h = tt
by_bare Group x inside p h = h
by_bare Four x inside p h = sized-bare Four x p
by_bare Eight x inside p h = sized-bare Eight x p
by_bare Any x inside p h = sized-bare Any x p
by_bare Closed x inside p h = sized-bare Closed x p

-- ---- an unknown AVP with M

-- what the view shows takes at most `n` bytes
abbrev pub Small : ℕ → View → Type 0
Small n v = Holds (λ p. size_of p.avp ≤ n) v.unsupported

small_more : (m n : ℕ) (v : View) → m ≤ n → Small m v → Small n v
small_more m n v h s = holds-map (λ p k. omega arith) v.unsupported s

each_small : (one : Placed → View) (w : Avp → ℕ) → ((p : Placed) → Small (w p.avp) (one p)) → (l : Avps) → Small (total w l) (each one l)
unfolding each nothing faulty ◌then◌ total
each_small one w h whole = tt
each_small one w h (broken p) = tt
each_small one w h (more p rest) =
    let n = w p.avp + total w rest in
    holds-or_else (λ q. size_of q.avp ≤ n) (one p).unsupported (each one rest).unsupported (small_more (w p.avp) n (one p) (omega arith) (h p))
    (small_more (total w rest) n (each one rest) (omega arith) (each_small one w h rest))

sized_small : (n : ℕ) (k : Kind) (x : List ℕ) (p : Placed) → Small n (sized k x p)
unfolding sized single faulty
sized_small n k x p = cond_cases (Small n) (size_right k (length p.avp.body)) (λ e. tt) (λ e. tt)

by_small : (k : Kind) (x : List ℕ) (inside : View) (p : Placed) → Small (size_of p.avp) inside → Small (size_of p.avp) (by_kind k x inside p)
unfolding by_kind unknown
by_small Unknown x inside p h = cond_cases (Holds (λ q. size_of q.avp ≤ size_of p.avp)) (has_m p.avp.flags) (λ e. omega arith) (λ e. tt)
by_small Group x inside p h = h
by_small Four x inside p h = sized_small (size_of p.avp) Four x p
by_small Eight x inside p h = sized_small (size_of p.avp) Eight x p
by_small Any x inside p h = sized_small (size_of p.avp) Any x p
by_small Closed x inside p h = sized_small (size_of p.avp) Closed x p

module _ (kind : ℕ → ℕ → Kind) (seen : ℕ → ℕ → List ℕ → List ℕ) where
  avp-bare : (left : ℕ) (p : Placed) → BareFault (view_avp kind seen left p)
  unfolding view_avp faulty group
  avp-bare zero p = by_bare (kind_of kind seen p.avp) (seen_of kind seen p.avp) (faulty 5004 (bare p)) p refl
  avp-bare (suc left) p =
      by_bare (kind_of kind seen p.avp) (seen_of kind seen p.avp) (group (each (view_avp kind seen left) (avps (body_at p) p.avp.body)) p) p
      (each_bare (view_avp kind seen left) (avp-bare left) (avps (body_at p) p.avp.body) (stumps (body_at p) p.avp.body))

  -- "for faults of the visit its code, flags, vendor and no data"
  pub view-bare : (left at : ℕ) (s : List ℕ) → BareFault (view kind seen left at s)
  unfolding view
  view-bare left at s = each_bare (view_avp kind seen left) (avp-bare left) (avps at s) (stumps at s)

  avp_small : (left : ℕ) (p : Placed) → Small (size_of p.avp) (view_avp kind seen left p)
  unfolding view_avp faulty group
  avp_small zero p = by_small (kind_of kind seen p.avp) (seen_of kind seen p.avp) (faulty 5004 (bare p)) p tt
  avp_small (suc left) p =
      let l = avps (body_at p) p.avp.body in
      let v = each (view_avp kind seen left) l in
      let s = total_sizes l in
      let m = sizes-most (body_at p) p.avp.body in
      let b = body_takes p.avp in
      by_small (kind_of kind seen p.avp) (seen_of kind seen p.avp) (group v p) p
      (small_more (total size_of l) (size_of p.avp) v (omega arith) (each_small (view_avp kind seen left) size_of (avp_small left) l))

  -- AVPs of a known key that are not entered show nothing
  avp_small_other : (ns : List ℕ) → ((a : Avp) → member (number_of a) ns ≡ true → (kind a.vendor a.code ≢ Group) × (kind a.vendor a.code ≢ Unknown))
      → (left : ℕ) (p : Placed) → Small (size_other ns p.avp) (view_avp kind seen left p)
  unfolding size_other
  avp_small_other ns h left p =
      cond_cases (λ n. Small n (view_avp kind seen left p)) (member (number_of p.avp) ns)
      (λ e. let k = h p.avp e in rw (view_known kind seen left p k.0 k.1) (sized_small 0 (kind_of kind seen p.avp) (seen_of kind seen p.avp) p)) (λ e. avp_small left p)

  -- so what is shown takes no more than the AVPs of other keys
  pub view_small : (ns : List ℕ) → ((a : Avp) → member (number_of a) ns ≡ true → (kind a.vendor a.code ≢ Group) × (kind a.vendor a.code ≢ Unknown))
      → (left at : ℕ) (s : List ℕ) → Small (total (size_other ns) (avps at s)) (view kind seen left at s)
  unfolding view
  view_small ns h left at s = each_small (view_avp kind seen left) (size_other ns) (avp_small_other ns h left) (avps at s)
