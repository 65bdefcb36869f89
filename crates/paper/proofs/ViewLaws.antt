-- Laws of the view: views in a row, the equations of `view` and `view_avp`, and what is told of each.
-- Assumes nothing.
use mathlib.Core.Path.{◌≡◌, refl, ap, ◌∙◌}
use mathlib.Core.Logic.{◌≢◌}
use mathlib.Core.Bool.{Bool, true, false, cond}
use mathlib.Core.Option.{Option, none, some}
use mathlib.Core.List.{List, [], ◌++◌}
use Prim.Native.Nat.{ℕ, zero, suc, ◌+◌, ◌-◌, ◌≤◌}
use native.Mathlib.Omega.{arith}
use native.Mathlib.Numerals.{sub-one}
use lib.ListN.{length}
use Rattle.dictionary.specs.Kinds.{size_right}
use Rattle.dictionary.specs.declared.Kind.{Kind}
use Rattle.dictionary.specs.declared.Kind.TheVariants.{Four, Eight, Any, Group, Closed, Unknown}
use Rattle.paper.specs.declared.Visit.{Visit}
use Rattle.paper.specs.declared.Visit.TheVariants.{Clean, Fault, Unsupported}
use Rattle.paper.specs.Avp.{has_m, avp_of}
use Rattle.paper.specs.Reader.{Placed, Faulty, Known, end, leaf, node, View, or_else, beside, ◌then◌, nothing, faulty, unknown, body_at, bare, single, sized, group, each, by_kind, kind_of, seen_of, view_avp, view, tell, told, join}
use Rattle.paper.specs.Widened.{OneAvp}
use Rattle.paper.proofs.AvpsLaws.{avps_empty, avps-one}

-- ---- what comes first

pub or_else_assoc : {A : Type 0} (a b c : Option A) → or_else (or_else a b) c ≡ or_else a (or_else b c)
or_else_assoc none b c = refl
or_else_assoc (some a) b c = refl

pub or_else-right : {A : Type 0} (a : Option A) → or_else a none ≡ a
or_else-right none = refl
or_else-right (some a) = refl

pub or_else_none : {A : Type 0} (a b : Option A) → or_else a b ≡ none → (a ≡ none) × (b ≡ none)
or_else_none none b e = (refl, e)
or_else_none (some a) b e = let z : ◌≡◌ {A = ℕ} 0 1 = cc in absurd (omega arith)

pub beside_assoc : (a b c : Known) → beside (beside a b) c ≡ beside a (beside b c)
unfolding beside
beside_assoc end b c = refl
beside_assoc (leaf v n x a) b c = ap (leaf v n x) (beside_assoc a b c)
beside_assoc (node v n k a) b c = ap (node v n k) (beside_assoc a b c)

-- ---- what is told

pub told_then : (v w : View) → told (v then w) ≡ join (told v) (told w)
unfolding told ◌then◌ tell join
told_then v w = go v.fault v.unsupported w.fault w.unsupported
  where
    go : (f : Option Faulty) (u : Option Placed) (g : Option Faulty) (x : Option Placed) → tell (or_else f g) (or_else u x) ≡ join (tell f u) (tell g x)
    go (some f) u g x = refl
    go none (some u) (some g) x = refl
    go none (some u) none (some x) = refl
    go none (some u) none none = refl
    go none none g x = refl

pub join_assoc : (u v w : Visit) → join (join u v) w ≡ join u (join v w)
unfolding join
join_assoc Clean v w = refl
join_assoc (Fault c a e) v w = refl
join_assoc (Unsupported a e) Clean w = refl
join_assoc (Unsupported a e) (Fault c a' e') w = refl
join_assoc (Unsupported a e) (Unsupported a' e') Clean = refl
join_assoc (Unsupported a e) (Unsupported a' e') (Fault c a'' e'') = refl
join_assoc (Unsupported a e) (Unsupported a' e') (Unsupported a'' e'') = refl

pub join_clean : (v : Visit) → join v Clean ≡ v
unfolding join
join_clean Clean = refl
join_clean (Fault c a e) = refl
join_clean (Unsupported a e) = refl

pub told-nothing : told nothing ≡ Clean
unfolding told tell nothing
told-nothing = refl

pub told-faulty : (code : ℕ) (p : Placed) → told (faulty code p) ≡ Fault code p.at p.end
unfolding told tell faulty
told-faulty code p = refl

pub told-unknown : (p : Placed) → told (unknown p) ≡ cond (has_m p.avp.flags) (Unsupported p.at p.end) Clean
unfolding told unknown tell
told-unknown p = go (has_m p.avp.flags)
  where
    go : (b : Bool) → tell none (cond b (some p) none) ≡ cond b (Unsupported p.at p.end) Clean
    go true = refl
    go false = refl

pub told-sized : (k : Kind) (x : List ℕ) (p : Placed) → told (sized k x p) ≡ cond (size_right k (length p.avp.body)) Clean (Fault 5014 p.at p.end)
unfolding sized told tell single faulty
told-sized k x p = go (size_right k (length p.avp.body))
  where
    go : (b : Bool) → told (cond b (single x p) (faulty 5014 (bare p))) ≡ cond b Clean (Fault 5014 p.at p.end)
    go true = refl
    go false = refl

pub told-group : (v : View) (p : Placed) → told (group v p) ≡ told v
unfolding told group
told-group v p = refl

-- ---- views in a row

pub then_assoc : (u v w : View) → (u then v) then w ≡ u then (v then w)
unfolding ◌then◌
then_assoc u v w =
    λ i. record {
      fault = or_else_assoc u.fault v.fault w.fault i;
      unsupported = or_else_assoc u.unsupported v.unsupported w.unsupported i;
      known = beside_assoc u.known v.known w.known i;
    }

pub nothing_then : (v : View) → nothing then v ≡ v
unfolding ◌then◌ nothing beside
nothing_then v = refl

-- ---- the equations

by-known : (k : Kind) (x : List ℕ) (v : View) (p : Placed) → k ≢ Group → k ≢ Unknown → by_kind k x v p ≡ sized k x p
unfolding by_kind
by-known Four x v p g u = refl
by-known Eight x v p g u = refl
by-known Any x v p g u = refl
by-known Closed x v p g u = refl
by-known Group x v p g u = absurd (g refl)
by-known Unknown x v p g u = absurd (u refl)

module _ (kind : ℕ → ℕ → Kind) (seen : ℕ → ℕ → List ℕ → List ℕ) where
  pub view_empty : (left at : ℕ) → view kind seen left at [] ≡ nothing
  unfolding view each
  view_empty left at = rw (avps_empty at)

  -- an AVP in front of a stretch
  pub view-one : (left at : ℕ) {x : List ℕ} (s : List ℕ) → OneAvp x
      → view kind seen left at (x ++ s) ≡ view_avp kind seen left (record { at = at; end = at + length (x ++ s); avp = avp_of x }) then view kind seen left (at + length x) s
  unfolding view each
  view-one left at s o = ap (each (view_avp kind seen left)) (avps-one at s o)

  -- an AVP by what the dictionary says of its key
  pub view-unknown : (left : ℕ) (p : Placed) → kind_of kind seen p.avp ≡ Unknown → view_avp kind seen left p ≡ unknown p
  unfolding view_avp by_kind
  view-unknown zero p e = rw e
  view-unknown (suc left) p e = rw e

  pub view_deep : (p : Placed) → kind_of kind seen p.avp ≡ Group → view_avp kind seen 0 p ≡ faulty 5004 (bare p)
  unfolding view_avp by_kind
  view_deep p e = rw e

  pub view-group : (left : ℕ) (p : Placed) → kind_of kind seen p.avp ≡ Group
      → view_avp kind seen (suc left) p ≡ group (view kind seen left (body_at p) p.avp.body) p
  unfolding view_avp view by_kind
  view-group left p e = rw e

  -- the same, counted as code counts
  pub view-group-below : (left : ℕ) (p : Placed) → 1 ≤ left → kind_of kind seen p.avp ≡ Group
      → view_avp kind seen left p ≡ group (view kind seen (left - 1) (body_at p) p.avp.body) p
  view-group-below zero p h e = absurd (omega arith)
  view-group-below (suc left) p h e = rw sub-one (view-group left p e)

  -- a known AVP that is not entered
  pub view_known : (left : ℕ) (p : Placed) → kind_of kind seen p.avp ≢ Group → kind_of kind seen p.avp ≢ Unknown
      → view_avp kind seen left p ≡ sized (kind_of kind seen p.avp) (seen_of kind seen p.avp) p
  unfolding view_avp
  view_known zero p g u = by-known (kind_of kind seen p.avp) (seen_of kind seen p.avp) _ p g u
  view_known (suc left) p g u = by-known (kind_of kind seen p.avp) (seen_of kind seen p.avp) _ p g u

  -- ---- what is told of a stretch, AVP after AVP

  pub told_empty : (left at : ℕ) → told (view kind seen left at []) ≡ Clean
  told_empty left at = ap told (view_empty left at) ∙ told-nothing
