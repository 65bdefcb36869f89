-- What a visit finds: an induction over the AVPs that it reaches, group by group, for whatever is to be said of its fault and of its unknown AVP with M.
-- Assumes nothing.
use mathlib.Core.Path.{◌≡◌, refl, subst}
use mathlib.Core.Bool.{true, false}
use mathlib.Core.Option.{Option, none, some}
use mathlib.Core.List.{List}
use Prim.Native.Nat.{ℕ, zero, suc}
use native.Mathlib.Omega.{arith}
use lib.ListN.{length}
use Rattle.dictionary.specs.Kinds.{size_right}
use Rattle.dictionary.specs.declared.Kind.{Kind}
use Rattle.dictionary.specs.declared.Kind.TheVariants.{Four, Eight, Any, Group, Closed, Unknown}
use Rattle.paper.specs.Avp.{has_m}
use Rattle.paper.specs.Reader.{Placed, Avps, whole, broken, more, avps, Faulty, View, or_else, ◌then◌, nothing, faulty, unknown, body_at, bare, single, sized, group, each, by_kind, kind_of, seen_of, view_avp}
use Rattle.paper.proofs.AvpsLaws.{Each, cond_cases}

-- ---- what was found

-- `P` holds of what was found, if anything was
abbrev pub Found : {A : Type 0} → (A → Type 0) → Option A → Type 0
Found {A} P o = (x : A) → o ≡ some x → P x

pub found_none : {A : Type 0} (P : A → Type 0) → Found P none
found_none P x e = let z : ◌≡◌ {A = ℕ} 0 1 = cc in absurd (omega arith)

found_some : {A : Type 0} (P : A → Type 0) (y : A) → P y → Found P (some y)
found_some P y h x e = let r : y ≡ x = cc in subst P r h

found-or_else : {A : Type 0} (P : A → Type 0) (a b : Option A) → Found P a → Found P b → Found P (or_else a b)
found-or_else P none b f g = g
found-or_else P (some y) b f g = f

-- ---- a view

abbrev pub fault : ℕ → Placed → Faulty
fault code p = record { code = code; shown = p }

-- `F` of the fault that a view shows, and `U` of its unknown AVP with M
pub record Shows (F : Faulty → Type 0) (U : Placed → Type 0) (v : View) : Type 0 where
  pub fault : Found F v.fault
  pub unsupported : Found U v.unsupported

module _ (F : Faulty → Type 0) (U : Placed → Type 0) where
  nothing-shows : Shows F U nothing
  unfolding nothing
  nothing-shows = record { fault = found_none F; unsupported = found_none U }

  faulty-shows : (code : ℕ) (p : Placed) → F (fault code p) → Shows F U (faulty code p)
  unfolding faulty
  faulty-shows code p h = record { fault = found_some F _ h; unsupported = found_none U }

  then_shows : (v w : View) → Shows F U v → Shows F U w → Shows F U (v then w)
  unfolding ◌then◌
  then_shows v w a b =
      record {
        fault = found-or_else F v.fault w.fault a.fault b.fault;
        unsupported = found-or_else U v.unsupported w.unsupported a.unsupported b.unsupported;
      }

  -- of a list whose AVPs are `P`, and what breaks it `Q`
  each-shows : (P Q : Placed → Type 0) (one : Placed → View) → ((p : Placed) → P p → Shows F U (one p)) → ((p : Placed) → Q p → F (fault 5014 p))
      → (l : Avps) → Each P Q l → Shows F U (each one l)
  unfolding each
  each-shows P Q one h g whole e = nothing-shows
  each-shows P Q one h g (broken p) e = faulty-shows 5014 p (g p e)
  each-shows P Q one h g (more p rest) e = then_shows (one p) (each one rest) (h p e.0) (each-shows P Q one h g rest e.1)

  sized-shows : (k : Kind) (x : List ℕ) (p : Placed) → (size_right k (length p.avp.body) ≡ false → F (fault 5014 (bare p))) → Shows F U (sized k x p)
  unfolding sized single
  sized-shows k x p h =
      cond_cases (Shows F U) (size_right k (length p.avp.body)) (λ e. record { fault = found_none F; unsupported = found_none U }) (λ e. faulty-shows 5014 (bare p) (h e))

  unknown-shows : (p : Placed) → (has_m p.avp.flags ≡ true → U p) → Shows F U (unknown p)
  unfolding unknown
  unknown-shows p h =
      record { fault = found_none F; unsupported = cond_cases (Found U) (has_m p.avp.flags) (λ e. found_some U p (h e)) (λ e. found_none U) }

  by-shows : (k : Kind) (x : List ℕ) (v : View) (p : Placed) → (k ≡ Unknown → has_m p.avp.flags ≡ true → U p)
      → (size_right k (length p.avp.body) ≡ false → F (fault 5014 (bare p))) → (k ≡ Group → Shows F U v) → Shows F U (by_kind k x v p)
  unfolding by_kind
  by-shows Unknown x v p u s g = unknown-shows p (u refl)
  by-shows Group x v p u s g = g refl
  by-shows Four x v p u s g = sized-shows Four x p s
  by-shows Eight x v p u s g = sized-shows Eight x p s
  by-shows Any x v p u s g = sized-shows Any x p s
  by-shows Closed x v p u s g = sized-shows Closed x p s

  group-shows : (v : View) (p : Placed) → Shows F U v → Shows F U (group v p)
  unfolding group
  group-shows v p h = record { fault = h.fault; unsupported = h.unsupported }

-- `P left` holds of the AVPs that the visit reaches where `left` groups may still be entered, `Q left` of what breaks a list there
pub record Reaches (kind : ℕ → ℕ → Kind) (F : Faulty → Type 0) (U : Placed → Type 0) (P Q : ℕ → Placed → Type 0) : Type 0 where
  pub mandatory : (left : ℕ) (p : Placed) → P left p → kind p.avp.vendor p.avp.code ≡ Unknown → has_m p.avp.flags ≡ true → U p
  pub size : (left : ℕ) (p : Placed) → P left p → size_right (kind p.avp.vendor p.avp.code) (length p.avp.body) ≡ false → F (fault 5014 (bare p))
  pub breaks : (left : ℕ) (p : Placed) → Q left p → F (fault 5014 p)
  pub deep : (p : Placed) → P zero p → kind p.avp.vendor p.avp.code ≡ Group → F (fault 5004 (bare p))
  pub enters : (left : ℕ) (p : Placed) → P (suc left) p → kind p.avp.vendor p.avp.code ≡ Group → Each (P left) (Q left) (avps (body_at p) p.avp.body)

module _ (kind : ℕ → ℕ → Kind) (seen : ℕ → ℕ → List ℕ → List ℕ) (F : Faulty → Type 0) (U : Placed → Type 0) (P Q : ℕ → Placed → Type 0) (r : Reaches kind F U P Q) where
  pub avp-shows : (left : ℕ) (p : Placed) → P left p → Shows F U (view_avp kind seen left p)
  unfolding view_avp
  avp-shows zero p t =
      by-shows F U (kind_of kind seen p.avp) (seen_of kind seen p.avp) (faulty 5004 (bare p)) p (r.mandatory zero p t) (r.size zero p t)
      (λ g. faulty-shows F U 5004 (bare p) (r.deep p t g))
  avp-shows (suc left) p t =
      by-shows F U (kind_of kind seen p.avp) (seen_of kind seen p.avp) _ p (r.mandatory (suc left) p t) (r.size (suc left) p t)
      (λ g. group-shows F U _ p (each-shows F U (P left) (Q left) (view_avp kind seen left) (avp-shows left) (r.breaks left) (avps (body_at p) p.avp.body) (r.enters left p t g)))

  pub list-shows : (left : ℕ) (l : Avps) → Each (P left) (Q left) l → Shows F U (each (view_avp kind seen left) l)
  list-shows left l e = each-shows F U (P left) (Q left) (view_avp kind seen left) (avp-shows left) (r.breaks left) l e
