-- How a stretch is a widening of a narrower one that is made of it AVP by AVP: one induction over the visit, for every way to make it.
-- Assumes nothing.
use mathlib.Core.Path.{◌≡◌, refl, sym, ap, ◌∙◌, subst}
use mathlib.Core.Logic.{◌≢◌}
use mathlib.Core.Bool.{Bool, true, false, cond}
use mathlib.Core.Option.{Option, none, some}
use mathlib.Core.List.{List, [], ◌++◌}
use Prim.Native.Nat.{ℕ, zero, suc, ◌+◌}
use native.Mathlib.Omega.{arith}
use lib.ListN.{length}
use Rattle.dictionary.specs.Kinds.{number_of, size_right}
use Rattle.dictionary.specs.declared.Kind.{Kind}
use Rattle.dictionary.specs.declared.Kind.TheVariants.{Four, Eight, Any, Group, Closed, Unknown}
use Rattle.paper.specs.Avp.{Avp, has_m, head_size, code_of, flags_of, vendor_of, framed, body_of, after, avp_of}
use Rattle.paper.specs.Reader.{Placed, placed, stump, View, or_else, ◌then◌, nothing, faulty, unknown, bare, single, sized, group, each, view_avp, view}
use Rattle.paper.specs.Widened.{OneAvp, SameKey, if_mandatory, kind_at, Widened, done, keep, enter, add, shown_of}
use Rattle.paper.proofs.AvpLaws.{front_avp, front_head, front_one, front_rejoin, front_body, front_avp_lem}
use Rattle.paper.proofs.AvpsLaws.{avps_induction}
use Rattle.paper.proofs.ViewLaws.{or_else_none, view-unknown, view_deep, view-group, view_known}
use Rattle.paper.proofs.PlaceLaws.{shown-or_else}

-- ---- an AVP by how it is visited

pub data Sort (k : Kind) : Type 0 where
  entered : k ≡ Group → Sort k
  passed_by : k ≡ Unknown → Sort k
  taken : k ≢ Group → k ≢ Unknown → Sort k

-- kinds of different numbers are different
apart : (k l : Kind) → number_of k ≢ number_of l → k ≢ l
apart k l h e = h (ap number_of e)

-- what is entered is known
pub group-known : (k : Kind) → k ≡ Group → k ≢ Unknown
group-known k g = rw g (apart Group Unknown (omega arith))

pub sort_of : (k : Kind) → Sort k
sort_of Group = entered refl
sort_of Unknown = passed_by refl
sort_of Four = taken (apart Four Group (omega arith)) (apart Four Unknown (omega arith))
sort_of Eight = taken (apart Eight Group (omega arith)) (apart Eight Unknown (omega arith))
sort_of Any = taken (apart Any Group (omega arith)) (apart Any Unknown (omega arith))
sort_of Closed = taken (apart Closed Group (omega arith)) (apart Closed Unknown (omega arith))

-- a test that was passed where no fault came out
unfaulty : (b : Bool) (v : View) (code : ℕ) (p : Placed) → (cond b v (faulty code p)).fault ≡ none → b ≡ true
unfolding faulty
unfaulty true v code p e = refl
unfaulty false v code p e = let z : ◌≡◌ {A = ℕ} 0 1 = cc in absurd (omega arith)

pub faulty-is : (code : ℕ) (p : Placed) → (faulty code p).fault ≡ none → ⊥
unfolding faulty
faulty-is code p e = let z : ◌≡◌ {A = ℕ} 0 1 = cc in omega arith

pub sized-right : (k : Kind) (x : List ℕ) (p : Placed) → (sized k x p).fault ≡ none → size_right k (length p.avp.body) ≡ true
unfolding sized
sized-right k x p e = unfaulty (size_right k (length p.avp.body)) _ _ _ e

sized-silent : (k : Kind) (x : List ℕ) (p : Placed) → (sized k x p).unsupported ≡ none
unfolding sized single faulty
sized-silent k x p = go (size_right k (length p.avp.body))
  where
    go : (b : Bool) → (cond b (single x p) (faulty 5014 (bare p))).unsupported ≡ none
    go true = refl
    go false = refl

shown-unknown : (p : Placed) → shown_of (unknown p).unsupported ≡ if_mandatory p.avp
unfolding unknown if_mandatory
shown-unknown p = go (has_m p.avp.flags)
  where
    go : (b : Bool) → shown_of (cond b (some p) none) ≡ cond b (some p.avp) none
    go true = refl
    go false = refl

-- ---- the AVP at the front of a stretch, and `x` for it on the narrow side

module _ (kind : ℕ → ℕ → Kind) (seen : ℕ → ℕ → List ℕ → List ℕ) where
  module _ (x r s : List ℕ) (m : Option Avp) (o : OneAvp x) (e : framed s ≡ true) (ev : vendor_of x ≡ vendor_of s) (ec : code_of x ≡ code_of s) (w : Widened kind seen r (after s) m) where
    same_key : SameKey x (front_avp s)
    same_key = let h = front_head s e in record { vendor = h.vendor ∙ sym ev; code = h.code ∙ sym ec }

    front_taken : kind_at kind seen s ≢ Group → kind_at kind seen s ≢ Unknown → size_right (kind_at kind seen s) (length (body_of s)) ≡ true → body_of x ≡ body_of s
        → Widened kind seen (x ++ r) s m
    front_taken g u z d =
        subst (λ (t : List ℕ). Widened kind seen (x ++ r) t m) (front_rejoin s e)
        (keep x (front_avp s) o (front_one s e) same_key (rw (ev, ec) g) (rw (ev, ec) u) (rw (ev, ec, front_body s e) z) (rw (front_body s e, d)) w)

    front_entered : (i : Option Avp) → kind_at kind seen s ≡ Group → Widened kind seen (body_of x) (body_of s) i → Widened kind seen (x ++ r) s (or_else i m)
    front_entered i g v =
        subst (λ (t : List ℕ). Widened kind seen (x ++ r) t (or_else i m)) (front_rejoin s e)
        (enter {i = i} {m = m} x (front_avp s) o (front_one s e) same_key (rw (ev, ec) g) (rw (front_body s e) v) w)

  front_added : (r s : List ℕ) (m : Option Avp) → framed s ≡ true → kind_at kind seen s ≡ Unknown → Widened kind seen r (after s) m
      → Widened kind seen r s (or_else (if_mandatory (avp_of s)) m)
  front_added r s m e u w =
      let h = front_head s e in
      let q : Widened kind seen r (front_avp s ++ after s) (or_else (if_mandatory (avp_of (front_avp s))) m) = add (front_avp s) (front_one s e) (rw (h.vendor, h.code) u) w in
      rw (front_rejoin s e, front_avp_lem s e) at q

  -- ---- a stretch and a narrow one that is made of it AVP by AVP

  -- `L left s` is the narrow stretch, where `left` groups may be entered, and `X left s` what stands in it for the AVP at the front of `s`
  pub record Narrow (Good : List ℕ → Type 0) (L X : ℕ → List ℕ → List ℕ) : Type 0 where
    pub good_after : (s : List ℕ) → Good s → Good (after s)
    pub good_body : (s : List ℕ) → Good s → Good (body_of s)
    pub empty : (left : ℕ) → L left [] ≡ []
    pub step : (left : ℕ) (s : List ℕ) → framed s ≡ true → L left s ≡ X left s ++ L left (after s)
    pub one : (left : ℕ) (s : List ℕ) → Good s → framed s ≡ true → kind_at kind seen s ≢ Unknown → OneAvp (X left s)
    pub vendor : (left : ℕ) (s : List ℕ) → Good s → framed s ≡ true → kind_at kind seen s ≢ Unknown → vendor_of (X left s) ≡ vendor_of s
    pub code : (left : ℕ) (s : List ℕ) → Good s → framed s ≡ true → kind_at kind seen s ≢ Unknown → code_of (X left s) ≡ code_of s
    pub taken : (left : ℕ) (s : List ℕ) → Good s → framed s ≡ true → kind_at kind seen s ≢ Group → kind_at kind seen s ≢ Unknown → body_of (X left s) ≡ body_of s
    pub entered : (left : ℕ) (s : List ℕ) → Good s → framed s ≡ true → kind_at kind seen s ≡ Group → body_of (X (suc left) s) ≡ L left (body_of s)
    pub passed_by : (left : ℕ) (s r : List ℕ) (m : Option Avp) → framed s ≡ true → kind_at kind seen s ≡ Unknown
        → Widened kind seen r s m → Widened kind seen (X left s ++ r) s m

  module _ {Good : List ℕ → Type 0} {L X : ℕ → List ℕ → List ℕ} (n : Narrow Good L X) where
    -- the AVP at the front, where what follows it is widened already
    abbrev AvpWidens : ℕ → Type 0
    AvpWidens left =
        (at : ℕ) (s r : List ℕ) (m : Option Avp) → Good s → framed s ≡ true → (view_avp kind seen left (placed at s)).fault ≡ none → Widened kind seen r (after s) m
        → Widened kind seen (X left s ++ r) s (or_else (shown_of (view_avp kind seen left (placed at s)).unsupported) m)

    list_widens : (left : ℕ) → AvpWidens left → (at : ℕ) (s : List ℕ) → Good s → (view kind seen left at s).fault ≡ none
        → Widened kind seen (L left s) s (shown_of (view kind seen left at s).unsupported)
    unfolding view each ◌then◌ nothing
    list_widens left one =
        avps_induction (λ at s l. Good s → (each (view_avp kind seen left) l).fault ≡ none → Widened kind seen (L left s) s (shown_of (each (view_avp kind seen left) l).unsupported))
        (λ at g e. rw (n.empty left) done)
        (λ at s f ih g e.
        let u = or_else_none (view_avp kind seen left (placed at s)).fault _ e in
        rw (n.step left s f, shown-or_else) (one at s (L left (after s)) _ g f u.0 (ih (n.good_after s g) u.1)))
        (λ at s h f g e. absurd (faulty-is 5014 (stump at s) e))

    leaf_widens : (left : ℕ) (at : ℕ) (s r : List ℕ) (m : Option Avp) → kind_at kind seen s ≢ Group → kind_at kind seen s ≢ Unknown
        → Good s → framed s ≡ true → (view_avp kind seen left (placed at s)).fault ≡ none → Widened kind seen r (after s) m
        → Widened kind seen (X left s ++ r) s (or_else (shown_of (view_avp kind seen left (placed at s)).unsupported) m)
    unfolding placed avp_of
    leaf_widens left at s r m kg ku g f e w =
        let v = view_known kind seen left (placed at s) kg ku in
        rw (v, sized-silent)
        (front_taken (X left s) r s m (n.one left s g f ku) f (n.vendor left s g f ku) (n.code left s g f ku) w kg ku (sized-right _ _ _ (rw v at e)) (n.taken left s g f kg ku))

    unknown_widens : (left : ℕ) (at : ℕ) (s r : List ℕ) (m : Option Avp) → kind_at kind seen s ≡ Unknown → framed s ≡ true → Widened kind seen r (after s) m
        → Widened kind seen (X left s ++ r) s (or_else (shown_of (view_avp kind seen left (placed at s)).unsupported) m)
    unfolding placed avp_of
    unknown_widens left at s r m ku f w =
        rw (view-unknown kind seen left (placed at s) ku, shown-unknown) (n.passed_by left s r (or_else (if_mandatory (avp_of s)) m) f ku (front_added r s m f ku w))

    group_widens : (left : ℕ) → AvpWidens left → (at : ℕ) (s r : List ℕ) (m : Option Avp) → kind_at kind seen s ≡ Group
        → Good s → framed s ≡ true → (view_avp kind seen (suc left) (placed at s)).fault ≡ none → Widened kind seen r (after s) m
        → Widened kind seen (X (suc left) s ++ r) s (or_else (shown_of (view_avp kind seen (suc left) (placed at s)).unsupported) m)
    unfolding placed avp_of group
    group_widens left ih at s r m kg g f e w =
        let v = view-group kind seen left (placed at s) kg in
        let b = at + head_size (flags_of s) in
        let ku = group-known (kind_at kind seen s) kg in
        let i : Option Avp = shown_of (view kind seen left b (body_of s)).unsupported in
        let d = list_widens left ih b (body_of s) (n.good_body s g) (rw v at e) in
        rw v
        (front_entered (X (suc left) s) r s m (n.one (suc left) s g f ku) f (n.vendor (suc left) s g f ku) (n.code (suc left) s g f ku) w i kg (rw (n.entered left s g f kg) d))

    avp_widens : (left : ℕ) → AvpWidens left
    unfolding placed avp_of
    avp_widens zero at s r m g f e w = by_sort (sort_of (kind_at kind seen s))
      where
        by_sort : Sort (kind_at kind seen s) → Widened kind seen (X zero s ++ r) s (or_else (shown_of (view_avp kind seen zero (placed at s)).unsupported) m)
        by_sort (entered k) = absurd (faulty-is _ _ (rw (view_deep kind seen (placed at s) k) at e))
        by_sort (passed_by k) = unknown_widens zero at s r m k f w
        by_sort (taken k l) = leaf_widens zero at s r m k l g f e w
    avp_widens (suc left) at s r m g f e w = by_sort (sort_of (kind_at kind seen s)) (avp_widens left)
      where
        by_sort : Sort (kind_at kind seen s) → AvpWidens left → Widened kind seen (X (suc left) s ++ r) s (or_else (shown_of (view_avp kind seen (suc left) (placed at s)).unsupported) m)
        by_sort (entered k) ih = group_widens left ih at s r m k g f e w
        by_sort (passed_by k) ih = unknown_widens (suc left) at s r m k f w
        by_sort (taken k l) ih = leaf_widens (suc left) at s r m k l g f e w

    pub narrow_widens : (left at : ℕ) (s : List ℕ) → Good s → (view kind seen left at s).fault ≡ none → Widened kind seen (L left s) s (shown_of (view kind seen left at s).unsupported)
    narrow_widens left = list_widens left (avp_widens left)
