-- "A known AVP unused by the command has no effect": put into a request or taken out of it, at any seam and at any depth, it changes nothing.
-- Assumes nothing.
use mathlib.Core.Path.{◌≡◌, refl, sym, ap, ◌∙◌}
use mathlib.Core.Logic.{◌≢◌}
use mathlib.Core.Bool.{true, false, false≢true}
use mathlib.Core.Option.{none}
use mathlib.Core.List.{List, ◌++◌}
use Prim.Native.Nat.{ℕ, zero, suc, ◌+◌}
use native.Mathlib.Nat.{add-zero}
use native.Mathlib.Omega.{arith}
use lib.ListN.{length, drop}
use Rattle.dictionary.specs.Rows.{kind_of}
use Rattle.dictionary.specs.declared.Kind.{Kind}
use Rattle.dictionary.specs.declared.Kind.TheVariants.{Group, Unknown}
use Rattle.paper.specs.Avp.{head_size, padded, code_of, flags_of, length_of, vendor_of, body_of, after, avp_of}
use Rattle.paper.specs.Reader.{placed, avps, unbroken, Known, end, leaf, node, View, beside, ◌then◌, group, each, view_avp, view, most_groups}
use Rattle.paper.specs.Widened.{OneAvp, SameKey, Clear, shown_of}
use Rattle.paper.specs.Layout.{message_header}
use Rattle.paper.specs.Request.{command_code, view_of}
use Rattle.paper.specs.Outcome.{Lent, outcome}
use Rattle.paper.specs.Newer.{Level, top_level, below, uses, seen_by, SameHeader, Fits, asking, Accepted, PutIn, here, within, UnusedPutIn, UnusedTakenOut}
use Rattle.paper.proofs.AvpLaws.{length-after}
use Rattle.paper.proofs.AvpsLaws.{avps_induction}
use Rattle.paper.proofs.ViewLaws.{nothing_then, then_assoc, view_deep, view-group, view_known, view-one}
use Rattle.paper.proofs.PlaceLaws.{AnyPlace, any_place, then_any_place, clear_any_place, standing, avp_placeless, known_placeless}
use Rattle.paper.proofs.WidenedView.{clear_first, clear-rest, clear_then}
use Rattle.paper.proofs.Narrow.{Sort, entered, passed_by, taken, sort_of, faulty-is, sized-right}
use Rattle.paper.proofs.Cover.{view_front, seam_clear, clear_at}
use Rattle.paper.proofs.NewerTree.{sized-known, view-refused}
use Rattle.paper.proofs.NewerUse.{used_part, used-beside}
use Rattle.paper.proofs.NewerRequest.{passes-clear, clear-seen, Like, known_of}
use Rattle.paper.proofs.NewerAccepted.{accepted_tested, accepted-passes}
use Rattle.paper.proofs.Newer.{asked_tested, outcome_kept}

-- ---- a seam: the AVPs on either side are visited one after the other

module _ (kind : ℕ → ℕ → Kind) (seen : ℕ → ℕ → List ℕ → List ℕ) where
  view_seam : (at : ℕ) (a : List ℕ) → unbroken (avps at a) ≡ true → (left : ℕ) (b : List ℕ)
      → AnyPlace (view kind seen left at a then view kind seen left (at + length a) b) (view kind seen left at (a ++ b))
  unfolding unbroken view each placed
  view_seam =
      avps_induction (λ at a l. unbroken l ≡ true → (left : ℕ) (b : List ℕ) → AnyPlace (each (view_avp kind seen left) l then view kind seen left (at + length a) b) (view kind seen left at (a ++ b)))
      (λ at q left b. rw (add-zero, nothing_then) (any_place _))
      (λ at s e ih q left b.
      let l : at + padded (length_of s) + length (after s) ≡ at + length s = let k = length-after s e in omega arith in
      let h = rw l at (ih q left b) in
      rw (view_front kind seen left at s b e, then_assoc) (then_any_place _ _ _ _ (avp_placeless kind seen left (avp_of s) at (at + length s) at (at + length (s ++ b))) h))
      (λ at s h e q. absurd (false≢true q))

  -- the known AVPs, wherever the stretch stands
  known_in : ℕ → List ℕ → Known
  known_in left s = (view kind seen left 0 s).known

  known_avp : ℕ → List ℕ → Known
  known_avp left x = (view_avp kind seen left (standing (avp_of x) 0 0)).known

  seam_known : (left : ℕ) (a b : List ℕ) → unbroken (avps 0 a) ≡ true → known_in left (a ++ b) ≡ beside (known_in left a) (known_in left b)
  unfolding known_in ◌then◌
  seam_known left a b u =
      sym (view_seam 0 a u left b).known ∙ ap (beside (view kind seen left 0 a).known) (known_placeless kind seen left (0 + length a) 0 b)

  one_known : (left : ℕ) (x s : List ℕ) → OneAvp x → known_in left (x ++ s) ≡ beside (known_avp left x) (known_in left s)
  unfolding known_in known_avp ◌then◌
  one_known left x s o =
      let front = (avp_placeless kind seen left (avp_of x) 0 (0 + length (x ++ s)) 0 0).known in
      let rest = known_placeless kind seen left (0 + length x) 0 s in
      ap (λ (v : View). v.known) (view-one kind seen left 0 s o) ∙ (λ i. beside (front i) (rest i))

  -- a seam between clear AVPs, and an AVP in front of others
  abbrev ClearAt : ℕ → List ℕ → Type 0
  ClearAt left s = Clear (view kind seen left 0 s)

  abbrev ClearAvp : ℕ → List ℕ → Type 0
  ClearAvp left x = Clear (view_avp kind seen left (standing (avp_of x) 0 0))

  seam_parts : (left : ℕ) (a b : List ℕ) → unbroken (avps 0 a) ≡ true → ClearAt left (a ++ b) → ClearAt left a × ClearAt left b
  seam_parts left a b u c = let q = seam_clear kind seen 0 a u left b c in (q.0, clear_at kind seen left (0 + length a) 0 b q.1)

  seam_join : (left : ℕ) (a b : List ℕ) → unbroken (avps 0 a) ≡ true → ClearAt left a → ClearAt left b → ClearAt left (a ++ b)
  seam_join left a b u c d = clear_any_place _ _ (view_seam 0 a u left b) (clear_then _ _ c (clear_at kind seen left 0 (0 + length a) b d))

  one_parts : (left : ℕ) (x s : List ℕ) → OneAvp x → ClearAt left (x ++ s) → ClearAvp left x × ClearAt left s
  one_parts left x s o c =
      let q = rw (view-one kind seen left 0 s o) at c in
      (clear_any_place _ _ (avp_placeless kind seen left (avp_of x) 0 (0 + length (x ++ s)) 0 0) (clear_first _ _ q), clear_at kind seen left (0 + length x) 0 s (clear-rest _ _ q))

  one-join : (left : ℕ) (x s : List ℕ) → OneAvp x → ClearAvp left x → ClearAt left s → ClearAt left (x ++ s)
  one-join left x s o c d =
      rw (view-one kind seen left 0 s o)
      (clear_then _ _ (clear_any_place _ _ (avp_placeless kind seen left (avp_of x) 0 0 0 (0 + length (x ++ s))) c) (clear_at kind seen left 0 (0 + length x) s d))

  -- ---- a clear group

  too_deep : (x : List ℕ) → kind (vendor_of x) (code_of x) ≡ Group → ClearAvp zero x → ⊥
  unfolding avp_of
  too_deep x g c = faulty-is 5004 _ (rw (view_deep kind seen (standing (avp_of x) 0 0) g) at c.fault)

  -- what it holds is clear, one level lower
  inside-clear : (left : ℕ) (x : List ℕ) → kind (vendor_of x) (code_of x) ≡ Group → ClearAvp (suc left) x → ClearAt left (body_of x)
  unfolding avp_of group
  inside-clear left x g c =
      let d = rw (view-group kind seen left (standing (avp_of x) 0 0) g) at c in
      clear_at kind seen left (0 + head_size (flags_of x)) 0 (body_of x) (record { fault = d.fault; unsupported = d.unsupported })

  clear-inside : (left : ℕ) (x : List ℕ) → kind (vendor_of x) (code_of x) ≡ Group → ClearAt left (body_of x) → ClearAvp (suc left) x
  unfolding avp_of group
  clear-inside left x g c =
      let d = clear_at kind seen left 0 (0 + head_size (flags_of x)) (body_of x) c in
      rw (view-group kind seen left (standing (avp_of x) 0 0) g) (record { fault = d.fault; unsupported = d.unsupported })

  node-known : (left : ℕ) (x : List ℕ) → kind (vendor_of x) (code_of x) ≡ Group → known_avp (suc left) x ≡ node (vendor_of x) (code_of x) (known_in left (body_of x)) end
  unfolding avp_of group known_avp known_in
  node-known left x g =
      ap (λ (w : View). w.known) (view-group kind seen left (standing (avp_of x) 0 0) g)
      ∙ ap (λ (k : Known). node (vendor_of x) (code_of x) k end) (known_placeless kind seen left (0 + head_size (flags_of x)) 0 (body_of x))

  leaf-known : (left : ℕ) (x : List ℕ) → kind (vendor_of x) (code_of x) ≢ Group → kind (vendor_of x) (code_of x) ≢ Unknown → ClearAvp left x
      → known_avp left x ≡ leaf (vendor_of x) (code_of x) (seen (vendor_of x) (code_of x) (body_of x)) end
  unfolding avp_of known_avp
  leaf-known left x g u c =
      let v = view_known kind seen left (standing (avp_of x) 0 0) g u in
      ap (λ (w : View). w.known) v ∙ sized-known kind seen _ _ (standing (avp_of x) 0 0) (sized-right _ _ _ (rw v at c.fault))

-- ---- the AVP put in

module _ (c : ℕ) (y : List ℕ) (o : OneAvp y) (u : kind_of (vendor_of y) (code_of y) ≢ Unknown) where
  abbrev used : Level → Known → Known
  used level k = used_part c level k

  abbrev knowns : ℕ → List ℕ → Known
  knowns left s = known_in kind_of (seen_by c) left s

  abbrev known_one : ℕ → List ℕ → Known
  known_one left x = known_avp kind_of (seen_by c) left x

  seam_used : (level : Level) (left : ℕ) (a b : List ℕ) → unbroken (avps 0 a) ≡ true → used level (knowns left (a ++ b)) ≡ beside (used level (knowns left a)) (used level (knowns left b))
  seam_used level left a b q = ap (used level) (seam_known kind_of (seen_by c) left a b q) ∙ used-beside c level (knowns left a) (knowns left b)

  one-used : (level : Level) (left : ℕ) (x s : List ℕ) → OneAvp x → used level (knowns left (x ++ s)) ≡ beside (used level (known_one left x)) (used level (knowns left s))
  one-used level left x s p = ap (used level) (one_known kind_of (seen_by c) left x s p) ∙ used-beside c level (known_one left x) (knowns left s)

  -- nothing of it is used
  unused_end : (level : Level) (left : ℕ) → uses c level (vendor_of y) (code_of y) ≡ false → ClearAvp kind_of (seen_by c) left y → used level (known_one left y) ≡ end
  unfolding used_part
  unused_end level left n d = by_sort (sort_of (kind_of (vendor_of y) (code_of y))) left d
    where
      by_sort : Sort (kind_of (vendor_of y) (code_of y)) → (left : ℕ) → ClearAvp kind_of (seen_by c) left y → used level (known_one left y) ≡ end
      by_sort (passed_by k) left d = absurd (u k)
      by_sort (taken g k) left d = rw (leaf-known kind_of (seen_by c) left y g k d, n)
      by_sort (entered g) zero d = absurd (too_deep kind_of (seen_by c) y g d)
      by_sort (entered g) (suc left) d = rw (node-known kind_of (seen_by c) left y g, n)

  -- the used part of a group, where that of its data is the same
  node-used : (level : Level) (left : ℕ) (x z : List ℕ) → SameKey x z → kind_of (vendor_of x) (code_of x) ≡ Group
      → used (below level (vendor_of x) (code_of x)) (knowns left (body_of z)) ≡ used (below level (vendor_of x) (code_of x)) (knowns left (body_of x))
      → used level (known_one (suc left) z) ≡ used level (known_one (suc left) x)
  unfolding used_part
  node-used level left x z k g e =
      let h : kind_of (vendor_of z) (code_of z) ≡ Group = rw (k.vendor, k.code) g in
      rw (node-known kind_of (seen_by c) left x g, node-known kind_of (seen_by c) left z h, k.vendor, k.code, e)

  group-used : (level : Level) (left : ℕ) (x z : List ℕ) → SameKey x z → kind_of (vendor_of x) (code_of x) ≡ Group
      → ((l : ℕ) → ClearAt kind_of (seen_by c) l (body_of x) → ClearAt kind_of (seen_by c) l (body_of z)
      → used (below level (vendor_of x) (code_of x)) (knowns l (body_of z)) ≡ used (below level (vendor_of x) (code_of x)) (knowns l (body_of x)))
      → ClearAvp kind_of (seen_by c) left x → ClearAvp kind_of (seen_by c) left z → used level (known_one left z) ≡ used level (known_one left x)
  group-used level zero x z k g ih d e = absurd (too_deep kind_of (seen_by c) x g d)
  group-used level (suc left) x z k g ih d e =
      let h : kind_of (vendor_of z) (code_of z) ≡ Group = rw (k.vendor, k.code) g in
      node-used level left x z k g (ih left (inside-clear kind_of (seen_by c) left x g d) (inside-clear kind_of (seen_by c) left z h e))

  -- with the AVP and without it the used part is the same
  put-used : {level : Level} {s t : List ℕ} → PutIn c y level s t → (left : ℕ) → ClearAt kind_of (seen_by c) left s → ClearAt kind_of (seen_by c) left t → used level (knowns left t) ≡ used level (knowns left s)
  unfolding beside
  put-used (here {level = level} a b q n) left d e =
      let f = (one_parts kind_of (seen_by c) left y b o (seam_parts kind_of (seen_by c) left a (y ++ b) q e).1).0 in
      rw (seam_used level left a (y ++ b) q, one-used level left y b o, seam_used level left a b q, unused_end level left n f)
  put-used (within {level = level} a x z b q ox oz k g i) left d e =
      let f = (one_parts kind_of (seen_by c) left x b ox (seam_parts kind_of (seen_by c) left a (x ++ b) q d).1).0 in
      let h = (one_parts kind_of (seen_by c) left z b oz (seam_parts kind_of (seen_by c) left a (z ++ b) q e).1).0 in
      rw (
        seam_used level left a (z ++ b) q,
        one-used level left z b oz,
        seam_used level left a (x ++ b) q,
        one-used level left x b ox,
        group-used level left x z k g (λ l v w. put-used i l v w) f h,
      )

  -- without it nothing is to refuse where with it nothing was
  group-clear : (left : ℕ) (x z : List ℕ) → SameKey x z → kind_of (vendor_of x) (code_of x) ≡ Group → ((l : ℕ) → ClearAt kind_of (seen_by c) l (body_of z) → ClearAt kind_of (seen_by c) l (body_of x))
      → ClearAvp kind_of (seen_by c) left z → ClearAvp kind_of (seen_by c) left x
  group-clear zero x z k g ih d = absurd (too_deep kind_of (seen_by c) z (rw (k.vendor, k.code) g) d)
  group-clear (suc left) x z k g ih d = clear-inside kind_of (seen_by c) left x g (ih left (inside-clear kind_of (seen_by c) left z (rw (k.vendor, k.code) g) d))

  taken_clear : {level : Level} {s t : List ℕ} → PutIn c y level s t → (left : ℕ) → ClearAt kind_of (seen_by c) left t → ClearAt kind_of (seen_by c) left s
  taken_clear (here a b q n) left e =
      let f = seam_parts kind_of (seen_by c) left a (y ++ b) q e in
      seam_join kind_of (seen_by c) left a b q f.0 (one_parts kind_of (seen_by c) left y b o f.1).1
  taken_clear (within a x z b q ox oz k g i) left e =
      let f = seam_parts kind_of (seen_by c) left a (z ++ b) q e in
      let h = one_parts kind_of (seen_by c) left z b oz f.1 in
      seam_join kind_of (seen_by c) left a (x ++ b) q f.0 (one-join kind_of (seen_by c) left x b ox (group-clear left x z k g (λ l v. taken_clear i l v) h.0) h.1)

-- ---- requests

abbrev stretch : List ℕ → List ℕ
stretch m = drop message_header m

-- nothing to refuse in the AVPs of a request, whatever the command sees of them
clear-stretch : (c : ℕ) (m : List ℕ) → Clear (view_of m) → ClearAt kind_of (seen_by c) most_groups (stretch m)
clear-stretch c m q = clear_at kind_of (seen_by c) most_groups message_header 0 (stretch m) (clear-seen c m q)

clear-view : (c : ℕ) (m : List ℕ) → ClearAt kind_of (seen_by c) most_groups (stretch m) → Clear (view_of m)
unfolding view_of
clear-view c m q =
    let r = view-refused kind_of (seen_by c) (λ vendor code x. x) most_groups message_header (stretch m) in
    let d = clear_at kind_of (seen_by c) most_groups 0 message_header (stretch m) q in
    record { fault = sym r.fault ∙ d.fault; unsupported = sym r.unsupported ∙ d.unsupported }

known-stretch : (c : ℕ) (m : List ℕ) → known_of c m ≡ known_in kind_of (seen_by c) most_groups (stretch m)
unfolding known_of known_in
known-stretch c m = known_placeless kind_of (seen_by c) most_groups message_header 0 (stretch m)

like : (m n : List ℕ) → SameHeader m n → Fits n → Clear (view_of n)
    → used_part (command_code m) top_level (known_in kind_of (seen_by (command_code m)) most_groups (stretch n)) ≡ used_part (command_code m) top_level (known_in kind_of (seen_by (command_code m)) most_groups (stretch m))
    → Like m n none
like m n h f q e =
    record {
      header = h;
      fits = f;
      fault = q.fault;
      unsupported = ap shown_of q.unsupported;
      tree = rw (known-stretch (command_code m) m, known-stretch (command_code m) n) e;
    }

same_outcome : (l : Lent) (n : List ℕ) → Accepted l → Like l.request n none → outcome (asking l n) ≡ outcome l
same_outcome l n h k =
    let t = accepted_tested l h in
    outcome_kept l (accepted-passes l h) k refl t (asked_tested l n t k.header k.fits)

pub unused_put_in : UnusedPutIn
unused_put_in l n y h s f o u i q =
    let m = l.request in
    let c = command_code l.request in
    let d = passes-clear m (accepted-passes l h) in
    same_outcome l n h (like m n s f q (put-used c y o u i most_groups (clear-stretch c m d) (clear-stretch c n q)))

pub unused_taken_out : UnusedTakenOut
unused_taken_out l n y h s f o u i =
    let m = l.request in
    let c = command_code l.request in
    let d = clear-stretch c m (passes-clear m (accepted-passes l h)) in
    let q = taken_clear c y o u i most_groups d in
    same_outcome l n h (like m n s f (clear-view c n q) (sym (put-used c y o u i most_groups q d)))
