-- What is looked for in a list of AVPs without a fault goes by its tree of known AVPs: the first of a key, whether there is a second, what stands in a
-- group, each of a key. Over any dictionary and any command. Assumes nothing.
use mathlib.Core.Path.{◌≡◌, refl, ap}
use mathlib.Core.Logic.{◌≢◌}
use mathlib.Core.Bool.{Bool, true, false, cond, ◌&&◌}
use mathlib.Core.Option.{Option, none, some}
use mathlib.Core.List.{List, [], ◌∷◌, ◌++◌}
use Prim.Native.Nat.{ℕ, zero, suc}
use lib.Dec.{eqb}
use lib.ListN.{length}
use borrow.Author.Tests.{eqb-true}
use Rattle.std.proofs.lemmas.Bool.{and_parts}
use Rattle.dictionary.specs.Rows.{key_of}
use Rattle.dictionary.specs.Kinds.{size_right}
use Rattle.dictionary.specs.declared.Kind.{Kind}
use Rattle.dictionary.specs.declared.Kind.TheVariants.{Four, Eight, Any, Group, Closed, Unknown}
use Rattle.paper.specs.Avp.{Avp}
use Rattle.paper.specs.Reader.{Placed, Avps, whole, broken, more, avps, Known, end, leaf, node, View, beside, ◌then◌, nothing, faulty, unknown, body_at, bare, single, sized, group, each, by_kind, kind_of, seen_of, view_avp, view}
use Rattle.paper.specs.Find.{has_key, first_of, member, first_second}
use Rattle.paper.specs.Request.{is_there, inside}
use Rattle.paper.specs.Answer.{item, each_of}
use Rattle.paper.proofs.ViewLaws.{or_else_none, view-unknown, view_deep, view-group, view_known}
use Rattle.paper.proofs.Narrow.{Sort, entered, passed_by, taken, sort_of, group-known, faulty-is, sized-right}

-- ---- a list of AVPs and its tree

module _ (kind : ℕ → ℕ → Kind) (seen : ℕ → ℕ → List ℕ → List ℕ) where
  -- unknown AVPs pass; a known AVP that is not entered gives a leaf, with what is seen of its data; an entered group a node, with the tree of what it holds
  pub data Tree : Avps → Known → Type 0 where
    ends : Tree whole end
    passes : {p : Placed} {rest : Avps} {k : Known} → kind_of kind seen p.avp ≡ Unknown → Tree rest k → Tree (more p rest) k
    takes : {p : Placed} {rest : Avps} {k : Known} → kind_of kind seen p.avp ≢ Group → kind_of kind seen p.avp ≢ Unknown → Tree rest k
        → Tree (more p rest) (leaf p.avp.vendor p.avp.code (seen_of kind seen p.avp) k)
    enters : {p : Placed} {rest : Avps} {kids k : Known} → kind_of kind seen p.avp ≡ Group → Tree (avps (body_at p) p.avp.body) kids → Tree rest k
        → Tree (more p rest) (node p.avp.vendor p.avp.code kids k)

  abbrev AvpTree : ℕ → Type 0
  AvpTree left =
      (p : Placed) (rest : Avps) (k : Known) → (view_avp kind seen left p).fault ≡ none → Tree rest k → Tree (more p rest) (beside (view_avp kind seen left p).known k)

  list_tree : (left : ℕ) → AvpTree left → (l : Avps) → (each (view_avp kind seen left) l).fault ≡ none → Tree l (each (view_avp kind seen left) l).known
  unfolding each nothing ◌then◌
  list_tree left one whole e = ends
  list_tree left one (broken p) e = absurd (faulty-is 5014 p e)
  list_tree left one (more p rest) e =
      let u = or_else_none (view_avp kind seen left p).fault _ e in
      one p rest _ u.0 (list_tree left one rest u.1)

  pub sized-known : (k : Kind) (x : List ℕ) (p : Placed) → size_right k (length p.avp.body) ≡ true → (sized k x p).known ≡ leaf p.avp.vendor p.avp.code x end
  unfolding sized single
  sized-known k x p e = rw e

  leaf_tree : (left : ℕ) (p : Placed) (rest : Avps) (k : Known) → kind_of kind seen p.avp ≢ Group → kind_of kind seen p.avp ≢ Unknown
      → (view_avp kind seen left p).fault ≡ none → Tree rest k → Tree (more p rest) (beside (view_avp kind seen left p).known k)
  unfolding beside
  leaf_tree left p rest k g u e t =
      let v = view_known kind seen left p g u in
      let z = sized-right _ _ _ (rw v at e) in
      rw (v, sized-known (kind_of kind seen p.avp) (seen_of kind seen p.avp) p z) (takes g u t)

  unknown_tree : (left : ℕ) (p : Placed) (rest : Avps) (k : Known) → kind_of kind seen p.avp ≡ Unknown → Tree rest k
      → Tree (more p rest) (beside (view_avp kind seen left p).known k)
  unfolding beside unknown
  unknown_tree left p rest k u t = rw (view-unknown kind seen left p u) (passes u t)

  avp_tree : (left : ℕ) → AvpTree left
  unfolding group beside view
  avp_tree zero p rest k e t = by_sort (sort_of (kind_of kind seen p.avp))
    where
      by_sort : Sort (kind_of kind seen p.avp) → Tree (more p rest) (beside (view_avp kind seen zero p).known k)
      by_sort (entered g) = absurd (faulty-is 5004 (bare p) (rw (view_deep kind seen p g) at e))
      by_sort (passed_by u) = unknown_tree zero p rest k u t
      by_sort (taken g u) = leaf_tree zero p rest k g u e t
  avp_tree (suc left) p rest k e t = by_sort (sort_of (kind_of kind seen p.avp)) (avp_tree left)
    where
      by_sort : Sort (kind_of kind seen p.avp) → AvpTree left → Tree (more p rest) (beside (view_avp kind seen (suc left) p).known k)
      by_sort (entered g) ih =
          let v = view-group kind seen left p g in
          rw v (enters g (list_tree left ih (avps (body_at p) p.avp.body) (rw v at e)) t)
      by_sort (passed_by u) ih = unknown_tree (suc left) p rest k u t
      by_sort (taken g u) ih = leaf_tree (suc left) p rest k g u e t

  -- the tree of a stretch in which the visit finds no fault
  pub view_tree : (left at : ℕ) (s : List ℕ) → (view kind seen left at s).fault ≡ none → Tree (avps at s) (view kind seen left at s).known
  unfolding view
  view_tree left at s e = list_tree left (avp_tree left) (avps at s) e

-- ---- what is looked for, in a tree

-- `v` and `c` are the key (vendor, code)
unfoldable pub keyed : ℕ → ℕ → ℕ → ℕ → Bool
keyed vendor code v c = eqb v vendor && eqb c code

-- what is seen of the first AVP of the key
unfoldable pub first_leaf : ℕ → ℕ → Known → Option (List ℕ)
first_leaf vendor code end = none
first_leaf vendor code (leaf v c x next) = cond (keyed vendor code v c) (some x) (first_leaf vendor code next)
first_leaf vendor code (node v c kids next) = first_leaf vendor code next

-- what stands in the first group of the key
unfoldable pub first_kids : ℕ → ℕ → Known → Known
first_kids vendor code end = end
first_kids vendor code (leaf v c x next) = first_kids vendor code next
first_kids vendor code (node v c kids next) = cond (keyed vendor code v c) kids (first_kids vendor code next)

-- there is a second of a key of the set, where those of `met` were met before
unfoldable pub second_in : List ℕ → List ℕ → Known → Bool
second_in keys met end = false
second_in keys met (leaf v c x next) =
    cond (member (key_of v c) keys) (cond (member (key_of v c) met) true (second_in keys (key_of v c ∷ met) next)) (second_in keys met next)
second_in keys met (node v c kids next) =
    cond (member (key_of v c) keys) (cond (member (key_of v c) met) true (second_in keys (key_of v c ∷ met) next)) (second_in keys met next)

-- each AVP of the key, written one after another
unfoldable pub each_leaf : (List ℕ → List ℕ) → ℕ → ℕ → Known → List ℕ
each_leaf write vendor code end = []
each_leaf write vendor code (leaf v c x next) = cond (keyed vendor code v c) (write x ++ each_leaf write vendor code next) (each_leaf write vendor code next)
each_leaf write vendor code (node v c kids next) = each_leaf write vendor code next

-- what is seen of an AVP that was found
abbrev pub seen_found : (List ℕ → List ℕ) → Option Placed → Option (List ℕ)
seen_found see none = none
seen_found see (some p) = some (see p.avp.body)

-- ---- the key of an AVP

module _ (vendor code : ℕ) (a : Avp) (e : has_key vendor code a ≡ true) where
  key-vendor : a.vendor ≡ vendor
  unfolding has_key
  key-vendor = eqb-true _ _ (and_parts (eqb a.vendor vendor) _ e).0

  key-code : a.code ≡ code
  unfolding has_key
  key-code = eqb-true _ _ (and_parts (eqb a.vendor vendor) _ e).1

module _ (kind : ℕ → ℕ → Kind) (seen : ℕ → ℕ → List ℕ → List ℕ) where
  -- an AVP of another kind has another key
  other-kind : (vendor code : ℕ) (a : Avp) (k : Kind) → kind_of kind seen a ≡ k → kind vendor code ≢ k → has_key vendor code a ≡ false
  other-kind vendor code a k e n = go (has_key vendor code a) refl
    where
      go : (b : Bool) → has_key vendor code a ≡ b → b ≡ false
      go true q = absurd (n (rw (key-vendor vendor code a q, key-code vendor code a q) at e))
      go false q = refl

  not-kind : (vendor code : ℕ) (a : Avp) (k : Kind) → kind_of kind seen a ≢ k → kind vendor code ≡ k → has_key vendor code a ≡ false
  not-kind vendor code a k n e = go (has_key vendor code a) refl
    where
      go : (b : Bool) → has_key vendor code a ≡ b → b ≡ false
      go true q = absurd (n (rw (key-vendor vendor code a q, key-code vendor code a q) e))
      go false q = refl

  -- ---- the first of a key that is known and not entered

  module _ (vendor code : ℕ) (g : kind vendor code ≢ Group) (u : kind vendor code ≢ Unknown) where
    first_taken : (b : Bool) (p : Placed) (x : List ℕ) (o : Option Placed) (r : Option (List ℕ)) → (b ≡ true → seen vendor code p.avp.body ≡ x)
        → seen_found (seen vendor code) o ≡ r → seen_found (seen vendor code) (cond b (some p) o) ≡ cond b (some x) r
    first_taken true p x o r h e = ap some (h refl)
    first_taken false p x o r h e = e

    pub known-first : {l : Avps} {k : Known} → Tree kind seen l k → seen_found (seen vendor code) (first_of vendor code l) ≡ first_leaf vendor code k
    unfolding first_of first_leaf keyed has_key
    known-first ends = refl
    known-first (passes {p = p} q t) = rw (other-kind vendor code p.avp Unknown q u) (known-first t)
    known-first (takes {p = p} {rest = rest} {k = k} h v t) =
        first_taken (has_key vendor code p.avp) p (seen_of kind seen p.avp) (first_of vendor code rest) (first_leaf vendor code k)
        (λ e. rw (key-vendor vendor code p.avp e, key-code vendor code p.avp e)) (known-first t)
    known-first (enters {p = p} q i t) = rw (other-kind vendor code p.avp Group q g) (known-first t)

    -- ---- each of a key that is known, not entered, and seen as it is

    each_taken : (b : Bool) (write : List ℕ → List ℕ) (x y s t : List ℕ) → (b ≡ true → x ≡ y) → s ≡ t → cond b (write x ++ s) s ≡ cond b (write y ++ t) t
    each_taken true write x y s t h e = rw (h refl, e)
    each_taken false write x y s t h e = e

    module _ (all : (x : List ℕ) → seen vendor code x ≡ x) where
      pub known-each : {l : Avps} {k : Known} → Tree kind seen l k
          → each_of (record { vendor = vendor; code = code }) l ≡ each_leaf (item (record { vendor = vendor; code = code })) vendor code k
      unfolding each_of each_leaf keyed has_key
      known-each ends = refl
      known-each (passes {p = p} q t) = rw (other-kind vendor code p.avp Unknown q u) (known-each t)
      known-each (takes {p = p} h v t) =
          each_taken (has_key vendor code p.avp) (item (record { vendor = vendor; code = code })) p.avp.body (seen_of kind seen p.avp) _ _
          (λ e. rw (key-vendor vendor code p.avp e, key-code vendor code p.avp e, all)) (known-each t)
      known-each (enters {p = p} q i t) = rw (other-kind vendor code p.avp Group q g) (known-each t)

  -- ---- what stands in the first group of a key

  module _ (vendor code : ℕ) (g : kind vendor code ≡ Group) where
    inside_entered : (b : Bool) (p : Placed) (o : Option Placed) (kids k : Known) → Tree kind seen (avps (body_at p) p.avp.body) kids
        → Tree kind seen (inside o) k → Tree kind seen (inside (cond b (some p) o)) (cond b kids k)
    inside_entered true p o kids k t r = t
    inside_entered false p o kids k t r = r

    pub known-inside : {l : Avps} {k : Known} → Tree kind seen l k → Tree kind seen (inside (first_of vendor code l)) (first_kids vendor code k)
    unfolding first_of first_kids keyed has_key
    known-inside ends = ends
    known-inside (passes {p = p} q t) = rw (other-kind vendor code p.avp Unknown q (group-known (kind vendor code) g)) (known-inside t)
    known-inside (takes {p = p} h v t) = rw (not-kind vendor code p.avp Group h g) (known-inside t)
    known-inside (enters {p = p} {rest = rest} {kids = kids} {k = k} q i t) =
        inside_entered (has_key vendor code p.avp) p (first_of vendor code rest) kids (first_kids vendor code k) i (known-inside t)

  -- ---- a second of known keys

  there-second : (b c : Bool) (p : Placed) (x y : Option Placed) (d e : Bool) → is_there x ≡ d → is_there y ≡ e
      → is_there (cond b (cond c (some p) x) y) ≡ cond b (cond c true d) e
  there-second true true p x y d e q r = refl
  there-second true false p x y d e q r = q
  there-second false c p x y d e q r = r

  module _ (keys : List ℕ) (h : (vendor code : ℕ) → kind vendor code ≡ Unknown → member (key_of vendor code) keys ≡ false) where
    pub known-second : {l : Avps} {k : Known} → Tree kind seen l k → (met : List ℕ) → is_there (first_second keys met l) ≡ second_in keys met k
    unfolding first_second second_in
    known-second ends met = refl
    known-second (passes {p = p} q t) met = rw (h p.avp.vendor p.avp.code q) (known-second t met)
    known-second (takes {p = p} g u t) met =
        let key = key_of p.avp.vendor p.avp.code in
        there-second (member key keys) (member key met) p _ _ _ _ (known-second t (key ∷ met)) (known-second t met)
    known-second (enters {p = p} q i t) met =
        let key = key_of p.avp.vendor p.avp.code in
        there-second (member key keys) (member key met) p _ _ _ _ (known-second t (key ∷ met)) (known-second t met)

-- ---- what is refused does not go by what is seen

-- the two views have one fault and one unknown AVP with M
pub record SameRefused (v w : View) : Type 0 where
  pub fault : v.fault ≡ w.fault
  pub unsupported : v.unsupported ≡ w.unsupported

then_refused : (v v' w w' : View) → SameRefused v v' → SameRefused w w' → SameRefused (v then w) (v' then w')
unfolding ◌then◌
then_refused v v' w w' p q = record { fault = rw (p.fault, q.fault); unsupported = rw (p.unsupported, q.unsupported) }

each-refused : (one two : Placed → View) → ((p : Placed) → SameRefused (one p) (two p)) → (l : Avps) → SameRefused (each one l) (each two l)
unfolding each
each-refused one two h whole = record { fault = refl; unsupported = refl }
each-refused one two h (broken p) = record { fault = refl; unsupported = refl }
each-refused one two h (more p rest) = then_refused (one p) (two p) _ _ (h p) (each-refused one two h rest)

sized-refused : (k : Kind) (x y : List ℕ) (p : Placed) → SameRefused (sized k x p) (sized k y p)
unfolding sized single
sized-refused k x y p = go (size_right k (length p.avp.body))
  where
    go : (b : Bool) → SameRefused (cond b (single x p) (faulty 5014 (bare p))) (cond b (single y p) (faulty 5014 (bare p)))
    go true = record { fault = refl; unsupported = refl }
    go false = record { fault = refl; unsupported = refl }

kind-refused : (k : Kind) (x y : List ℕ) (v w : View) (p : Placed) → SameRefused v w → SameRefused (by_kind k x v p) (by_kind k y w p)
unfolding by_kind
kind-refused Unknown x y v w p h = record { fault = refl; unsupported = refl }
kind-refused Group x y v w p h = h
kind-refused Four x y v w p h = sized-refused Four x y p
kind-refused Eight x y v w p h = sized-refused Eight x y p
kind-refused Any x y v w p h = sized-refused Any x y p
kind-refused Closed x y v w p h = sized-refused Closed x y p

group-refused : (v w : View) (p : Placed) → SameRefused v w → SameRefused (group v p) (group w p)
unfolding group
group-refused v w p h = record { fault = h.fault; unsupported = h.unsupported }

module _ (kind : ℕ → ℕ → Kind) (seen seen' : ℕ → ℕ → List ℕ → List ℕ) where
  avp-refused : (left : ℕ) (p : Placed) → SameRefused (view_avp kind seen left p) (view_avp kind seen' left p)
  unfolding view_avp
  avp-refused zero p = kind-refused (kind p.avp.vendor p.avp.code) _ _ _ _ p (record { fault = refl; unsupported = refl })
  avp-refused (suc left) p =
      kind-refused (kind p.avp.vendor p.avp.code) _ _ _ _ p
      (group-refused _ _ p (each-refused (view_avp kind seen left) (view_avp kind seen' left) (avp-refused left) (avps (body_at p) p.avp.body)))

  pub view-refused : (left at : ℕ) (s : List ℕ) → SameRefused (view kind seen left at s) (view kind seen' left at s)
  unfolding view
  view-refused left at s = each-refused (view_avp kind seen left) (view_avp kind seen' left) (avp-refused left) (avps at s)
