-- What is told of a stretch does not depend on what the command sees of an AVP's data: the visit of the reader serves every command.
-- Assumes nothing.
use mathlib.Core.Path.{◌≡◌, refl, ap₂}
use mathlib.Core.Bool.{Bool, true, false, cond}
use mathlib.Core.List.{List}
use Prim.Native.Nat.{ℕ, zero, suc}
use lib.ListN.{length}
use Rattle.dictionary.specs.declared.Kind.{Kind}
use Rattle.dictionary.specs.declared.Kind.TheVariants.{Four, Eight, Any, Group, Closed, Unknown}
use Rattle.dictionary.specs.Kinds.{size_right}
use Rattle.paper.specs.Reader.{Placed, Avps, whole, broken, more, avps, View, or_else, ◌then◌, body_at, bare, faulty, single, sized, group, each, by_kind, kind_of, view_avp, view, tell, told}

-- the two views refuse alike
pub record Alike (v w : View) : Type 0 where
  pub fault : v.fault ≡ w.fault
  pub unsupported : v.unsupported ≡ w.unsupported

alike : (v : View) → Alike v v
alike v = record { fault = refl; unsupported = refl }

pub alike-told : {v w : View} → Alike v w → told v ≡ told w
unfolding told
alike-told a = ap₂ tell a.fault a.unsupported

each-alike : (f g : Placed → View) → ((p : Placed) → Alike (f p) (g p)) → (l : Avps) → Alike (each f l) (each g l)
unfolding each ◌then◌
each-alike f g h whole = alike _
each-alike f g h (broken p) = alike _
each-alike f g h (more p rest) =
    let r = each-alike f g h rest in
    record { fault = ap₂ or_else (h p).fault r.fault; unsupported = ap₂ or_else (h p).unsupported r.unsupported }

sized-alike : (k : Kind) (x y : List ℕ) (p : Placed) → Alike (sized k x p) (sized k y p)
unfolding sized single
sized-alike k x y p = go (size_right k (length p.avp.body))
  where
    go : (b : Bool) → Alike (cond b (single x p) (faulty 5014 (bare p))) (cond b (single y p) (faulty 5014 (bare p)))
    go true = record { fault = refl; unsupported = refl }
    go false = alike _

by-kind-alike : (k : Kind) (x y : List ℕ) (p : Placed) {v w : View} → Alike v w → Alike (by_kind k x v p) (by_kind k y w p)
unfolding by_kind
by-kind-alike Four x y p a = sized-alike Four x y p
by-kind-alike Eight x y p a = sized-alike Eight x y p
by-kind-alike Any x y p a = sized-alike Any x y p
by-kind-alike Closed x y p a = sized-alike Closed x y p
by-kind-alike Group x y p a = a
by-kind-alike Unknown x y p a = alike _

module _ (kind : ℕ → ℕ → Kind) (seen seen' : ℕ → ℕ → List ℕ → List ℕ) where
  avp-alike : (left : ℕ) (p : Placed) → Alike (view_avp kind seen left p) (view_avp kind seen' left p)
  unfolding view_avp group
  avp-alike zero p = by-kind-alike (kind_of kind seen p.avp) _ _ p (alike _)
  avp-alike (suc left) p =
      let i = each-alike (view_avp kind seen left) (view_avp kind seen' left) (avp-alike left) (avps (body_at p) p.avp.body) in
      by-kind-alike (kind_of kind seen p.avp) _ _ p (record { fault = i.fault; unsupported = i.unsupported })

  pub view-alike : (left at : ℕ) (s : List ℕ) → Alike (view kind seen left at s) (view kind seen' left at s)
  unfolding view
  view-alike left at s = each-alike (view_avp kind seen left) (view_avp kind seen' left) (avp-alike left) (avps at s)
