-- Places do not matter: the view of a stretch is the same wherever it stands, but for the places that it shows.
-- Assumes nothing.
use mathlib.Core.Path.{◌≡◌, refl, sym, ap, ◌∙◌}
use mathlib.Core.Bool.{Bool, true, false, cond}
use mathlib.Core.Option.{Option, none, some}
use mathlib.Core.List.{List, []}
use Prim.Native.Nat.{ℕ, zero, suc, ◌+◌}
use native.Mathlib.Omega.{arith}
use lib.ListN.{length}
use Rattle.dictionary.specs.Kinds.{size_right}
use Rattle.dictionary.specs.declared.Kind.{Kind}
use Rattle.dictionary.specs.declared.Kind.TheVariants.{Four, Eight, Any, Group, Closed, Unknown}
use Rattle.paper.specs.Avp.{Avp, has_m, head_size, padded, length_of, avp_of, bare_of}
use Rattle.paper.specs.Reader.{Placed, placed, stump, avps, Faulty, end, View, or_else, ◌then◌, nothing, faulty, unknown, body_at, bare, single, sized, group, each, by_kind, kind_of, seen_of, view_avp, view}
use Rattle.paper.specs.Widened.{Clear, shown_of}
use Rattle.paper.proofs.AvpsLaws.{avps_empty, avps-more, avps-broken, avps_induction}

-- a fault without its place
abbrev pub fault_shown : Option Faulty → Option (ℕ × Avp)
fault_shown none = none
fault_shown (some f) = some (f.code, f.shown.avp)

-- the two views differ in places alone
pub record AnyPlace (v w : View) : Type 0 where
  pub fault : fault_shown v.fault ≡ fault_shown w.fault
  pub unsupported : shown_of v.unsupported ≡ shown_of w.unsupported
  pub known : v.known ≡ w.known

pub shown-or_else : (a b : Option Placed) → shown_of (or_else a b) ≡ or_else (shown_of a) (shown_of b)
shown-or_else none b = refl
shown-or_else (some a) b = refl

fault-or_else : (a b : Option Faulty) → fault_shown (or_else a b) ≡ or_else (fault_shown a) (fault_shown b)
fault-or_else none b = refl
fault-or_else (some a) b = refl

pub shown_none : (o : Option Placed) → shown_of o ≡ none → o ≡ none
shown_none none e = refl
shown_none (some p) e = let z : ◌≡◌ {A = ℕ} 0 1 = cc in absurd (omega arith)

fault_none : (o : Option Faulty) → fault_shown o ≡ none → o ≡ none
fault_none none e = refl
fault_none (some f) e = let z : ◌≡◌ {A = ℕ} 0 1 = cc in absurd (omega arith)

pub clear_any_place : (v w : View) → AnyPlace v w → Clear v → Clear w
clear_any_place v w p c =
    record {
      fault = fault_none w.fault (sym p.fault ∙ ap fault_shown c.fault);
      unsupported = shown_none w.unsupported (sym p.unsupported ∙ ap shown_of c.unsupported);
    }

pub then_any_place : (v v' w w' : View) → AnyPlace v v' → AnyPlace w w' → AnyPlace (v then w) (v' then w')
unfolding ◌then◌
then_any_place v v' w w' p q =
    record {
      fault = fault-or_else v.fault w.fault ∙ rw (p.fault, q.fault) (sym (fault-or_else v'.fault w'.fault));
      unsupported = shown-or_else v.unsupported w.unsupported ∙ rw (p.unsupported, q.unsupported) (sym (shown-or_else v'.unsupported w'.unsupported));
      known = rw (p.known, q.known);
    }

pub any_place : (v : View) → AnyPlace v v
any_place v = record { fault = refl; unsupported = refl; known = refl }

abbrev pub standing : Avp → ℕ → ℕ → Placed
standing a at to = record { at = at; end = to; avp = a }

-- `one` finds the same of an AVP wherever it stands
abbrev Placeless : (Placed → View) → Type 0
Placeless one = (a : Avp) (at to at' to' : ℕ) → AnyPlace (one (standing a at to)) (one (standing a at' to'))

faulty_placeless : (code : ℕ) (a : Avp) (at to at' to' : ℕ) → AnyPlace (faulty code (standing a at to)) (faulty code (standing a at' to'))
unfolding faulty
faulty_placeless code a at to at' to' = record { fault = refl; unsupported = refl; known = refl }

each_placeless : (one : Placed → View) → Placeless one → (at at' : ℕ) (s : List ℕ) → AnyPlace (each one (avps at s)) (each one (avps at' s))
unfolding each placed stump
each_placeless one h at at' s =
    avps_induction (λ a x l. (a' : ℕ) → AnyPlace (each one l) (each one (avps a' x)))
    (λ a a'. rw (avps_empty a') (any_place nothing))
    (λ a x e ih a'. rw (avps-more a' x e) (then_any_place _ _ _ _ (h (avp_of x) a (a + length x) a' (a' + length x)) (ih (a' + padded (length_of x)))))
    (λ a x l e a'. rw (avps-broken a' x l e) (faulty_placeless 5014 (bare_of x) a (a + length x) a' (a' + length x))) at s at'

-- a choice by a test that knows no place
cond_placeless : (b : Bool) (v v' w w' : View) → AnyPlace v v' → AnyPlace w w' → AnyPlace (cond b v w) (cond b v' w')
cond_placeless true v v' w w' p q = p
cond_placeless false v v' w w' p q = q

sized_placeless : (k : Kind) (x : List ℕ) → Placeless (sized k x)
unfolding sized single faulty
sized_placeless k x a at to at' to' =
    cond_placeless (size_right k (length a.body)) _ _ _ _ (record { fault = refl; unsupported = refl; known = refl }) (record { fault = refl; unsupported = refl; known = refl })

unknown_placeless : Placeless unknown
unfolding unknown
unknown_placeless a at to at' to' = go (has_m a.flags)
  where
    seen : Bool → ℕ → ℕ → View
    seen b c d = record { fault = none; unsupported = cond b (some (standing a c d)) none; known = end }

    go : (b : Bool) → AnyPlace (seen b at to) (seen b at' to')
    go true = record { fault = refl; unsupported = refl; known = refl }
    go false = record { fault = refl; unsupported = refl; known = refl }

by_placeless : (k : Kind) (x : List ℕ) (inside : Placed → View) → Placeless inside → Placeless (λ p. by_kind k x (inside p) p)
unfolding by_kind
by_placeless Unknown x inside h a at to at' to' = unknown_placeless a at to at' to'
by_placeless Group x inside h a at to at' to' = h a at to at' to'
by_placeless Four x inside h a at to at' to' = sized_placeless Four x a at to at' to'
by_placeless Eight x inside h a at to at' to' = sized_placeless Eight x a at to at' to'
by_placeless Any x inside h a at to at' to' = sized_placeless Any x a at to at' to'
by_placeless Closed x inside h a at to at' to' = sized_placeless Closed x a at to at' to'

group_placeless : (v w : View) (a : Avp) (at to at' to' : ℕ) → AnyPlace v w → AnyPlace (group v (standing a at to)) (group w (standing a at' to'))
unfolding group
group_placeless v w a at to at' to' p = record { fault = p.fault; unsupported = p.unsupported; known = rw p.known }

module _ (kind : ℕ → ℕ → Kind) (seen : ℕ → ℕ → List ℕ → List ℕ) where
  pub avp_placeless : (left : ℕ) (a : Avp) (at to at' to' : ℕ) → AnyPlace (view_avp kind seen left (standing a at to)) (view_avp kind seen left (standing a at' to'))
  unfolding view_avp
  avp_placeless zero a at to at' to' =
      by_placeless (kind_of kind seen a) (seen_of kind seen a) (λ p. faulty 5004 (bare p)) (λ b. faulty_placeless 5004 (record { code = b.code; flags = b.flags; vendor = b.vendor; body = [] })) a at to at' to'
  avp_placeless (suc left) a at to at' to' =
      by_placeless (kind_of kind seen a) (seen_of kind seen a) (λ p. group (each (view_avp kind seen left) (avps (body_at p) p.avp.body)) p)
      (λ b c d e f. group_placeless _ _ b c d e f
      (each_placeless (view_avp kind seen left) (avp_placeless left) (c + head_size b.flags) (e + head_size b.flags) b.body)) a at to at' to'

  -- a stretch that stands elsewhere has the same view but for places
  pub view_placeless : (left at at' : ℕ) (s : List ℕ) → AnyPlace (view kind seen left at s) (view kind seen left at' s)
  unfolding view
  view_placeless left at at' s = each_placeless (view_avp kind seen left) (avp_placeless left) at at' s

  -- in particular its known AVPs are the same
  pub known_placeless : (left at at' : ℕ) (s : List ℕ) → (view kind seen left at s).known ≡ (view kind seen left at' s).known
  known_placeless left at at' s = (view_placeless left at at' s).known
