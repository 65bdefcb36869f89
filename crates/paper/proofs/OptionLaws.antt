-- What holds of an AVP, a fault or a refusal, if there is one.
-- Assumes nothing.
use mathlib.Core.Path.{◌≡◌, subst}
use mathlib.Core.Option.{Option, none, some}
use Prim.Native.Nat.{◌≤◌, ◌<◌}
use native.Mathlib.Omega.{arith}
use lib.Dec.{ltb}
use borrow.Author.Tests.{ltb-true, ltb-false}
use Rattle.paper.specs.Reader.{Placed, or_else}
use Rattle.paper.specs.Request.{earlier}
use Rattle.paper.proofs.AvpsLaws.{cond_cases}

-- `P` of what is there
abbrev pub Holds : {A : Type 0} → (A → Type 0) → Option A → Type 0
Holds P none = Unit {0}
Holds P (some a) = P a

pub holds-map : {A : Type 0} {P Q : A → Type 0} → ((a : A) → P a → Q a) → (o : Option A) → Holds P o → Holds Q o
holds-map f none h = tt
holds-map f (some a) h = f a h

pub holds_both : {A : Type 0} {P Q R : A → Type 0} → ((a : A) → P a → Q a → R a) → (o : Option A) → Holds P o → Holds Q o → Holds R o
holds_both f none h k = tt
holds_both f (some a) h k = f a h k

pub holds-or_else : {A : Type 0} (P : A → Type 0) (a b : Option A) → Holds P a → Holds P b → Holds P (or_else a b)
holds-or_else P none b h k = k
holds-or_else P (some a) b h k = h

pub holds_of : {A : Type 0} (P : A → Type 0) {o : Option A} {a : A} → o ≡ some a → Holds P o → P a
holds_of P e h = subst (Holds P) e h

-- of two AVPs the one that stands first
pub earlier-cases : (P : Option Placed → Type 0) (p q : Placed) → (q.at < p.at → P (some q)) → (p.at ≤ q.at → P (some p)) → P (earlier (some p) (some q))
unfolding earlier
earlier-cases P p q f g =
    cond_cases P (ltb q.at p.at) (λ e. f (ltb-true q.at p.at e)) (λ e. g (let h = ltb-false q.at p.at e in omega arith))
