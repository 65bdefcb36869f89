-- "first that applies": a chain of tests goes on where a test is fine and stops at the first that is not.
-- Assumes nothing.
use mathlib.Core.Path.{◌≡◌, refl, sym, ap, ◌∙◌}
use mathlib.Core.Option.{Option, none, some}
use mathlib.Core.List.{List, [], ◌∷◌, ◌++◌}
use Prim.Native.Nat.{ℕ}
use Rattle.std.specs.Prelude.{Result, Ok, Err}
use Rattle.paper.specs.Reader.{or_else}
use Rattle.paper.specs.Request.{Refusal, first}
use Rattle.request.specs.declared.tests.Refusal as Code
use Rattle.request.specs.Test.{Answers}

-- a test that is fine refuses nothing
pub fine_none : {m : List ℕ} {x : Option Refusal} {u : Unit {0}} → Answers m x (Ok u) → x ≡ none
fine_none a = sym a.same

-- the rest of a chain does not matter behind a test that fails
pub fails_first : {m : List ℕ} {x : Option Refusal} {e : Code.Refusal} (rest : Option Refusal) → Answers m x (Err e) → or_else x rest ≡ x
fails_first rest a = ap (λ (y : Option Refusal). or_else y rest) (sym a.same) ∙ a.same

or_else_none : (x : Option Refusal) → or_else x none ≡ x
or_else_none none = refl
or_else_none (some y) = refl

module _ {m : List ℕ} {x : Option Refusal} where
  -- a test that is fine refuses nothing, and the rest of the chain decides
  pub goes_on_lem : (rest : Option Refusal) {u : Unit {0}} {r : Result (Unit {0}) Code.Refusal} → Answers m x (Ok u) → Answers m rest r → Answers m (or_else x rest) r
  goes_on_lem rest a b = rw (sym a.same) b

  -- the rest does not matter behind one that fails
  pub stops : (rest : Option Refusal) {e : Code.Refusal} → Answers m x (Err e) → Answers m (or_else x rest) (Err e)
  stops rest a = rw (fails_first rest a) a

  -- the last test says what is left
  pub ends : {r : Result (Unit {0}) Code.Refusal} → Answers m x r → Answers m (or_else x none) r
  ends a = rw (or_else_none x) a

-- what the chain says is what the tests `xs` that are left of it say
pub record Left (all : Option Refusal) (xs : List (Option Refusal)) : Type 0 where
  pub same : all ≡ first xs

module _ {m : List ℕ} {all x : Option Refusal} where
  pub left-on : {xs : List (Option Refusal)} {u : Unit {0}} → Left all (x ∷ xs) → Answers m x (Ok u) → Left all xs
  left-on {xs} l a = record { same = l.same ∙ ap (λ (y : Option Refusal). or_else y (first xs)) (fine_none a) }

  pub left-stops : {xs : List (Option Refusal)} {e : Code.Refusal} → Left all (x ∷ xs) → Answers m x (Err e) → Answers m all (Err e)
  left-stops {xs} l a = rw (l.same ∙ fails_first (first xs) a) a

  -- the last test says what the chain says
  pub left-ends : {r : Result (Unit {0}) Code.Refusal} → Left all (x ∷ []) → Answers m x r → Answers m all r
  left-ends l a = rw (l.same ∙ or_else_none x) a

-- two chains in a row
pub first-append : (xs ys : List (Option Refusal)) → first (xs ++ ys) ≡ or_else (first xs) (first ys)
first-append [] ys = refl
first-append (none ∷ xs) ys = first-append xs ys
first-append (some x ∷ xs) ys = refl
