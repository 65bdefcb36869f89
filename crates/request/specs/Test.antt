-- What a test answers, in the paper's words: the refusal of the message, with places that can be read.
-- Assumes nothing.
use Rattle.std.specs.Prelude.{◌≡◌, Bool, true, false, List, ℕ, Option, Some, None, Result, Ok, Err}
use Rattle.std.proofs.Math.Option as Math
use Rattle.std.proofs.Math.Option.{none, some}
use Rattle.dictionary.specs.declared.Kind.{Kind}
use Rattle.dictionary.specs.declared.Kind.TheVariants.{Four, Eight, Any, Group, Closed, Unknown}
use Rattle.paper.specs.declared.Failed.{Failed}
use Rattle.paper.specs.declared.Failed.TheVariants.{Whole}
use Rattle.paper.specs.Shown.{failed_in}
use Rattle.paper.specs.ShownIn.{ShownIn}
use Rattle.paper.specs.Request as Paper
use Rattle.request.specs.declared.place.Spot.{Spot}
use Rattle.request.specs.declared.tests.Refusal.{Refusal}

-- the refusal of the message `m`
abbrev pub refusal_in : List ℕ → Result (Unit {0}) Refusal → Math.Option Paper.Refusal
refusal_in m (Ok fine) = none
refusal_in m (Err r) = some (record { code = r.code.0; failed = failed_in m r.failed; echo = r.echo })

-- the places that it names can be read
abbrev pub PlacesIn : List ℕ → Result (Unit {0}) Refusal → Type 0
PlacesIn m (Ok fine) = Unit {0}
PlacesIn m (Err r) = ShownIn m r.failed

-- `r` is the paper's refusal of `m`
pub record Answers (m : List ℕ) (x : Math.Option Paper.Refusal) (r : Result (Unit {0}) Refusal) : Type 0 where
  pub same : refusal_in m r ≡ x
  pub places : PlacesIn m r

-- a refusal by its number
abbrev pub refusal_of : ℕ → Option Failed → Bool → Refusal
refusal_of code failed echo = record { code = record { 0 = code }; failed = failed; echo = echo }

-- a refusal that shows what was found whole
abbrev pub shown_test : ℕ → Option Spot → Result (Unit {0}) Refusal
shown_test code None = Ok tt
shown_test code (Some s) = Err (refusal_of code (Some (Whole s.at s.end)) true)

-- the 4-byte types
abbrev pub is_four : Kind → Bool
is_four Four = true
is_four Eight = false
is_four Any = false
is_four Group = false
is_four Closed = false
is_four Unknown = false
