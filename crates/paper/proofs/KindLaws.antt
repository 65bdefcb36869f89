-- Tests of the kinds that the dictionary gives: known ones, and those of AVPs that are known and not entered.
-- Assumes nothing.
use mathlib.Core.Path.{◌≡◌}
use mathlib.Core.Logic.{◌≢◌}
use mathlib.Core.Bool.{Bool, true, false, false≢true}
use Rattle.dictionary.specs.declared.Kind.{Kind}
use Rattle.dictionary.specs.declared.Kind.TheVariants.{Four, Eight, Any, Group, Closed, Unknown}

abbrev pub known : Kind → Bool
known Four = true
known Eight = true
known Any = true
known Group = true
known Closed = true
known Unknown = false

abbrev pub leaf_kind : Kind → Bool
leaf_kind Four = true
leaf_kind Eight = true
leaf_kind Any = true
leaf_kind Group = false
leaf_kind Closed = true
leaf_kind Unknown = false

pub leaf-not-group : (k : Kind) → leaf_kind k ≡ true → k ≢ Group
leaf-not-group k e g = false≢true (rw g at e)

pub leaf-not-unknown : (k : Kind) → leaf_kind k ≡ true → k ≢ Unknown
leaf-not-unknown k e u = false≢true (rw u at e)
