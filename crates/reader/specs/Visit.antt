-- What the visit tells of a stretch and of one AVP of it, over any dictionary.
-- Assumes nothing.
use Rattle.std.specs.Prelude.{◌≡◌, true, List, ℕ, ◌+◌, drop}
use Rattle.dictionary.specs.declared.Kind.{Kind}
use Rattle.paper.specs.declared.Visit.{Visit}
use Rattle.paper.specs.Avp.{framed}
use Rattle.paper.specs.Reader.{placed, view, view_avp, told}
use Rattle.avp.specs.declared.cursor.Avp.{Avp}
use Rattle.avp.specs.Step.{avp_at}
use Rattle.avp.specs.Found.{Inside}

-- what is told of a stretch does not depend on what a command sees of an AVP's data (`view-alike`); here it sees all of it
abbrev pub all_seen : ℕ → ℕ → List ℕ → List ℕ
all_seen vendor code body = body

-- the stretch `s` at `base` of the message, where `left` groups may still be entered, one in another
abbrev pub told_of : (ℕ → ℕ → Kind) → ℕ → ℕ → List ℕ → Visit
told_of kind left base s = told (view kind all_seen left base s)

-- the AVP at `at` of that stretch
abbrev pub told_avp : (ℕ → ℕ → Kind) → ℕ → ℕ → List ℕ → ℕ → Visit
told_avp kind left base s at = told (view_avp kind all_seen left (placed (base + at) (drop at s)))

-- `a` is the AVP at its place of `s`, its length right
pub record ReadFrom (s : List ℕ) (a : Avp) : Type 0 where
  pub read : a ≡ avp_at s a.at
  pub right : framed (drop a.at s) ≡ true
  pub inside : Inside s a
