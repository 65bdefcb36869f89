-- Places of a request: an AVP that stands in it, and when the places that Failed-AVP names can be read.
-- Assumes nothing.
use Rattle.std.specs.Prelude.{◌≡◌, true, List, ℕ, ◌<◌, ◌≤◌, length, Option, Some, None}
use Rattle.std.proofs.Math.Option as Math
use Rattle.std.proofs.Math.Option.{some}
use Rattle.paper.specs.declared.Failed.{Failed}
use Rattle.paper.specs.declared.Failed.TheVariants.{Whole, Bare, Missing}
use Rattle.paper.specs.Avp.{framed, avp_of, bare_of}
use Rattle.paper.specs.Reader.{Placed}
use Rattle.paper.specs.Shown.{stretch}

-- something of the message `m` lies from `at` to `to`
pub record LiesIn (m : List ℕ) (at to : ℕ) : Type 0 where
  pub order : at < to
  pub fits : to ≤ length m

-- `p` is what stands at its place of `m`: an AVP whose length is right, read from there to the end of what encloses it
pub record StandsIn (m : List ℕ) (p : Placed) : Type 0 where
  pub lies : LiesIn m p.at p.end
  pub right : framed (stretch m p.at p.end) ≡ true
  pub avp : p.avp ≡ avp_of (stretch m p.at p.end)

-- `p` is the head of what stands at its place of `m`: of an AVP, or of what is none
pub record HeadIn (m : List ℕ) (p : Placed) : Type 0 where
  pub lies : LiesIn m p.at p.end
  pub avp : p.avp ≡ bare_of (stretch m p.at p.end)

-- what was found, if anything, stands in `m`
abbrev pub Standing : List ℕ → Math.Option Placed → Type 0
Standing m o = (p : Placed) → o ≡ some p → StandsIn m p

-- what Failed-AVP shows can be read: its places lie inside the request, and what it shows whole is an AVP whose length is right
abbrev pub ShownIn : List ℕ → Option Failed → Type 0
ShownIn m None = Unit {0}
ShownIn m (Some (Whole at to)) = LiesIn m at to × (framed (stretch m at to) ≡ true)
ShownIn m (Some (Bare at to)) = LiesIn m at to
ShownIn m (Some (Missing key four)) = Unit {0}
