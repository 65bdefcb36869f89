-- Places in a message, in the paper's words: what a search answers, and the data of what was found.
-- Assumes nothing.
use Rattle.std.specs.Prelude.{◌≡◌, cond, List, [], ℕ, ◌+◌, ◌≤◌, ltb, length, Option, Some, None}
use Rattle.std.proofs.Math.Option as Math
use Rattle.paper.specs.Reader.{Placed, body_at}
use Rattle.paper.specs.Find.{body_found}
use Rattle.paper.specs.Shown.{stretch}
use Rattle.paper.specs.ShownIn.{Standing}
use Rattle.request.specs.declared.place.Spot.{Spot}

-- the places of an AVP
abbrev pub spot_of : Placed → Spot
spot_of p = record { at = p.at; end = p.end; from = body_at p; to = body_at p + length p.avp.body }

-- the answer for what the paper finds
abbrev pub sought_of : Math.Option Placed → Option Spot
sought_of Math.none = None
sought_of (Math.some p) = Some (spot_of p)

-- of two that were sought the one that stands first
abbrev pub earlier_sought : Option Spot → Option Spot → Option Spot
earlier_sought None g = g
earlier_sought (Some p) None = Some p
earlier_sought (Some p) (Some q) = cond (ltb q.at p.at) (Some q) (Some p)

-- the bytes `s` stand in the message from `at` on
pub record InMessage (m : List ℕ) (at : ℕ) (s : List ℕ) : Type 0 where
  pub fits : at + length s ≤ length m
  pub same : s ≡ stretch m at (at + length s)

-- the data of an AVP lies inside the message
pub record DataIn (m : List ℕ) (s : Spot) : Type 0 where
  pub order : s.from ≤ s.to
  pub fits : s.to ≤ length m

-- so does that of what was found, if anything
abbrev pub FoundIn : List ℕ → Option Spot → Type 0
FoundIn m None = Unit {0}
FoundIn m (Some s) = DataIn m s

-- the data of what was found, no bytes where nothing was
abbrev pub data_in : List ℕ → Option Spot → List ℕ
data_in m None = []
data_in m (Some s) = stretch m s.from s.to

-- `f` is the answer for what the paper finds in `m`, `o`: its places, which can be read, and its data
pub record Finds (m : List ℕ) (o : Math.Option Placed) (f : Option Spot) : Type 0 where
  pub sought : f ≡ sought_of o
  pub stands : Standing m o
  pub inside : FoundIn m f
  pub value : data_in m f ≡ body_found o
