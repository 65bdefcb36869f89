-- The AVPs of a stretch as the list that a walk gives: those of the paper, each in the numbers of its header.
-- Assumes nothing.
use Rattle.std.specs.Prelude.{List, [], ◌∷◌, ℕ, drop}
use Rattle.paper.specs.Reader.{whole, broken, more, avps}
use Rattle.paper.specs.Reader as Paper
use Rattle.avp.specs.Step.{avp_at}
use Rattle.avp.specs.declared.cursor.Avp.{Avp}
use Rattle.avp.specs.declared.cursor.Avps.{Avps}

-- the AVPs of the list, as far as it goes, where they stand in `s`
unfoldable pub items : List ℕ → Paper.Avps → List Avp
items s whole = []
items s (broken p) = []
items s (more p rest) = avp_at s p.at ∷ items s rest

-- the AVPs that a walk has left
abbrev pub left : Avps → List Avp
left w = items w.stretch.now (avps w.at (drop w.at w.stretch.now))
