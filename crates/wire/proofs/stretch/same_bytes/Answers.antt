-- `same_bytes` meets its contract: `==` and the definition both decide whether the stretches are equal.
-- Assumes nothing.
use Rattle.std.proofs.lemmas.Bool.Decides.{Decides-eqb, same_from_decides}
use Rattle.std.proofs.lemmas.Slice.Eq.{slice_eq-Decides}
use Rattle.wire.specs.Stretch.{same}
use Rattle.wire.proofs.StretchLaws.{same-decides}
use Rattle.wire.proofs.stretch.same_bytes.Goals as goal

pub returns : goal.returns
returns c =
    let a = c.args.a.now in
    let b = c.args.b.now in
    same_from_decides _ (same a b) (slice_eq-Decides Decides-eqb a b _ c.eq.ensures) (same-decides a b)
