-- Not empty: a table, and an attach that succeeds, displaces a node and lists it, byte for byte.
-- Assumes nothing.
use mathlib.Core.Path.{◌≡◌, refl}
use Rattle.paper.specs.Outcome.{outcome}
use Rattle.paper.specs.Attach.{table_before, attach_request, table_after, attach_answer, attach_cancel, attach_lent, attach_outcome}
use Rattle.paper.proofs.Everything.{everything}

pub attach_succeeds : outcome attach_lent ≡ attach_outcome
unfolding everything table_before attach_request table_after attach_answer attach_cancel attach_lent attach_outcome
attach_succeeds = refl
