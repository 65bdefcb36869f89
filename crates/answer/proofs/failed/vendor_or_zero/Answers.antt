-- `answer::failed::vendor_or_zero` meets its contract. Assumes nothing.
use mathlib.Core.Path.{sym, ◌∙◌}
use native.Mathlib.Omega.{arith}
use Rattle.answer.proofs.FailedLaws.{num_at_past}
use Rattle.answer.proofs.failed.vendor_or_zero.Goals as goal
use Rattle.answer.proofs.failed.vendor_or_zero.Goals.{then-not-has_v-via-then-not-has_v, then-not-has_v-via-else-not-has_v+then-s-lt8}

pub returns-then-not-has_v : goal.returns-then-not-has_v
returns-then-not-has_v c =
    elim c.then-not-has_v.branch [
      | then-not-has_v-via-then-not-has_v w ↦ rw (sym c.has_v.ensures ∙ w.if-not-has_v.true)
      | then-not-has_v-via-else-not-has_v+then-s-lt8 w ↦ rw (sym c.has_v.ensures ∙ w.if-not-has_v.false) (sym (num_at_past 4 c.args.s.now 8 (omega (arith, w.if-s-lt8.true))))
    ]
