-- `avp::cursor::Cursor::next` meets its contract: at each return the tests that led there say which case of `step_at` holds.
-- Assumes nothing.
use native.Mathlib.Omega.{arith}
use Rattle.paper.specs.Avp.{padded}
use Rattle.avp.proofs.StepLaws.{step_end, step_stump, step_short, step_outside, step_item}
use Rattle.avp.proofs.cursor.Cursor.next.Goals as goal

pub returns-then-s-at : goal.returns-then-s-at
returns-then-s-at c = step_end _ _ (omega arith)

pub returns-then-left-lt8 : goal.returns-then-left-lt8
returns-then-left-lt8 c = step_stump _ _ (omega arith) (omega arith)

pub returns-then-len-head : goal.returns-then-len-head
returns-then-len-head c = step_short _ _ (omega arith) (omega arith)

pub returns-then-left-size : goal.returns-then-left-size
unfolding padded
returns-then-left-size c = step_outside _ _ (omega arith) (omega arith)

pub vendor_at-vendor-requires : goal.vendor_at-vendor-requires
unfolding padded
vendor_at-vendor-requires c = omega arith

pub returns : goal.returns
unfolding padded
returns c =
    step_item _ _ (omega arith) (omega arith) (omega arith) c.get-code.ensures.value c.vendor_at-vendor.ensures (omega arith) (omega arith) (omega arith)
