-- `frame_kind` meets its contract: each return is one law over the tests that were passed and the one that failed.
-- Assumes nothing.
use Rattle.std.proofs.Common.{sym, ◌∙◌}
use Rattle.correction.proofs.JudgeLaws.{too_short, length_differs, version_differs, kind_decides}
use Rattle.correction.proofs.judge.frame_kind.Goals as goal

pub returns-then-frame-lt-FRAME_HEAD : goal.returns-then-frame-lt-FRAME_HEAD
returns-then-frame-lt-FRAME_HEAD c = too_short _ c.if-frame-lt-FRAME_HEAD.true

pub returns-then-get-frame : goal.returns-then-get-frame
returns-then-get-frame c = length_differs _ (λ q. c.if-get-frame.true (c.get.ensures.value ∙ q))

pub returns-then-frame-ne-FRAME_VERSION : goal.returns-then-frame-ne-FRAME_VERSION
returns-then-frame-ne-FRAME_VERSION c = version_differs _ c.if-frame-lt-FRAME_HEAD.false (sym c.get.ensures.value ∙ c.if-get-frame.false) c.if-frame-ne-FRAME_VERSION.true

pub returns : goal.returns
returns c = kind_decides _ c.if-frame-lt-FRAME_HEAD.false (sym c.get.ensures.value ∙ c.if-get-frame.false) c.if-frame-ne-FRAME_VERSION.false _ c.try_from.ensures
