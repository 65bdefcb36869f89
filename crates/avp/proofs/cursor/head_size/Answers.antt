-- `avp::cursor::head_size` meets its contract. Assumes nothing.
use mathlib.Core.Path.{sym, ◌∙◌}
use Rattle.avp.proofs.FieldLaws.{head_with_v, head_without_v}
use Rattle.avp.proofs.cursor.head_size.Goals as goal

pub returns-then-has_v : goal.returns-then-has_v
returns-then-has_v c = sym (head_with_v _ (sym c.has_v.ensures ∙ c.if-has_v.true))

pub returns-else-has_v : goal.returns-else-has_v
returns-else-has_v c = sym (head_without_v _ (sym c.has_v.ensures ∙ c.if-has_v.false))
