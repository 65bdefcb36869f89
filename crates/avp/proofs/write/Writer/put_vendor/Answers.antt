-- `avp::write::Writer::put_vendor` meets its contract. Assumes nothing.
use mathlib.Core.Path.{sym, ◌∙◌}
use Rattle.avp.proofs.FieldLaws.{field_with_v, field_without_v}
use Rattle.avp.proofs.WriteLaws.{appended_nothing}
use native.Mathlib.Omega.{arith}
use Rattle.avp.proofs.write.Writer.put_vendor.Goals as goal

pub put_u32-requires : goal.put_u32-requires
put_u32-requires c =
    rw (field_with_v _ _ (sym c.has_v.ensures ∙ c.if-has_v.true)) at c.requires

pub returns-then-has_v : goal.returns-then-has_v
returns-then-has_v c =
    rw (field_with_v _ _ (sym c.has_v.ensures ∙ c.if-has_v.true)) c.put_u32.ensures

pub returns-else-has_v : goal.returns-else-has_v
returns-else-has_v c = rw (field_without_v _ _ (sym c.has_v.ensures ∙ c.if-has_v.false)) (appended_nothing _ (omega (arith, c.requires)))
