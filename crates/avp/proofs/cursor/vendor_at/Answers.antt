-- `avp::cursor::vendor_at` meets its contract. Assumes nothing.
use mathlib.Core.Path.{sym, ◌∙◌}
use native.Mathlib.Omega.{arith}
use Rattle.avp.proofs.FieldLaws.{head_with_v}
use Rattle.avp.proofs.cursor.vendor_at.Goals as goal

pub get-requires : goal.get-requires
get-requires c =
    let h = head_with_v c.args.flags (sym c.has_v.ensures ∙ c.if-has_v.true) in
    omega arith
