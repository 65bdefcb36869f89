-- `store_counted` meets its contract: count, bytes and zeros in a row are the filled field.
-- Assumes nothing.
use mathlib.Core.Path.{ap, ◌∙◌}
use Prim.Native.Nat.{ℕ, ◌+◌}
use native.Mathlib.Omega.{arith}
use Rattle.wire.specs.Put.{put}
use Rattle.paper.specs.Table.{store}
use Rattle.paper.specs.Fields.{filled}
use Rattle.table.proofs.WriteLaws.{counted-written}
use Rattle.table.proofs.record.store_counted.Goals as goal

pub returns : goal.returns
unfolding store
returns c =
    let t = c.args.t.now in
    let xs = c.args.xs.now in
    counted-written (c.record_at.result + c.args.at) c.args.most _ _ _ xs t _ _ _ (omega (arith, c.requires, c.record_at.ensures)) (omega (arith, c.requires)) c.put-first.ensures c.put_bytes-behind.ensures c.put_zeros.ensures
    ∙ ap (λ (k : ℕ). put (k + c.args.at) (filled c.args.most xs) t) c.record_at.ensures
