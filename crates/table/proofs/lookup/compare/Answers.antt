-- `compare` meets its contract: of two numbers the first decide where they differ.
-- Assumes nothing.
use Prim.Native.Nat.{ℕ}
use native.Mathlib.Omega.{arith}
use Rattle.std.proofs.Common.{ap, ◌∙◌, nat_cmp}
use Rattle.table.specs.Found.{key_num}
use Rattle.table.proofs.KeyLaws.{cmp_low, cmp_high}
use Rattle.table.proofs.lookup.compare.Goals as goal
use Rattle.table.proofs.lookup.compare.Goals.{then-a-b, else-a-b}

pub returns : goal.returns
unfolding key_num
returns c =
    let a = c.args.a in
    let b = c.args.b in
    c.cmp.ensures
    ∙ elim c.if-a-b.branch [ then-a-b w ↦ ap (λ (p : ℕ × ℕ). nat_cmp p.0 p.1) w.x-is ∙ cmp_low a.0 a.1 b.0 b.1 w.if-a-b.true | else-a-b w ↦ ap (λ (p : ℕ × ℕ). nat_cmp p.0 p.1) w.x-is ∙ cmp_high a.0 a.1 b.0 b.1 w.if-a-b.false (omega arith) (omega arith) ]
