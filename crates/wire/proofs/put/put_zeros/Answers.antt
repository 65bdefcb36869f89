-- `put_zeros` meets its contract.
-- Assumes nothing.
use mathlib.Core.Path.{◌≡◌, sym, ap, ◌∙◌}
use Prim.Native.Nat.{ℕ, ◌+◌, ◌-◌}
use native.Mathlib.Omega.{arith}
use lib.ListN.{length, replicate, length-replicate}
use Rattle.wire.specs.Put.{part}
use Rattle.wire.proofs.ListLaws.{length_part}
use Rattle.wire.proofs.PutLaws.{wrote_part}
use Rattle.wire.proofs.put.put_zeros.Goals as goal

pub returns : goal.returns
returns c =
    let a = c.args in
    let m : length (part a.at (a.at + a.n - a.at) a.out.now) ≡ a.n = length_part a.at (a.at + a.n - a.at) a.out.now (omega (arith, c.requires)) ∙ omega arith in
    wrote_part a.at a.n _ _ _ (sym (length-replicate a.n 0)) (c.fill.ensures.after (λ y h. h) ∙ ap (λ (k : ℕ). replicate k 0) m)
