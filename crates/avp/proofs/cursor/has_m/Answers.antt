-- `avp::cursor::has_m` meets its contract: the bit by itself is 64 times the paper's. Assumes nothing.
use mathlib.Core.Path.{◌≡◌, refl, ap, ◌∙◌}
use mathlib.Core.Bool.{not}
use Prim.Native.Nat.{ℕ, zero, suc, ◌*◌, ◌/◌, ◌%◌, ◌<◌}
use native.Mathlib.Omega.{arith}
use lib.Dec.{eqb}
use Rattle.std.proofs.lemmas.Nat.Bits.{and_high}
use Rattle.avp.proofs.cursor.has_m.Goals as goal

one_bit : (b : ℕ) → b < 2 → not (eqb (b * 64) 0) ≡ eqb b 1
one_bit zero h = refl
one_bit (suc zero) h = refl
one_bit (suc (suc b)) h = absurd (omega arith)

pub returns : goal.returns
returns c =
    let f = c.args.flags in
    ap (λ (x : ℕ). not (eqb x 0)) (and_high f 1 6) ∙ one_bit (f / 64 % 2) (omega arith)
