-- `answer::reply::proxiable_flag` meets its contract: the bit where it stands is 64 or 0. Assumes nothing.
use mathlib.Core.Path.{◌≡◌, refl, ◌∙◌}
use mathlib.Core.Bool.{cond}
use Prim.Native.Nat.{ℕ, zero, suc, ◌*◌, ◌/◌, ◌%◌, ◌<◌}
use native.Mathlib.Omega.{arith}
use lib.ListN.{get_or}
use lib.Dec.{eqb}
use Rattle.std.proofs.lemmas.Nat.Bits.{and_high}
use Rattle.answer.proofs.reply.proxiable_flag.Goals as goal

in_place : (b : ℕ) → b < 2 → b * 64 ≡ cond (eqb b 1) 64 0
in_place zero h = refl
in_place (suc zero) h = refl
in_place (suc (suc b)) h = absurd (omega arith)

pub returns : goal.returns
returns c = let n = get_or c.args.m.now 4 0 in and_high n 1 6 ∙ in_place (n / 64 % 2) (omega arith)
