-- `right_imei` meets its contract: one of the three counts, then the counted field, whose own bound they keep.
-- Assumes nothing.
use mathlib.Core.Bool.{Bool, true, false, or_assoc, ◌||◌, ◌&&◌}
use Prim.Native.Nat.{ℕ}
use lib.Dec.{leb, eqb}
use lib.ListN.{get_or}
use Rattle.std.proofs.Common.{◌≡◌, refl, sym, ◌∙◌, arith}
use Rattle.std.proofs.lemmas.Bool.Decides.{nat_tests}
use Rattle.paper.specs.Table.{counted, imei_right}
use Rattle.table.proofs.valid.right_imei.Goals as goal

few : (n : ℕ) → (eqb n 0 || eqb n 14) || eqb n 15 ≡ true → leb n 15 ≡ true
few n e = grind (arith, nat_tests)

one-of : (n : ℕ) (b : Bool) → (eqb n 0 || eqb n 14) || eqb n 15 ≡ true → b ≡ (eqb n 0 || (eqb n 14 || eqb n 15)) && b
one-of n b e = let f = sym (or_assoc (eqb n 0) (eqb n 14) (eqb n 15)) ∙ e in rw f refl

none-of : (n : ℕ) (b : Bool) → (eqb n 0 || eqb n 14) || eqb n 15 ≡ false → (eqb n 0 || eqb n 14) || eqb n 15 ≡ (eqb n 0 || (eqb n 14 || eqb n 15)) && b
none-of n b e = let f = sym (or_assoc (eqb n 0) (eqb n 14) (eqb n 15)) ∙ e in rw f e

pub returns-then-n : goal.returns-then-n
unfolding imei_right counted
returns-then-n c =
    let n : ℕ = get_or c.args.r.now 204 0 in
    rw (few n c.if-n.true) at c.right_counted.ensures ∙ one-of n _ c.if-n.true

pub returns-else-n : goal.returns-else-n
unfolding imei_right counted
returns-else-n c = none-of (get_or c.args.r.now 204 0) _ c.if-n.false
