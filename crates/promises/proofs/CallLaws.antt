-- What was shown of 01's outcome holds of every call; a call from C is such a call. And what closed calls need: a list is bytes by a look at each.
-- Assumes nothing.
use mathlib.Core.Path.{◌≡◌, refl, sym, ap, ◌∙◌, subst}
use mathlib.Core.Bool.{true, ◌&&◌}
use mathlib.Core.List.{List, [], ◌∷◌}
use Prim.Native.Nat.{ℕ, zero, suc, ◌+◌, ◌*◌, ◌/◌, ◌%◌, ◌^◌, ◌≤◌, ◌<◌}
use native.Mathlib.Omega.{arith}
use lib.Dec.{leb, lit<}
use borrow.Author.Tests.{leb-true}
use Rattle.std.proofs.lemmas.Bool.{and_parts}
use Rattle.wire.specs.Number.{Bytes}
use Rattle.wire.specs.Stretch.{all_in}
use Rattle.paper.specs.Correction.{Corrected, corrected}
use Rattle.paper.specs.Outcome.{Lent, Outcome, outcome}
use Rattle.paper.proofs.OutcomeLaws.{outcome-size}
use Rattle.promises.specs.Calls.{Call, Correction}
use Rattle.promises.specs.Promises.{ForC}

pub of_call : (P : Lent → Outcome → Type 0) → ((l : Lent) → P l (outcome l)) → (c : Call) → P c.lent c.left
of_call P p c = subst (P c.lent) (sym c.met) (p c.lent)

pub of_correction : (P : List ℕ → List ℕ → Corrected → Type 0) → ((t f : List ℕ) → P t f (corrected t f)) → (c : Correction) → P c.table c.frame c.left
of_correction P p c = subst (P c.table c.frame) (sym c.met) (p c.table c.frame)

-- ---- bytes

-- a list whose bytes are looked at one by one
pub bytes-seen : (s : List ℕ) → all_in 0 255 s ≡ true → Bytes s
unfolding all_in
bytes-seen [] e i = lit< tt
bytes-seen (x ∷ s) e zero = let h = leb-true x 255 (and_parts (leb 0 x) _ (and_parts (leb 0 x && leb x 255) _ e).0).1 in omega arith
bytes-seen (x ∷ s) e (suc i) = bytes-seen s (and_parts (leb 0 x && leb x 255) _ e).1 i

-- ---- from C

high : (n s : ℕ) → s < 2 ^ 32 → (n * 2 ^ 32 + s) / 2 ^ 32 ≡ n
high n s h = omega arith

low : (n s : ℕ) → s < 2 ^ 32 → (n * 2 ^ 32 + s) % 2 ^ 32 ≡ s
low n s h = omega arith

pub for_c : ForC
for_c c =
    let o = outcome c.given in
    let short : o.size ≤ 4292 = outcome-size c.given in
    let m = c.met in (
      record { lent = c.given; bytes = c.bytes; left = o; met = refl },
      record {
        lent = refl;
        number = sym (ap (λ (r : ℕ). r / 2 ^ 32) m.result ∙ high o.number o.size (omega arith));
        size = sym (ap (λ (r : ℕ). r % 2 ^ 32) m.result ∙ low o.number o.size (omega arith));
        table = sym m.table;
        answer = sym m.answer;
        cancel = sym m.cancel;
      },
    )
