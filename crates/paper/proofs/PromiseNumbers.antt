-- Promise: the number of a call is 0 exactly if it is answered, and else one of the five of "Refusals without an answer".
-- Assumes nothing.
use mathlib.Core.Path.{◌≡◌, refl, sym, ap, ◌∙◌}
use mathlib.Core.Bool.{Bool, true, ◌||◌, false≢true}
use mathlib.Core.Option.{Option, none, some}
use Prim.Native.Nat.{ℕ}
use native.Mathlib.Omega.{arith}
use lib.Dec.{eqb}
use Rattle.paper.specs.Answer as Answer
use Rattle.paper.specs.Answer.{Verdict, base}
use Rattle.paper.specs.Outcome.{Lent, Outcome, silent, answered, outcome}
use Rattle.paper.specs.Refusals.{Said, number, result, experimental, said_by, said, refusals, is_answered, NumberSaid}
use Rattle.paper.proofs.OutcomeLaws.{Comes, silence, refused, ruled, done, outcome-comes}
use Rattle.paper.proofs.PromiseRefusals.{all_say, outcome-says}

-- a number that is said is one of the five
one_of_five : Said → Bool
one_of_five (number n) = eqb n 3 || (eqb n 5 || (eqb n 4 || (eqb n 1 || eqb n 2)))
one_of_five (result code) = true
one_of_five (experimental code) = true

says-one : (l : Lent) → one_of_five (said (outcome l)) ≡ true
unfolding all_say refusals one_of_five
says-one = outcome-says one_of_five refl

answered-zero : {l : Lent} {o : Outcome} → Comes l o → is_answered o.verdict ≡ true → o.number ≡ 0
unfolding silent answered
answered-zero (silence n) e = absurd (false≢true e)
answered-zero (refused p x q) e = refl
answered-zero (ruled p n code) e = refl
answered-zero (done p n i q) e = refl

pub number-said : (l : Lent) → NumberSaid (outcome l)
unfolding said said_by one_of_five
number-said l = go (outcome l).verdict refl
  where
    o : Outcome
    o = outcome l

    go : (v : Option Verdict) → o.verdict ≡ v → NumberSaid o
    go none q =
        let silence : said o ≡ number o.number = ap (said_by o.number) q in
        let five = sym (ap one_of_five silence) ∙ says-one l in
        record {
          answered = ((λ z. absurd (false≢true (rw z at five))), (λ a. absurd (false≢true (sym (ap is_answered q) ∙ a))));
          unanswered = λ e. five;
          of_result = λ code e. let z : ◌≡◌ {A = ℕ} 0 1 = cc in absurd (omega arith);
          of_experimental = λ code e. let z : ◌≡◌ {A = ℕ} 0 1 = cc in absurd (omega arith);
          of_number = λ n e. cc;
        }
    go (some v) q =
        let zero : o.number ≡ 0 = answered-zero (outcome-comes l) (ap is_answered q) in
        record {
          answered = ((λ z. ap is_answered q), (λ a. zero));
          unanswered = λ e. let z : ◌≡◌ {A = ℕ} 0 1 = cc in absurd (omega arith);
          of_result = λ code e. zero;
          of_experimental = λ code e. zero;
          of_number = λ n e. no_number v (sym (ap (said_by o.number) q) ∙ e);
        }
      where
        no_number : (v : Verdict) {n : ℕ} → said_by o.number (some v) ≡ number n → o.number ≡ n
        no_number (base code) e = let z : ◌≡◌ {A = ℕ} 0 1 = cc in absurd (omega arith)
        no_number (Answer.experimental code) e = let z : ◌≡◌ {A = ℕ} 0 1 = cc in absurd (omega arith)
