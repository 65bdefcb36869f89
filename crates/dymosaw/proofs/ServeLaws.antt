-- Which outcome a call comes to, by the tests that it passed.
-- Assumes nothing.
use Rattle.std.proofs.Common.{◌≡◌, ℕ, ◌*◌, ◌<◌, ◌≤◌, Bool, true, false, cond, not, ◌&&◌, ◌||◌, ltb, List, length, sym, refl, ap, ◌∙◌, arith, ltb-false}
use Rattle.paper.specs.Layout.{least_answer, cancel_size, least_request, most_request}
use Rattle.paper.specs.Table.{valid}
use Rattle.paper.specs.Request.{is_name, is_request, refusal}
use Rattle.paper.specs.Outcome.{Lent, Outcome, silent, by_refusal, outcome}
use Rattle.paper.specs.Passed.{Passed}
use Rattle.paper.proofs.TestLaws.{or-false-left}
use Rattle.paper.proofs.OutcomeLaws.{passed}
use Rattle.std.specs.Prelude.{Result, Ok, Err}
use Rattle.dymosaw.specs.declared.serve.Answered.{Answered}
use Rattle.dymosaw.specs.declared.serve.Silent.{Silent}
use Rattle.dymosaw.specs.declared.serve.Silent.TheVariants.{RequestSize, NotRequest, ShortBuffer, TableNotValid, OwnNameNotValid}
use Rattle.dymosaw.specs.Serve.{came_to, Is, number_of_silent, number_refused, silent_number}

-- ---- the refusals without an answer

abbrev no_room : Lent → Bool
no_room l = ltb (length l.answer) least_answer || ltb (length l.cancel) cancel_size

abbrev misnamed : Lent → Bool
misnamed l = not (is_name l.host && is_name l.realm)

abbrev invalid : Lent → Bool
invalid l = not (valid l.table)

abbrev missized : Lent → Bool
missized l = ltb (length l.request) least_request || ltb most_request (length l.request)

abbrev no_request : Lent → Bool
no_request l = not (is_request l.request)

-- a test of what two calls answered, and of what one did
pub both_said : {a b x y v : Bool} → a ≡ x → b ≡ y → not (a && b) ≡ v → not (x && y) ≡ v
both_said e f h = rw (sym e, sym f) h

pub said : {a x v : Bool} → a ≡ x → not a ≡ v → not x ≡ v
said e h = rw (sym e) h

pub long_enough : (n k : ℕ) (b : Bool) → ltb n k || b ≡ false → k ≤ n
long_enough n k b e = ltb-false n k (or-false-left (ltb n k) b e)

module _ (l : Lent) where
  pub refused_3 : no_room l ≡ true → 3 ≡ silent_number l
  unfolding silent_number
  refused_3 a = rw a

  module _ (a : no_room l ≡ false) where
    pub refused_5 : misnamed l ≡ true → 5 ≡ silent_number l
    unfolding silent_number
    refused_5 b = rw (a, b)

    module _ (b : misnamed l ≡ false) where
      pub refused_4 : invalid l ≡ true → 4 ≡ silent_number l
      unfolding silent_number
      refused_4 c = rw (a, b, c)

      module _ (c : invalid l ≡ false) where
        pub refused_1 : missized l ≡ true → 1 ≡ silent_number l
        unfolding silent_number
        refused_1 d = rw (a, b, c, d)

        module _ (d : missized l ≡ false) where
          pub refused_2 : no_request l ≡ true → 2 ≡ silent_number l
          unfolding silent_number
          refused_2 e = rw (a, b, c, d, e)

          pub not-refused : no_request l ≡ false → 0 ≡ silent_number l
          unfolding silent_number
          not-refused e = rw (a, b, c, d, e)

-- the number and the outcome go together
data Tested (l : Lent) : ℕ → Outcome → Type 0 where
  stopped : (n : ℕ) → 0 < n → Tested l n (silent n l)
  went_on : Passed l → Tested l 0 (by_refusal l (refusal l.request))

tested : (l : Lent) → Tested l (silent_number l) (outcome l)
unfolding silent_number outcome
tested l = go (no_room l) refl (misnamed l) refl (invalid l) refl (missized l) refl (no_request l)
  where
    go : (a : Bool) → no_room l ≡ a → (b : Bool) → misnamed l ≡ b → (c : Bool) → invalid l ≡ c → (d : Bool) → missized l ≡ d → (e : Bool)
        → Tested l (cond a 3 (cond b 5 (cond c 4 (cond d 1 (cond e 2 0))))) (cond a (silent 3 l) (cond b (silent 5 l) (cond c (silent 4 l) (cond d (silent 1 l) (cond e (silent 2 l) (by_refusal l (refusal l.request)))))))
    go true p b q c r d s e = stopped 3 (omega arith)
    go false p true q c r d s e = stopped 5 (omega arith)
    go false p false q true r d s e = stopped 4 (omega arith)
    go false p false q false r true s e = stopped 1 (omega arith)
    go false p false q false r false s true = stopped 2 (omega arith)
    go false p false q false r false s false = went_on (passed l p q r s)

stopped_outcome : (l : Lent) (n : ℕ) (o : Outcome) → Tested l n o → (n ≡ 0 → ⊥) → silent n l ≡ o
stopped_outcome l n o (stopped k h) ne = refl
stopped_outcome l n o (went_on p) ne = absurd (ne refl)

went_on_outcome : (l : Lent) (n : ℕ) (o : Outcome) → Tested l n o → n ≡ 0 → Passed l × (by_refusal l (refusal l.request) ≡ o)
went_on_outcome l n o (stopped k h) e = absurd (omega arith)
went_on_outcome l n o (went_on p) e = (p, refl)

numbered : (refusal : Silent) → 0 < number_of_silent refusal
numbered RequestSize = omega arith
numbered NotRequest = omega arith
numbered ShortBuffer = omega arith
numbered TableNotValid = omega arith
numbered OwnNameNotValid = omega arith

module _ (l : Lent) {A : Type 0} {r : Result A Silent} (e : number_refused r ≡ silent_number l) where
  -- a refusal without an answer
  pub silent-outcome : (refusal : Silent) → r ≡ Err refusal → {s : Result Answered Silent} → s ≡ Err refusal → came_to s l.table l.answer l.cancel ≡ outcome l
  unfolding silent
  silent-outcome refusal q p =
      let n : number_of_silent refusal ≡ silent_number l = ap number_refused (sym q) ∙ e in
      ap (λ (s : Result Answered Silent). came_to s l.table l.answer l.cancel) p ∙ ap (λ (k : ℕ). silent k l) n
      ∙ stopped_outcome l (silent_number l) (outcome l) (tested l) (λ z. omega (arith, numbered refusal, n))

  -- no such refusal
  went_on_told : (x : A) → r ≡ Ok x → Passed l × (by_refusal l (refusal l.request) ≡ outcome l)
  went_on_told x q = went_on_outcome l (silent_number l) (outcome l) (tested l) (sym e ∙ ap number_refused q)

  pub call_passed : (x : A) → r ≡ Ok x → Passed l
  call_passed x q = (went_on_told x q).0

  pub judged-outcome : (x : A) → r ≡ Ok x → {o : Outcome} → o ≡ by_refusal l (refusal l.request) → o ≡ outcome l
  judged-outcome x q p = p ∙ (went_on_told x q).1

-- ---- the C entry

module _ (l : Lent) {r : Result Answered Silent} {t a c : List ℕ} (e : came_to r t a c ≡ outcome l) where
  pub refused-is : (refusal : Silent) → r ≡ Err refusal → {n : ℕ} → n ≡ number_of_silent refusal → Is (outcome l) (n * 4294967296) t a c
  refused-is refusal q k =
      let o : came_to (Err refusal) t a c ≡ outcome l = ap (λ (x : Result Answered Silent). came_to x t a c) (sym q) ∙ e in
      let number = ap (λ (x : Outcome). x.number) o in
      let size = ap (λ (x : Outcome). x.size) o in
      record { result = omega arith; table = ap (λ (x : Outcome). x.table) o; answer = ap (λ (x : Outcome). x.answer) o; cancel = ap (λ (x : Outcome). x.cancel) o }

  pub answered-is : (x : Answered) → r ≡ Ok x → Is (outcome l) x.length t a c
  answered-is x q =
      let o : came_to (Ok x) t a c ≡ outcome l = ap (λ (y : Result Answered Silent). came_to y t a c) (sym q) ∙ e in
      let number = ap (λ (y : Outcome). y.number) o in
      let size = ap (λ (y : Outcome). y.size) o in
      record { result = omega arith; table = ap (λ (y : Outcome). y.table) o; answer = ap (λ (y : Outcome). y.answer) o; cancel = ap (λ (y : Outcome). y.cancel) o }
