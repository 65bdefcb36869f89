-- Promise: a frame comes to what 01 says of it, and its line is the bytes that 01 says.
-- Assumes nothing.
use mathlib.Core.Path.{◌≡◌, refl, sym, ap, ◌∙◌}
use mathlib.Core.Logic.{◌⊎◌, inl, inr}
use mathlib.Core.Bool.{Bool, true, false, cond, ◌&&◌, ◌||◌, false≢true}
use mathlib.Core.Option.{Option, none, some}
use mathlib.Core.List.{List, [], ◌∷◌, ◌++◌}
use Prim.Native.Nat.{ℕ, zero, suc, ◌+◌, ◌-◌, ◌*◌, ◌/◌, ◌%◌, ◌<◌}
use native.Mathlib.Omega.{arith}
use lib.Dec.{leb, ltb, eqb}
use lib.ListN.{length, drop, get_or}
use borrow.Author.Tests.{le-leb, ltb-true, ltb-false}
use Rattle.std.proofs.lemmas.Bool.{and_from}
use Rattle.wire.specs.Number.{num_at}
use Rattle.wire.specs.Stretch.{all_in}
use Rattle.wire.proofs.StretchLaws.{all_in-append}
use Rattle.paper.specs.declared.Line.{Line}
use Rattle.paper.specs.Answer as Answer
use Rattle.paper.specs.Answer.{Verdict, base}
use Rattle.paper.specs.Outcome.{outcome}
use Rattle.paper.specs.Refusals.{said_by, said}
use Rattle.paper.specs.Desk.{Turn, numeral, decimal, spaced, code_bytes, line_bytes, size_right, frame_right, table_turn, answer_line, answer_turn, request_turn, correction_turn, last_turn, by_frame_kind, turn}
use Rattle.paper.specs.DeskSaid.{is_frame, asked_at_desk, request_says, TurnSaid, read_on, InDecimal, LineSaid}

-- ---- a frame

-- the tests of a frame, joined as they are said and as the definition joins them: long enough, not too long, whole, of version 1, of a kind
joined_right : (a b c d k : Bool) → (a && (b && c)) && (d && k) ≡ true → (a && b) && (c && d) ≡ true
joined_right true true true true k e = refl
joined_right true true true false k e = e
joined_right true true false d k e = e
joined_right true false c d k e = e
joined_right false b c d k e = e

-- where one of them fails, a choice by them is the last one
joined_wrong : (a b c d x y z : Bool) (p q r s : Turn) → (a && (b && c)) && (d && (x || (y || z))) ≡ false
    → cond ((a && b) && (c && d)) (cond x p (cond y q (cond z r s))) s ≡ s
joined_wrong false b c d x y z p q r s e = refl
joined_wrong true false c d x y z p q r s e = refl
joined_wrong true true false d x y z p q r s e = refl
joined_wrong true true true false x y z p q r s e = refl
joined_wrong true true true true false false false p q r s e = refl
joined_wrong true true true true false false true p q r s e = absurd (false≢true (sym e))
joined_wrong true true true true false true z p q r s e = absurd (false≢true (sym e))
joined_wrong true true true true true y z p q r s e = absurd (false≢true (sym e))

line_of_answer : (n : ℕ) (v : Option Verdict) (size listed : ℕ) → answer_line n v size listed ≡ request_says (said_by n v) size listed
unfolding answer_line said_by request_says
line_of_answer n none size listed = refl
line_of_answer n (some (base code)) size listed = refl
line_of_answer n (some (Answer.experimental code)) size listed = refl

module _ (t f : List ℕ) where
  -- a frame goes by its kind
  by_kind : is_frame f ≡ true → (k : ℕ) → get_or f 5 0 ≡ k → turn t f ≡ by_frame_kind k t (drop 6 f)
  unfolding is_frame turn frame_right size_right
  by_kind e k q =
      let n = num_at 4 f 0 in
      rw (joined_right (leb 6 n) (leb n 65536) (eqb (length f) n) (eqb (get_or f 4 0) 1) _ e, q)

  no_frame : is_frame f ≡ false → turn t f ≡ last_turn t
  unfolding is_frame turn frame_right size_right by_frame_kind
  no_frame e =
      let n = num_at 4 f 0 in
      let k = get_or f 5 0 in
      let d = drop 6 f in
      joined_wrong (leb 6 n) (leb n 65536) (eqb (length f) n) (eqb (get_or f 4 0) 1) (eqb k 1) (eqb k 2) (eqb k 3) (table_turn t d) (request_turn t d) (correction_turn t d) (last_turn t) e

pub turn-said : (t f : List ℕ) → TurnSaid t f (turn t f)
unfolding by_frame_kind table_turn request_turn answer_turn correction_turn last_turn asked_at_desk said
turn-said t f =
    record {
      no_frame = no_frame t f;
      table_taken = λ e q v. by_kind t f e 1 q ∙ rw v;
      table_kept = λ e q v. by_kind t f e 1 q ∙ rw v;
      request = λ e q. let o = outcome (asked_at_desk t (drop 6 f)) in by_kind t f e 2 q ∙ rw (line_of_answer o.number o.verdict o.size o.listed);
      correction = λ e q. by_kind t f e 3 q;
    }

-- ---- a number in decimal

makes-more : (n : ℕ) (xs : List ℕ) (d : ℕ) → read_on n (xs ++ (d ∷ [])) ≡ 10 * read_on n xs + (d - 48)
unfolding read_on
makes-more n [] d = refl
makes-more n (x ∷ xs) d = makes-more (10 * n + (x - 48)) xs d

-- a number that is not 0 does not begin with 0
first_digit : (n : ℕ) (d : List ℕ) → 0 < n → InDecimal n d → 48 < get_or d 0 0
unfolding read_on
first_digit n [] h s = let m = s.makes in absurd (omega arith)
first_digit n (x ∷ []) h s = let m = s.makes in omega arith
first_digit n (x ∷ y ∷ d) h s = go s.first
  where
    go : (length (x ∷ y ∷ d) ≡ 1) ⊎ (48 < x) → 48 < x
    go (inl e) = absurd (omega arith)
    go (inr k) = k

begins : (xs ys : List ℕ) → 48 < get_or xs 0 0 → 48 < get_or (xs ++ ys) 0 0
begins [] ys h = absurd (omega arith)
begins (x ∷ xs) ys h = h

one_digit : (n : ℕ) → n < 10 → InDecimal n ((48 + n) ∷ [])
unfolding all_in read_on
one_digit n h = record { digits = rw (le-leb 48 (48 + n) (omega arith), le-leb (48 + n) 57 (omega arith)); makes = omega arith; first = inl refl }

more-digits : (n : ℕ) (d : List ℕ) → 0 < n / 10 → InDecimal (n / 10) d → InDecimal n (d ++ ((48 + n % 10) ∷ []))
unfolding all_in
more-digits n d h s =
    let last = one_digit (n % 10) (omega arith) in
    let m = s.makes in
    let whole = makes-more 0 d (48 + n % 10) in
    record {
      digits = all_in-append 48 57 d ((48 + n % 10) ∷ []) ∙ and_from (all_in 48 57 d) _ s.digits last.digits;
      makes = omega arith;
      first = inr (begins d _ (first_digit (n / 10) d h s));
    }

numeral-shown : (k n : ℕ) → n < k → InDecimal n (numeral k n)
unfolding numeral
numeral-shown zero n h = absurd (omega arith)
numeral-shown (suc k) n h = go (numeral-shown k (n / 10)) (ltb n 10) refl
  where
    go : (n / 10 < k → InDecimal (n / 10) (numeral k (n / 10))) → (b : Bool) → ltb n 10 ≡ b
        → InDecimal n (cond b ((48 + n) ∷ []) (numeral k (n / 10) ++ ((48 + n % 10) ∷ [])))
    go shorter true e = one_digit n (ltb-true n 10 e)
    go shorter false e = let big = ltb-false n 10 e in more-digits n (numeral k (n / 10)) (omega arith) (shorter (omega arith))

decimal-shown : (n : ℕ) → InDecimal n (decimal n)
unfolding decimal
decimal-shown n = numeral-shown (suc n) n (omega arith)

-- ---- a line

code-bytes : (e : Bool) (code : ℕ) (rest : List ℕ) → code_bytes e code ++ rest ≡ 32 ∷ (cond e (69 ∷ []) [] ++ (decimal code ++ rest))
unfolding code_bytes spaced
code-bytes true code rest = refl
code-bytes false code rest = refl

pub line-said : (n : ℕ) (l : Line) → LineSaid n l (line_bytes n l)
unfolding line_bytes spaced
line-said n l =
    record {
      number = decimal n;
      code = decimal l.code;
      size = decimal l.size;
      listed = decimal l.listed;
      bytes = ap (λ (x : List ℕ). decimal n ++ (32 ∷ l.letter ∷ x)) (code-bytes l.experimental l.code _);
      number_shown = decimal-shown n;
      code_shown = decimal-shown l.code;
      size_shown = decimal-shown l.size;
      listed_shown = decimal-shown l.listed;
    }
