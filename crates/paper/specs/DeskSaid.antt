-- Promise: what the desk does with a frame, and the bytes of its line: the last part of 01's "Worked by hand", with its numbers and bytes in their places.
-- Of Desk.antt it names the type `Turn` and no definition; that `turn` and `line_bytes` are as said is `turn-said` and `line-said`.
-- Assumes nothing.
use Rattle.std.specs.Prelude.{◌≡◌, ◌⊎◌, Bool, true, false, cond, ◌&&◌, ◌||◌, List, [], ◌∷◌, ◌++◌, ℕ, ◌+◌, ◌-◌, ◌*◌, ◌<◌, leb, eqb, length, drop, get_or, replicate}
use Rattle.wire.specs.Number.{num_at}
use Rattle.wire.specs.Stretch.{all_in}
use Rattle.paper.specs.declared.Line.{Line}
use Rattle.paper.specs.Table.{valid}
use Rattle.paper.specs.Correction.{corrected}
use Rattle.paper.specs.Outcome.{Lent, Outcome, outcome}
use Rattle.paper.specs.Refusals.{Said, number, result, experimental, said}
use Rattle.paper.specs.Desk.{Turn}

-- ---- a frame

-- "whole length (4), version 1, kind (1 table, 2 request, 3 correction), data", neither "cut short, over 65,536 bytes, under 6, or of another version or
-- kind"; `f` is what was read of it
unfoldable pub is_frame : List ℕ → Bool
is_frame f =
    (leb 6 (num_at 4 f 0) && (leb (num_at 4 f 0) 65536 && eqb (length f) (num_at 4 f 0))) && (eqb (get_or f 4 0) 1 && (eqb (get_or f 5 0) 1 || (eqb (get_or f 5 0) 2 || eqb (get_or f 5 0) 3)))

-- what a line says: "letter T, R or C, code (E before an Experimental one [..]), answer length, entries listed"
abbrev pub says : ℕ → Bool → ℕ → ℕ → ℕ → Line
says letter marked code size listed = record { letter = letter; experimental = marked; code = code; size = size; listed = listed }

-- "own host `hss.example`, realm `example`", and buffers of zeros, as long as a caller has to lend
unfoldable pub asked_at_desk : List ℕ → List ℕ → Lent
asked_at_desk t m =
    record {
      table = t;
      request = m;
      host = 104 ∷ 115 ∷ 115 ∷ 46 ∷ 101 ∷ 120 ∷ 97 ∷ 109 ∷ 112 ∷ 108 ∷ 101 ∷ [];
      realm = 101 ∷ 120 ∷ 97 ∷ 109 ∷ 112 ∷ 108 ∷ 101 ∷ [];
      answer = replicate 4352 0;
      cancel = replicate 136 0;
    }

-- R, with the number of a refusal without an answer, a Result-Code, or an Experimental-Result-Code
unfoldable pub request_says : Said → ℕ → ℕ → Line
request_says (number n) size listed = says 82 false n size listed
request_says (result code) size listed = says 82 false code size listed
request_says (experimental code) size listed = says 82 true code size listed

abbrev pub request_turns : Outcome → Turn
request_turns o = record { line = request_says (said o) o.size o.listed; table = o.table; goes_on = true }

-- the bytes `f` that were read of a frame, over the table `t`, come to the turn `u`
pub record TurnSaid (t f : List ℕ) (u : Turn) : Type 0 where
  -- "prints `n X 0 0 0`, n its number, and ends the run"
  pub no_frame : is_frame f ≡ false → u ≡ record { line = says 88 false 0 0 0; table = t; goes_on = false }
  -- T, "0 for a table taken"
  pub table_taken : is_frame f ≡ true → get_or f 5 0 ≡ 1 → valid (drop 6 f) ≡ true → u ≡ record { line = says 84 false 0 0 0; table = drop 6 f; goes_on = true }
  -- "A table not valid prints code 4 and keeps the old."
  pub table_kept : is_frame f ≡ true → get_or f 5 0 ≡ 1 → valid (drop 6 f) ≡ false → u ≡ record { line = says 84 false 4 0 0; table = t; goes_on = true }
  pub request : is_frame f ≡ true → get_or f 5 0 ≡ 2 → u ≡ request_turns (outcome (asked_at_desk t (drop 6 f)))
  -- C, with the number of the correction
  pub correction : is_frame f ≡ true → get_or f 5 0 ≡ 3
      → u ≡ record { line = says 67 false (corrected t (drop 6 f)).number 0 0; table = (corrected t (drop 6 f)).table; goes_on = true }

-- ---- a line

-- the number that the digits make, read one after another behind `n`
unfoldable pub read_on : ℕ → List ℕ → ℕ
read_on n [] = n
read_on n (d ∷ ds) = read_on (10 * n + (d - 48)) ds

-- `d` is the number `n` in decimal: digits of ASCII that make it, a single one or the first of them not 0
pub record InDecimal (n : ℕ) (d : List ℕ) : Type 0 where
  pub digits : all_in 48 57 d ≡ true
  pub makes : read_on 0 d ≡ n
  pub first : (length d ≡ 1) ⊎ (48 < get_or d 0 0)

-- "Each line: frame number, letter T, R or C, code (E before an Experimental one [..]), answer length, entries listed", spaces between them, E just before
-- its code, and a line feed at the end
pub record LineSaid (n : ℕ) (l : Line) (b : List ℕ) : Type 0 where
  pub number : List ℕ
  pub code : List ℕ
  pub size : List ℕ
  pub listed : List ℕ
  pub bytes : b ≡ number ++ (32 ∷ l.letter ∷ 32 ∷ (cond l.experimental (69 ∷ []) [] ++ (code ++ (32 ∷ (size ++ (32 ∷ (listed ++ (10 ∷ []))))))))
  pub number_shown : InDecimal n number
  pub code_shown : InDecimal l.code code
  pub size_shown : InDecimal l.size size
  pub listed_shown : InDecimal l.listed listed
