-- 01's desk program, the last part of "Worked by hand": what a frame comes to (its line, the table after it, whether the run goes on), for any bytes that
-- were read of it, and what an input prints from its first byte to its last. Assumes nothing.
use Rattle.std.specs.Prelude.{Bool, true, false, cond, ◌&&◌, List, [], ◌∷◌, ◌++◌, ℕ, zero, suc, ◌+◌, ◌-◌, ◌/◌, ◌%◌, leb, ltb, eqb, length, take, drop, get_or, replicate}
use Rattle.std.proofs.Math.Option.{Option, none, some}
use Rattle.wire.specs.Number.{num_at}
use Rattle.paper.specs.declared.Line.{Line}
use Rattle.paper.specs.Layout.{least_answer, cancel_size}
use Rattle.paper.specs.Table.{valid}
use Rattle.paper.specs.Correction.{corrected}
use Rattle.paper.specs.Answer.{Verdict, base, experimental}
use Rattle.paper.specs.Outcome.{Lent, Outcome, outcome}

-- ---- numbers in decimal

-- the decimal digits of `n` in ASCII, `k` of them at most
unfoldable pub numeral : ℕ → ℕ → List ℕ
numeral zero n = []
numeral (suc k) n = cond (ltb n 10) ((48 + n) ∷ []) (numeral k (n / 10) ++ ((48 + n % 10) ∷ []))

-- all of them: a number has no more digits than itself and one
unfoldable pub decimal : ℕ → List ℕ
decimal n = numeral (suc n) n

-- ---- a line: "frame number, letter T, R or C, code (E before an Experimental one [..]), answer length, entries listed"

-- in ASCII
abbrev pub space : ℕ
space = 32

abbrev pub line_feed : ℕ
line_feed = 10

abbrev pub letter_c : ℕ
letter_c = 67

abbrev pub letter_e : ℕ
letter_e = 69

abbrev pub letter_r : ℕ
letter_r = 82

abbrev pub letter_t : ℕ
letter_t = 84

abbrev pub letter_x : ℕ
letter_x = 88

-- a number behind a space
unfoldable pub spaced : ℕ → List ℕ
spaced n = (space ∷ []) ++ decimal n

unfoldable pub code_bytes : Bool → ℕ → List ℕ
code_bytes true code = (space ∷ []) ++ ((letter_e ∷ []) ++ decimal code)
code_bytes false code = spaced code

-- "every line ends with one line feed"
unfoldable pub line_bytes : ℕ → Line → List ℕ
line_bytes n l =
    decimal n ++ ((space ∷ []) ++ ((l.letter ∷ []) ++ (code_bytes l.experimental l.code ++ (spaced l.size ++ (spaced l.listed ++ (line_feed ∷ []))))))

-- a line of a frame that is not answered
abbrev pub plain : ℕ → ℕ → Line
plain letter code = record { letter = letter; experimental = false; code = code; size = 0; listed = 0 }

-- ---- a frame: "whole length (4), version 1, kind (1 table, 2 request, 3 correction), data"

abbrev pub desk_head : ℕ
desk_head = 6

abbrev pub most_frame : ℕ
most_frame = 65536

-- "under 6", "over 65,536 bytes"
unfoldable pub size_right : ℕ → Bool
size_right n = leb desk_head n && leb n most_frame

-- "A frame cut short, over 65,536 bytes, under 6, or of another version" is not right; `f` is what was read of it
unfoldable pub frame_right : List ℕ → Bool
frame_right f = size_right (num_at 4 f 0) && (eqb (length f) (num_at 4 f 0) && eqb (get_or f 4 0) 1)

-- ---- what a frame comes to

pub record Turn : Type 0 where
  pub line : Line
  pub table : List ℕ
  pub goes_on : Bool

-- "A table not valid prints code 4 and keeps the old."
unfoldable pub table_turn : List ℕ → List ℕ → Turn
table_turn t d =
    cond (valid d) (record { line = plain letter_t 0; table = d; goes_on = true }) (record { line = plain letter_t 4; table = t; goes_on = true })

-- "own host `hss.example`, realm `example`"
abbrev pub own_realm : List ℕ
own_realm = 101 ∷ 120 ∷ 97 ∷ 109 ∷ 112 ∷ 108 ∷ 101 ∷ []

abbrev pub own_host : List ℕ
own_host = 104 ∷ 115 ∷ 115 ∷ 46 ∷ own_realm

-- what is lent for a request at the desk: buffers as short as may be, of zeros
abbrev pub desk_lent : List ℕ → List ℕ → Lent
desk_lent t d =
    record { table = t; request = d; host = own_host; realm = own_realm; answer = replicate least_answer 0; cancel = replicate cancel_size 0 }

-- the number of a refusal without an answer, else the code of the answer
unfoldable pub answer_line : ℕ → Option Verdict → ℕ → ℕ → Line
answer_line number none size listed = record { letter = letter_r; experimental = false; code = number; size = size; listed = listed }
answer_line number (some (base code)) size listed = record { letter = letter_r; experimental = false; code = code; size = size; listed = listed }
answer_line number (some (experimental code)) size listed = record { letter = letter_r; experimental = true; code = code; size = size; listed = listed }

unfoldable pub answer_turn : Outcome → Turn
answer_turn o = record { line = answer_line o.number o.verdict o.size o.listed; table = o.table; goes_on = true }

unfoldable pub request_turn : List ℕ → List ℕ → Turn
request_turn t d = answer_turn (outcome (desk_lent t d))

unfoldable pub correction_turn : List ℕ → List ℕ → Turn
correction_turn t d = record { line = plain letter_c (corrected t d).number; table = (corrected t d).table; goes_on = true }

-- "prints `n X 0 0 0`, n its number, and ends the run"
unfoldable pub last_turn : List ℕ → Turn
last_turn t = record { line = plain letter_x 0; table = t; goes_on = false }

unfoldable pub by_frame_kind : ℕ → List ℕ → List ℕ → Turn
by_frame_kind kind t d =
    cond (eqb kind 1) (table_turn t d) (cond (eqb kind 2) (request_turn t d) (cond (eqb kind 3) (correction_turn t d) (last_turn t)))

-- what the bytes that were read of a frame come to over the table
unfoldable pub turn : List ℕ → List ℕ → Turn
turn t f = cond (frame_right f) (by_frame_kind (get_or f 5 0) t (drop desk_head f)) (last_turn t)

-- ---- a run

-- how many bytes of a frame stand behind these four, 0 where they say no right size or are fewer
unfoldable pub rest_size : List ℕ → ℕ
rest_size h = cond (ltb (length h) 4) 0 (cond (size_right (num_at 4 h 0)) (num_at 4 h 0 - 4) 0)

-- what is read of the frame at the start of the input: four bytes and those behind them, fewer where the input ends
unfoldable pub frame_at : List ℕ → List ℕ
frame_at s = take (4 + rest_size (take 4 s)) s

-- "at first the empty table"
abbrev pub empty_table : List ℕ
empty_table = 0 ∷ 0 ∷ 0 ∷ 8 ∷ 1 ∷ 0 ∷ 0 ∷ 0 ∷ []

-- the line of a turn, and the lines behind it, which go by the table that it left
unfoldable pub lines : (List ℕ → List ℕ) → ℕ → Turn → List ℕ
lines rest n u = line_bytes n u.line ++ cond u.goes_on (rest u.table) []

-- "Input that ends where a frame would start ends the run without a line."
unfoldable pub printed : ℕ → List ℕ → ℕ → List ℕ → List ℕ
printed zero t n s = []
printed (suc k) t n [] = []
printed (suc k) t n (x ∷ s) =
    lines (λ u. printed k u (suc n) (drop (length (frame_at (x ∷ s))) (x ∷ s))) n (turn t (frame_at (x ∷ s)))

-- what the program prints of an input; a frame takes a byte of it at least
unfoldable pub desk_prints : List ℕ → List ℕ
desk_prints s = printed (length s) empty_table 1 s
