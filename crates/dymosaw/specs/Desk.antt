-- What the desk's functions are given and leave: a turn made in the desk's buffer, and a step with its line.
-- Assumes nothing.
use Rattle.std.specs.Prelude.{◌≡◌, ℕ, ◌+◌, ◌%◌, ◌^◌, ◌≤◌, Bool, false, cond, List, length, take, drop, Option, MatchOption}
use Rattle.std.specs.declared.ops.ControlFlow.TheVariants.{Continue, Break}
use Rattle.wire.specs.Put.{put}
use Rattle.paper.specs.declared.Line.{Line}
use Rattle.paper.specs.Layout.{most_records}
use Rattle.paper.specs.Table.{record_at}
use Rattle.paper.specs.Desk.{Turn, desk_head, line_bytes, table_turn, request_turn, correction_turn, last_turn, turn}
use Rattle.dymosaw.specs.declared.desk.Desk.{Desk}
use Rattle.dymosaw.specs.declared.desk.Kind.{Kind}
use Rattle.dymosaw.specs.declared.desk.Kind.TheVariants.{Table, Request, Correction}
use Rattle.dymosaw.specs.declared.desk.Turned.{Turned}
use Rattle.dymosaw.specs.declared.desk.Stepped.{Stepped}

-- the largest table
abbrev pub table_room : ℕ
table_room = record_at most_records

-- the longest line: three numbers of 20 digits, a code of 10 with E, the letter, four spaces and the line feed
abbrev pub line_room : ℕ
line_room = 77

-- a turn by its parts
abbrev pub turn_of : Line → List ℕ → Bool → Turn
turn_of line table goes_on = record { line = line; table = table; goes_on = goes_on }

-- what each kind of frame comes to
abbrev pub turn_for : Kind → List ℕ → List ℕ → Turn
turn_for Table t d = table_turn t d
turn_for Request t d = request_turn t d
turn_for Correction t d = correction_turn t d

-- the frame has this kind, or none and ends the run
abbrev pub Framed : List ℕ → Option Kind → Type 0
Framed f r =
    MatchOption r ((t : List ℕ) → last_turn t ≡ turn t f)
    (λ kind. (desk_head ≤ length f) × ((t : List ℕ) → turn_for kind t (drop desk_head f) ≡ turn t f))

-- the turn `u` was made in the buffer `b`, which it left as `b'`: its table stands at the start, later bytes stay; all stays where the run ends
pub record Made (u : Turn) (b b' : List ℕ) (r : Turned) : Type 0 where
  pub line : r.line ≡ u.line
  pub used : r.used ≡ cond u.goes_on (Continue (length u.table)) (Break (length u.table))
  pub buffer : b' ≡ put 0 u.table b
  pub ended : u.goes_on ≡ false → b' ≡ b

abbrev pub desk_at : ℕ → ℕ → Desk
desk_at used number = record { used = used; number = number }

-- where the run stands after the turn `u`, whether it goes on or ends: the bytes of its table, and the next frame's number
abbrev pub desk_after : Turn → Desk → Desk
desk_after u d = desk_at (length u.table) ((d.number + 1) % 2 ^ 64)

-- the turn `u` was made, and its line stands at the start of the line's buffer `l`, which was left as `l'`
pub record Told (u : Turn) (d : Desk) (b l b' l' : List ℕ) (r : Stepped) : Type 0 where
  pub next : r.next ≡ cond u.goes_on (Continue (desk_after u d)) (Break (desk_after u d))
  pub buffer : b' ≡ put 0 u.table b
  pub ended : u.goes_on ≡ false → b' ≡ b
  pub size : r.line ≡ length (line_bytes d.number u.line)
  pub line : l' ≡ put 0 (line_bytes d.number u.line) l

-- the bytes of the buffer that are the table, all of them where the desk says more
abbrev pub table_in : Desk → List ℕ → List ℕ
table_in d b = take d.used b
