-- `put_line` meets its contract: the parts of a line one after another.
-- Assumes nothing.
use Rattle.std.proofs.Common.{ℕ, ◌+◌, ◌≤◌, length, arith, rules}
use Rattle.wire.specs.Put.{Wrote}
use Rattle.wire.proofs.PutLaws.{wrote_then}
use Rattle.paper.specs.Desk.{decimal, code_bytes, spaced, line_bytes}
use Rattle.paper.specs.declared.Line.{Line}
use Rattle.dymosaw.specs.Desk.{line_room}
use Rattle.dymosaw.proofs.DecimalLaws.{line-length, line-fits}
use Rattle.dymosaw.proofs.line.put_line.Goals as goal

-- the room that the parts of a line take, where the line fits
room : (number : ℕ) (x : Line) (n : ℕ) → length (line_bytes number x) ≤ line_room → line_room ≤ n
    → length (decimal number) + (2 + (length (code_bytes x.experimental x.code) + (length (spaced x.size) + (length (spaced x.listed) + 1)))) ≤ n
room number x n fits p = let l = line-length number x in omega arith

pub put_decimal-space-requires : goal.put_decimal-space-requires
put_decimal-space-requires c = omega (arith, room c.args.number c.args.line _ (line-fits c.args.number c.args.line c.ranges.number.fits (search rules) (search rules) (search rules)) c.requires)

pub put_bytes-code_at-requires : goal.put_bytes-code_at-requires
put_bytes-code_at-requires c = omega (arith, room c.args.number c.args.line _ (line-fits c.args.number c.args.line c.ranges.number.fits (search rules) (search rules) (search rules)) c.requires, c.put_decimal-space.ensures.next)

pub put_code-size_at-requires : goal.put_code-size_at-requires
put_code-size_at-requires c = omega (arith, room c.args.number c.args.line _ (line-fits c.args.number c.args.line c.ranges.number.fits (search rules) (search rules) (search rules)) c.requires, c.put_decimal-space.ensures.next, c.put_bytes-code_at.ensures.next)

pub put_spaced-listed_at-requires : goal.put_spaced-listed_at-requires
put_spaced-listed_at-requires c = omega (arith, room c.args.number c.args.line _ (line-fits c.args.number c.args.line c.ranges.number.fits (search rules) (search rules) (search rules)) c.requires, c.put_decimal-space.ensures.next, c.put_bytes-code_at.ensures.next, c.put_code-size_at.ensures.next)

pub put_spaced-end-requires : goal.put_spaced-end-requires
put_spaced-end-requires c = omega (arith, room c.args.number c.args.line _ (line-fits c.args.number c.args.line c.ranges.number.fits (search rules) (search rules) (search rules)) c.requires, c.put_decimal-space.ensures.next, c.put_bytes-code_at.ensures.next, c.put_code-size_at.ensures.next, c.put_spaced-listed_at.ensures.next)

pub put_bytes-requires : goal.put_bytes-requires
put_bytes-requires c = omega (arith, room c.args.number c.args.line _ (line-fits c.args.number c.args.line c.ranges.number.fits (search rules) (search rules) (search rules)) c.requires, c.put_decimal-space.ensures.next, c.put_bytes-code_at.ensures.next, c.put_code-size_at.ensures.next, c.put_spaced-listed_at.ensures.next, c.put_spaced-end.ensures.next)

pub returns : goal.returns
unfolding line_bytes
returns c =
    let fits = line-fits c.args.number c.args.line c.ranges.number.fits (search rules) (search rules) (search rules) in
    let k = room c.args.number c.args.line _ fits c.requires in
    let w : Wrote c.args.out.now 0 (line_bytes c.args.number c.args.line) c.put_bytes.new.out c.put_bytes.result =
    wrote_then (omega arith) c.put_decimal-space.ensures
    (wrote_then (omega arith) c.put_bytes-code_at.ensures
    (wrote_then (omega arith) c.put_code-size_at.ensures
    (wrote_then (omega arith) c.put_spaced-listed_at.ensures (wrote_then (omega arith) c.put_spaced-end.ensures c.put_bytes.ensures)))) in
    record { wrote = w; upper_bound = omega (arith, fits, w.next) }
