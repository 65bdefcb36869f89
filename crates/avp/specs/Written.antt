-- The bytes that the writers put, in the paper's words, and what becomes of an AVP that is to be written at any place of any buffer.
-- Assumes nothing.
use Rattle.std.specs.Prelude.{◌≡◌, Bool, true, cond, ◌&&◌, List, ℕ, ◌+◌, ◌-◌, ◌≤◌, length, ltb, leb, Result, Ok, Err}
use Rattle.wire.specs.Put.{put, Wrote}
use Rattle.paper.specs.Avp.{head_size, as_received, flags_for, written}
use Rattle.paper.proofs.WrittenLaws.{head_bytes}
use Rattle.avp.specs.declared.write.NoRoom.{NoRoom}
use Rattle.avp.specs.declared.write.Writer.{Writer}

-- the header of a group with M that holds `n` bytes
abbrev pub group_head : ℕ → ℕ → ℕ → List ℕ
group_head vendor code n = head_bytes code (flags_for vendor true) vendor n

-- so many bytes
abbrev pub group_head_size : ℕ → ℕ
group_head_size vendor = head_size (flags_for vendor true)

-- an AVP as received, by its parts
abbrev pub received : ℕ → ℕ → ℕ → List ℕ → List ℕ
received code flags vendor body = as_received (record { code = code; flags = flags; vendor = vendor; body = body })

-- ---- one AVP behind another

-- there is room for `n` bytes at the writer's place
abbrev pub Room : Writer → ℕ → Type 0
Room w n = w.at + n ≤ length w.out.now

-- The writer `w` put `xs` at its place, which made it `w'`, behind them in the same buffer, of the same size; no other byte is touched.
pub record Appended (w : Writer) (xs : List ℕ) (w' : Writer) : Type 0 where
  pub same : w'.out.ghost_name ≡ w.out.ghost_name
  pub size : length w'.out.now ≡ length w.out.now
  pub inside : w'.at ≤ length w'.out.now
  pub wrote : Wrote w.out.now w.at xs w'.out.now w'.at

-- the writer `w` left `n` bytes of its buffer out, which made it `w'`
pub record Opened (w : Writer) (n : ℕ) (w' : Writer) : Type 0 where
  pub same : w'.out.ghost_name ≡ w.out.ghost_name
  pub kept : w'.out.now ≡ w.out.now
  pub size : length w'.out.now ≡ length w.out.now
  pub at : w'.at ≡ w.at + n

-- the writer `w` put the header of the group that starts at `start` and ends at its place, which made it `w'`, at that place still
pub record Closed (w : Writer) (vendor code start : ℕ) (w' : Writer) : Type 0 where
  pub same : w'.out.ghost_name ≡ w.out.ghost_name
  pub size : length w'.out.now ≡ length w.out.now
  pub at : w'.at ≡ w.at
  pub made : w'.out.now ≡ put start (group_head vendor code (w.at - start - group_head_size vendor)) w.out.now

-- ---- at any place of any buffer

-- the answer where nothing is written
abbrev pub not_written : Result ℕ NoRoom
not_written = Err (record {})

-- what was answered, and every byte of the buffer after it
pub record Came : Type 0 where
  pub answer : Result ℕ NoRoom
  pub out : List ℕ

abbrev pub came_to : Result ℕ NoRoom → List ℕ → Came
came_to r out = record { answer = r; out = out }

-- There is room for the AVP: its data has fewer than 16,777,200 bytes, so that its length has 24 bits, and it ends inside the buffer, with its padding.
unfoldable pub has_room : (out : List ℕ) (at vendor code : ℕ) (mandatory : Bool) (body : List ℕ) → Bool
has_room out at vendor code mandatory body = ltb (length body) 16777200 && leb (at + length (written vendor code mandatory body)) (length out)

-- where there is room its bytes are put there, and the answer is the place behind them; else the buffer stays as it came
unfoldable pub avp_written : (out : List ℕ) (at vendor code : ℕ) (mandatory : Bool) (body : List ℕ) → Came
avp_written out at vendor code mandatory body =
    cond (has_room out at vendor code mandatory body)
    (came_to (Ok (at + length (written vendor code mandatory body))) (put at (written vendor code mandatory body) out)) (came_to not_written out)
