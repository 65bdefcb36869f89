-- The desk on closed inputs: 01's worked example, line by line, the odd ends of an input, and a longer run.
-- Assumes nothing.
use mathlib.Core.Path.{◌≡◌, refl}
use mathlib.Core.List.{List, [], ◌∷◌, ◌++◌}
use Prim.Native.Nat.{ℕ}
use lib.ListN.{replicate}
use Rattle.paper.specs.Attach.{table_before, attach_request}
use Rattle.paper.specs.Desk.{desk_prints}
use Rattle.paper.proofs.Everything.{everything}

-- "Input `0000000E 01 01 00000008 01 00 0000`, then `00000009 01 02 010203`, then `00000009 01 03 010203`"
abbrev pub input : List ℕ
input =
    0 ∷ 0 ∷ 0 ∷ 14 ∷ 1 ∷ 1 ∷ 0 ∷ 0 ∷ 0 ∷ 8 ∷ 1 ∷ 0 ∷ 0 ∷ 0 ∷
    0 ∷ 0 ∷ 0 ∷ 9 ∷ 1 ∷ 2 ∷ 1 ∷ 2 ∷ 3 ∷
    0 ∷ 0 ∷ 0 ∷ 9 ∷ 1 ∷ 3 ∷ 1 ∷ 2 ∷ 3 ∷ []

-- "prints: 1 T 0 0 0; 2 R 1 0 0; 3 C 11 0 0"
abbrev pub output : List ℕ
output =
    49 ∷ 32 ∷ 84 ∷ 32 ∷ 48 ∷ 32 ∷ 48 ∷ 32 ∷ 48 ∷ 10 ∷
    50 ∷ 32 ∷ 82 ∷ 32 ∷ 49 ∷ 32 ∷ 48 ∷ 32 ∷ 48 ∷ 10 ∷
    51 ∷ 32 ∷ 67 ∷ 32 ∷ 49 ∷ 49 ∷ 32 ∷ 48 ∷ 32 ∷ 48 ∷ 10 ∷ []

pub desk_worked : desk_prints input ≡ output
unfolding everything
desk_worked = refl

-- "1 X 0 0 0"
abbrev pub ended : List ℕ
ended = 49 ∷ 32 ∷ 88 ∷ 32 ∷ 48 ∷ 32 ∷ 48 ∷ 32 ∷ 48 ∷ 10 ∷ []

pub desk_no_input : desk_prints [] ≡ []
unfolding everything
desk_no_input = refl

pub desk_stray : desk_prints (0 ∷ 0 ∷ 1 ∷ []) ≡ ended
unfolding everything
desk_stray = refl

pub desk_over : desk_prints (0 ∷ 1 ∷ 0 ∷ 1 ∷ replicate 9 1) ≡ ended
unfolding everything
desk_over = refl

-- an attach, before any table came; a table with the subscriber; bytes that are no table; and the attach again, answered from the table that was taken
abbrev pub morning : List ℕ
morning =
    (0 ∷ 0 ∷ 0 ∷ 206 ∷ 1 ∷ 2 ∷ []) ++ (attach_request ++ (
    (0 ∷ 0 ∷ 1 ∷ 14 ∷ 1 ∷ 1 ∷ []) ++ (table_before ++ (
    (0 ∷ 0 ∷ 0 ∷ 9 ∷ 1 ∷ 1 ∷ 1 ∷ 2 ∷ 3 ∷ []) ++ (
    (0 ∷ 0 ∷ 0 ∷ 206 ∷ 1 ∷ 2 ∷ []) ++ attach_request)))))

-- 1 R E5001 116 0; 2 T 0 0 0; 3 T 4 0 0; 4 R 2001 200 2
abbrev pub morning_printed : List ℕ
morning_printed =
    49 ∷ 32 ∷ 82 ∷ 32 ∷ 69 ∷ 53 ∷ 48 ∷ 48 ∷ 49 ∷ 32 ∷ 49 ∷ 49 ∷ 54 ∷ 32 ∷ 48 ∷ 10 ∷
    50 ∷ 32 ∷ 84 ∷ 32 ∷ 48 ∷ 32 ∷ 48 ∷ 32 ∷ 48 ∷ 10 ∷
    51 ∷ 32 ∷ 84 ∷ 32 ∷ 52 ∷ 32 ∷ 48 ∷ 32 ∷ 48 ∷ 10 ∷
    52 ∷ 32 ∷ 82 ∷ 32 ∷ 50 ∷ 48 ∷ 48 ∷ 49 ∷ 32 ∷ 50 ∷ 48 ∷ 48 ∷ 32 ∷ 50 ∷ 10 ∷ []

pub desk_morning : desk_prints morning ≡ morning_printed
unfolding everything table_before attach_request
desk_morning = refl
