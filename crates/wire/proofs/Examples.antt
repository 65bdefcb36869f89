-- Worked examples: the definitions computed on small values.
-- Assumes nothing.
use mathlib.Core.Path.{◌≡◌, refl}
use mathlib.Core.Bool.{true, false}
use mathlib.Core.List.{[], ◌∷◌}
use Rattle.wire.specs.Number.{be, num, num_at}
use Rattle.wire.specs.Put.{part, put}
use Rattle.wire.specs.Stretch.{same, all_in, between, name_bytes, digits, zeros}

be-one : be 4 1 ≡ 0 ∷ 0 ∷ 0 ∷ 1 ∷ []
be-one = refl

be-vendor : be 4 10415 ≡ 0 ∷ 0 ∷ 40 ∷ 175 ∷ []
be-vendor = refl

-- a number that is too wide loses its high digits
be_too_wide : be 1 258 ≡ 2 ∷ []
be_too_wide = refl

num-vendor : num (0 ∷ 0 ∷ 40 ∷ 175 ∷ []) ≡ 10415
num-vendor = refl

num_at-inside : num_at 2 (9 ∷ 1 ∷ 2 ∷ 9 ∷ []) 1 ≡ 258
unfolding num_at
num_at-inside = refl

-- two of the four bytes are past the end
num_at_past_end : num_at 4 (9 ∷ 1 ∷ 2 ∷ []) 1 ≡ 16908288
unfolding num_at
num_at_past_end = refl

part_two : part 1 2 (7 ∷ 8 ∷ 9 ∷ 10 ∷ []) ≡ 8 ∷ 9 ∷ []
part_two = refl

put_two : put 1 (5 ∷ 6 ∷ []) (1 ∷ 2 ∷ 3 ∷ 4 ∷ []) ≡ 1 ∷ 5 ∷ 6 ∷ 4 ∷ []
unfolding put
put_two = refl

same_shorter : same (1 ∷ 2 ∷ []) (1 ∷ 2 ∷ 3 ∷ []) ≡ false
unfolding same
same_shorter = refl

-- `!` and `~` are the first and the last name byte, the space and DEL are none
name-ends : name_bytes (0x21 ∷ 0x7E ∷ []) ≡ true
unfolding all_in
name-ends = refl

name-space : name_bytes (0x20 ∷ []) ≡ false
unfolding all_in
name-space = refl

name_del : name_bytes (0x7F ∷ []) ≡ false
unfolding all_in
name_del = refl

digit_ends : digits (48 ∷ 57 ∷ []) ≡ true
unfolding all_in
digit_ends = refl

digit_not_slash : digits (47 ∷ []) ≡ false
unfolding all_in
digit_not_slash = refl

digit_not_colon : digits (58 ∷ []) ≡ false
unfolding all_in
digit_not_colon = refl

zeros-one : zeros (0 ∷ 1 ∷ []) ≡ false
unfolding all_in
zeros-one = refl

between_ends : between (33 ∷ 0 ∷ []) (126 ∷ 0 ∷ []) (126 ∷ 0 ∷ []) ≡ true
unfolding between
between_ends = refl

between_longer : between (0 ∷ []) (255 ∷ []) (1 ∷ 1 ∷ []) ≡ false
unfolding between
between_longer = refl
