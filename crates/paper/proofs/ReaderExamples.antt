-- 01's examples of the reader, by computation: each is a stretch of bytes and what is told of it.
-- Assumes nothing.
use mathlib.Core.Path.{◌≡◌, refl}
use mathlib.Core.Bool.{true, false, cond}
use mathlib.Core.List.{List, [], ◌∷◌, ◌++◌, map}
use Prim.Native.Nat.{ℕ, zero, suc, ◌+◌}
use lib.ListN.{length, take, replicate}
use lib.Dec.{eqb}
use Rattle.wire.specs.Number.{be, num_at}
use Rattle.dictionary.specs.declared.Kind.{Kind}
use Rattle.dictionary.specs.declared.Kind.TheVariants.{Four, Eight, Any, Group, Closed, Unknown}
use Rattle.paper.specs.declared.Visit.{Visit}
use Rattle.paper.specs.declared.Visit.TheVariants.{Clean, Fault, Unsupported}
use Rattle.paper.specs.Avp.{head_size, padded, vendor_of, framed, body_of, after, avp_of, bare_of, as_received, vendor_field, written, flags_for}
use Rattle.paper.specs.Reader.{read_up_to, avps, placed, stump, beside, ◌then◌, nothing, faulty, unknown, single, sized, group, each, by_kind, most_groups, view_avp, view, told, tell}

-- a dictionary of five rows, of vendor 0
of_code : ℕ → Kind
of_code c = cond (eqb c 1) Four (cond (eqb c 2) Any (cond (eqb c 3) Group (cond (eqb c 4) Closed (cond (eqb c 5) Eight Unknown))))

toy : ℕ → ℕ → Kind
toy v c = cond (eqb v 0) (of_code c) Unknown

-- a command that sees all data
all : ℕ → ℕ → List ℕ → List ℕ
all v c x = x

-- what is told of a stretch behind a message's header
shown : List ℕ → Visit
unfolding told tell view avps read_up_to view_avp each by_kind sized single group unknown faulty nothing beside ◌then◌ of_code toy all written as_received flags_for head_size padded vendor_field vendor_of framed body_of after avp_of bare_of placed stump num_at
shown s = told (view toy all most_groups 20 s)

-- ---- lengths

-- P "an AVP of length 23 takes 24 bytes"
takes_24 : length (written 0 2 true (replicate 15 7)) ≡ 24
unfolding shown
takes_24 = refl

-- twelve bytes that begin with an AVP's code, flags and length
headed : (flags size : ℕ) → List ℕ
unfolding shown
headed flags size = be 4 2 ++ (flags ∷ (be 3 size ++ be 4 0))

-- "at least 8"
length_7 : shown (take 8 (headed 0 7)) ≡ Fault 5014 20 28
unfolding headed
length_7 = refl

length_8 : shown (take 8 (headed 0 8)) ≡ Clean
unfolding headed
length_8 = refl

length_11 : shown (headed 0 11) ≡ Clean
unfolding headed
length_11 = refl

length_12 : shown (headed 0 12) ≡ Clean
unfolding headed
length_12 = refl

-- "12 with V"
length_7_with_V : shown (headed 128 7) ≡ Fault 5014 20 32
unfolding headed
length_7_with_V = refl

length_8_with_V : shown (headed 128 8) ≡ Fault 5014 20 32
unfolding headed
length_8_with_V = refl

length_11_with_V : shown (headed 128 11) ≡ Fault 5014 20 32
unfolding headed
length_11_with_V = refl

length_12_with_V : shown (headed 128 12) ≡ Clean
unfolding headed
length_12_with_V = refl

-- "with padding it lies inside what encloses it"
padding_outside : shown (take 11 (headed 0 11)) ≡ Fault 5014 20 31
unfolding headed
padding_outside = refl

-- header bytes past the end read as 0: V asks for 12 where 9 are left
too_short_for_V : shown (take 9 (headed 128 8)) ≡ Fault 5014 20 29
unfolding headed
too_short_for_V = refl

-- ---- "A group's data is filled exactly."

in_group : List ℕ → List ℕ
unfolding headed
in_group s = written 0 3 true s

-- a group whose data is a header cut after `n` bytes: the stump is at fault, not the group
cut_after : ℕ → Visit
unfolding in_group
cut_after n = shown (in_group (take n (headed 128 12)))

one_to_eleven : List ℕ
one_to_eleven = 1 ∷ 2 ∷ 3 ∷ 4 ∷ 5 ∷ 6 ∷ 7 ∷ 8 ∷ 9 ∷ 10 ∷ 11 ∷ []

cut_headers : map cut_after one_to_eleven ≡ map (λ n. Fault 5014 28 (28 + n)) one_to_eleven
unfolding cut_after one_to_eleven
cut_headers = refl

not_cut : cut_after 12 ≡ Clean
unfolding cut_after
not_cut = refl

-- ---- "an entered group, its length right, inside eight others"

nested : ℕ → List ℕ → List ℕ
nested zero s = s
nested (suc n) s = in_group (nested n s)

eight_nested : shown (nested 8 []) ≡ Clean
unfolding nested in_group
eight_nested = refl

nine_nested : shown (nested 9 []) ≡ Fault 5004 84 92
unfolding nested in_group
nine_nested = refl

-- the ninth is at fault before what it holds is looked at
nine_nested_full : shown (nested 9 (1 ∷ [])) ≡ Fault 5004 84 96
unfolding nested in_group
nine_nested_full = refl

-- what is not entered does not count
closed_in_eight : shown (nested 8 (written 0 4 true (nested 2 []))) ≡ Clean
unfolding nested in_group
closed_in_eight = refl

-- its length is looked at first
nine_nested_outside : shown (nested 8 (take 8 (be 4 3 ++ (0 ∷ be 3 12)))) ≡ Fault 5014 84 92
unfolding nested in_group
nine_nested_outside = refl

-- ---- unknown AVPs

unknown_M_in_group : shown (in_group (written 0 9 true [])) ≡ Unsupported 28 36
unfolding in_group
unknown_M_in_group = refl

unknown_without_M : shown (in_group (written 0 9 false [])) ≡ Clean
unfolding in_group
unknown_without_M = refl

-- the key is vendor and code
other-vendor : shown (written 10415 1 true (be 4 7)) ≡ Unsupported 20 36
unfolding shown
other-vendor = refl

-- V with vendor 0 is a key of vendor 0
vendor_0_with_V : shown (as_received (record { code = 1; flags = 192; vendor = 0; body = be 4 7 })) ≡ Clean
unfolding shown
vendor_0_with_V = refl

-- "Unknown AVPs are not entered", and so are groups that are closed
unknown-not_entered : shown (written 0 9 false (1 ∷ [])) ≡ Clean
unfolding shown
unknown-not_entered = refl

closed_not_entered : shown (written 0 4 true (1 ∷ [])) ≡ Clean
unfolding shown
closed_not_entered = refl

group_entered : shown (written 0 3 true (1 ∷ [])) ≡ Fault 5014 28 29
unfolding shown
group_entered = refl

-- ---- which comes first

fault-after-unsupported : shown (written 0 9 true [] ++ written 0 1 true []) ≡ Fault 5014 28 36
unfolding shown
fault-after-unsupported = refl

first-unsupported : shown (in_group (written 0 8 true []) ++ written 0 9 true []) ≡ Unsupported 28 36
unfolding in_group
first-unsupported = refl

first_fault : shown (in_group (written 0 1 true []) ++ (1 ∷ [])) ≡ Fault 5014 28 36
unfolding in_group
first_fault = refl

-- ---- "wrong length or data size"

size_4 : shown (written 0 1 true (be 4 7)) ≡ Clean
unfolding shown
size_4 = refl

size_3_for_4 : shown (written 0 1 true (be 3 7)) ≡ Fault 5014 20 32
unfolding shown
size_3_for_4 = refl

size_8_for_4 : shown (written 0 1 true (be 8 7)) ≡ Fault 5014 20 36
unfolding shown
size_8_for_4 = refl

size_8 : shown (written 0 5 true (be 8 7)) ≡ Clean
unfolding shown
size_8 = refl

size_4_for_8 : shown (written 0 5 true (be 4 7)) ≡ Fault 5014 20 32
unfolding shown
size_4_for_8 = refl
