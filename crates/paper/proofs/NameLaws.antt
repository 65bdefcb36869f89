-- `same_name` is an equivalence. What else is proved of names goes by these laws.
-- Assumes nothing.
use mathlib.Core.Path.{◌≡◌, sym, ◌∙◌}
use mathlib.Core.Bool.{true}
use mathlib.Core.List.{List}
use Prim.Native.Nat.{ℕ}
use Rattle.wire.proofs.StretchLaws.{same_true, same_refl, same-equal}
use Rattle.paper.specs.Procedures.{same_name}

pub same_name_refl : (a : List ℕ) → same_name a a ≡ true
unfolding same_name
same_name_refl a = same_refl a

pub same_name_sym : (a b : List ℕ) → same_name a b ≡ true → same_name b a ≡ true
unfolding same_name
same_name_sym a b e = same-equal b a (sym (same_true a b e))

pub same_name_trans : (a b c : List ℕ) → same_name a b ≡ true → same_name b c ≡ true → same_name a c ≡ true
unfolding same_name
same_name_trans a b c e f = same-equal a c (same_true a b e ∙ same_true b c f)
