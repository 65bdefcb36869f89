-- A number of a kind stands for one kind, and every other number for none.
use mathlib.Core.Path.{◌≡◌, refl, sym, ap, ◌∙◌}
use Prim.Native.Nat.{ℕ}
use borrow.Author.Tests.{ne_eqb}
use Rattle.dictionary.specs.declared.Kind.{Kind}
use Rattle.dictionary.specs.declared.Kind.TheVariants.{Four, Eight, Any, Group, Closed, Unknown}
use Rattle.dictionary.specs.Kinds.{number_of, kind_numbered}

pub kind_of_its_number : (k : Kind) → kind_numbered (number_of k) ≡ k
unfolding kind_numbered
kind_of_its_number Four = refl
kind_of_its_number Eight = refl
kind_of_its_number Any = refl
kind_of_its_number Group = refl
kind_of_its_number Closed = refl
kind_of_its_number Unknown = refl

pub numbered : (k : Kind) {n : ℕ} → n ≡ number_of k → k ≡ kind_numbered n
numbered k e = sym (kind_of_its_number k) ∙ ap kind_numbered (sym e)

pub no_kind_numbered : (n : ℕ) → (n ≡ 4 → ⊥) → (n ≡ 0 → ⊥) → (n ≡ 1 → ⊥) → (n ≡ 8 → ⊥) → (n ≡ 2 → ⊥) → kind_numbered n ≡ Unknown
unfolding kind_numbered
no_kind_numbered n four any group eight closed = rw (ne_eqb n 4 four, ne_eqb n 0 any, ne_eqb n 1 group, ne_eqb n 8 eight, ne_eqb n 2 closed)
