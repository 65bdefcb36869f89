-- The kinds of a correction by their numbers.
-- Assumes nothing.
use Rattle.std.specs.Prelude.{◌≡◌, ℕ, Result, MatchResult}
use Rattle.paper.specs.Correction.{value_size}
use Rattle.correction.specs.declared.kind.Kind.{Kind}
use Rattle.correction.specs.declared.kind.Kind.TheVariants.{Subscription, Restriction, Plmns, Ambr}
use Rattle.correction.specs.declared.refusal.Refusal.{Refusal}
use Rattle.correction.specs.declared.refusal.Refusal.TheVariants.{KindUnknown}

-- "Kinds: 1 byte 20; 2 bytes 24–27; 3 byte 28 and 32–55 (25 bytes); 4 bytes 196–203"
abbrev pub code_of : Kind → ℕ
code_of Subscription = 1
code_of Restriction = 2
code_of Plmns = 3
code_of Ambr = 4

-- the kind with this number, or the refusal of a number that no kind has
abbrev pub Decodes : ℕ → Result Kind Refusal → Type 0
Decodes code r = MatchResult r (λ kind. code_of kind ≡ code) (λ e. (e ≡ KindUnknown) × (value_size code ≡ 0))
