use mathlib.Core.Path.{refl}
use Rattle.dictionary.specs.Rows.{key_of}
use Rattle.dictionary.proofs.Key.number.Goals as goal

pub returns-clause-value : goal.returns-clause-value
unfolding key_of
returns-clause-value c = refl
