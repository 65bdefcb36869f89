-- What each case of Kind stands for: a number of its own, and what document 01 ("The reader") says of the data of such an AVP.
use Rattle.std.specs.Prelude.{Bool, true, cond, ℕ, eqb}
use Rattle.dictionary.specs.declared.Kind.{Kind}
use Rattle.dictionary.specs.declared.Kind.TheVariants.{Four, Eight, Any, Group, Closed, Unknown}

-- the number of a kind: its data's size where that is fixed
abbrev pub number_of : Kind → ℕ
number_of Four = 4
number_of Eight = 8
number_of Any = 0
number_of Group = 1
number_of Closed = 2
number_of Unknown = 255

-- the kind with this number
unfoldable pub kind_numbered : ℕ → Kind
kind_numbered n =
    cond (eqb n 4) Four (cond (eqb n 0) Any (cond (eqb n 1) Group (cond (eqb n 8) Eight (cond (eqb n 2) Closed Unknown))))

-- "Unsigned32, Integer32, Enumerated and Time carry 4 bytes; 64-bit types 8; others any number"
abbrev pub size_right : Kind → ℕ → Bool
size_right Four n = eqb n 4
size_right Eight n = eqb n 8
size_right Any n = true
size_right Group n = true
size_right Closed n = true
size_right Unknown n = true
