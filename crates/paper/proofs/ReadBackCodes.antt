-- Result-Code and Experimental-Result-Code, read from an answer's bytes, are what the request was told.
-- Assumes nothing.
use mathlib.Core.Path.{◌≡◌, refl, ◌∙◌}
use mathlib.Core.Bool.{Bool, true, false}
use mathlib.Core.Option.{Option}
use mathlib.Core.List.{List, [], ◌∷◌}
use Prim.Native.Nat.{ℕ, ◌^◌, ◌<◌}
use native.Mathlib.Omega.{arith}
use lib.Dec.{ltb}
use borrow.Author.Tests.{ltb-true}
use Rattle.wire.specs.Number.{num_at}
use Rattle.paper.specs.Reader.{Placed}
use Rattle.paper.specs.Find.{body_found}
use Rattle.paper.specs.Profile.{base, result_code, experimental_result, experimental_result_code}
use Rattle.paper.specs.Request.{avps_of, value_of, number_of, find, inside}
use Rattle.paper.specs.Outcome.{Lent, outcome}
use Rattle.paper.specs.Read.{codes_in}
use Rattle.paper.specs.Refusals.{Said, number, result, experimental, said, refusals}
use Rattle.paper.specs.ReadBack.{ReadAs, ◌and_then◌, tells, result_part, holds, codes_told}
use Rattle.paper.proofs.ViewLaws.{or_else-right}
use Rattle.paper.proofs.PromiseRefusals.{all_say, outcome-says}
use Rattle.paper.proofs.ReadBackFind.{found_in, Agrees, read-find, number_read, none_read, none_inside, inside-read, surrounds, held_found, lacks-success}

-- ---- the codes

-- a code has 4 bytes
unfoldable pub proper : Said → Bool
proper (number n) = true
proper (result code) = ltb code 65536
proper (experimental code) = ltb code 65536

pub told_proper : (l : Lent) → proper (said (outcome l)) ≡ true
unfolding all_say proper refusals
told_proper = outcome-says proper refl

four_bytes : (code : ℕ) → ltb code 65536 ≡ true → code < 256 ^ 4
four_bytes code e = let h = ltb-true code 65536 e in omega arith

-- a result is found before the AVPs of a success
result-found : (code : ℕ) (m host realm r : List ℕ) (s : Said) → surrounds (base code) ≡ false → found_in (base code) (holds m host realm r s) ≡ found_in (base code) (result_part s)
result-found code m host realm r s e = held_found (base code) m host realm r s e ∙ rw (lacks-success code (tells 2001 s) m r) (or_else-right (found_in (base code) (result_part s)))

module _ (m host realm r a : List ℕ) where
  pub codes-read : (s : Said) → proper s ≡ true → ReadAs (avps_of a) (holds m host realm r s) → codes_in a ≡ codes_told s
  unfolding codes_in codes_told number_of value_of proper result_part found_in ◌and_then◌ surrounds
  codes-read s e t = go s e (rw (result-found 268 m host realm r s refl) at (read-find result_code t)) (rw (result-found 297 m host realm r s refl) at (read-find experimental_result t))
    where
      base : Option Placed
      base = find result_code (avps_of a)

      other : Option Placed
      other = find experimental_result (avps_of a)

      go : (s : Said) → proper s ≡ true → Agrees base (found_in result_code (result_part s)) → Agrees other (found_in experimental_result (result_part s))
          → num_at 4 (body_found base) 0 ∷ num_at 4 (body_found (find experimental_result_code (inside other))) 0 ∷ [] ≡ codes_told s
      go (number n) e p q = rw (none_read base p, none_inside experimental_result_code other q)
      go (result code) e p q = rw (number_read result_code code base (four_bytes code e) p, none_inside experimental_result_code other q)
      go (experimental code) e p q =
          let inner = read-find experimental_result_code (inside-read experimental_result _ other q) in
          rw (none_read base p, number_read experimental_result_code code (find experimental_result_code (inside other)) (four_bytes code e) inner)
