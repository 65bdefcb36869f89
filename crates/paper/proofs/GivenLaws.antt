-- What code is handed of a request as an Option: its flag word, and its IMEI.
-- Assumes nothing.
use mathlib.Core.Path.{◌≡◌, refl}
use mathlib.Core.Bool.{true, false, cond}
use mathlib.Core.List.{List, []}
use mathlib.Core.Option as Math
use mathlib.Core.Option.{none, some}
use Prim.Native.Nat.{ℕ}
use Rattle.std.specs.Prelude.{Option, Some, None, unwrap_or, IfSome}
use Rattle.wire.specs.Number.{num_at}
use Rattle.paper.specs.Find.{body_found}
use Rattle.paper.specs.Reader.{Placed}
use Rattle.paper.specs.Request.{command_code, avps_of, find, number_of, value_of, is_there, imei_of, imei_digits, refusal}
use Rattle.paper.specs.Asked.{flags_key, flags_in, imei_digits_of, imei_in}
use Rattle.paper.proofs.AcceptedLaws.{imei_digits_lem}

-- ---- the flag word: 0 where there is none

number-found : (o : Math.Option Placed) → unwrap_or (cond (is_there o) (Some (num_at 4 (body_found o) 0)) None) 0 ≡ num_at 4 (body_found o) 0
unfolding num_at
number-found none = refl
number-found (some p) = refl

pub flags-given : (m : List ℕ) → unwrap_or (flags_in m) 0 ≡ number_of (flags_key (command_code m)) m
unfolding flags_in number_of value_of
flags-given m = number-found (find (flags_key (command_code m)) (avps_of m))

-- ---- the IMEI: of an accepted request, digits

digits-found : (o : Math.Option Placed) → (is_there o ≡ true → imei_digits (body_found o) ≡ true) → IfSome (cond (is_there o) (Some (body_found o)) None) (λ x. imei_digits x ≡ true)
digits-found none h = tt
digits-found (some p) h = h refl

pub digits-given : (m : List ℕ) → refusal m ≡ none → IfSome (imei_in m) (λ x. imei_digits x ≡ true)
unfolding imei_in
digits-given m e = digits-found (imei_of m) (imei_digits_lem m e)
