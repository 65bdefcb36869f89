-- The AVPs of the answer to an accepted request, found in its bytes: ULA-Flags and Subscription-Data, PUA-Flags.
-- Assumes nothing.
use mathlib.Core.Path.{◌≡◌, refl, ap, ◌∙◌}
use mathlib.Core.Bool.{true, false}
use mathlib.Core.Option.{Option, some}
use mathlib.Core.List.{List}
use Prim.Native.Nat.{ℕ}
use native.Mathlib.Omega.{arith}
use lib.Dec.{eqb}
use borrow.Author.Tests.{eqb-true}
use Rattle.paper.specs.Reader.{Placed}
use Rattle.paper.specs.Profile.{tgpp, ula_flags, pua_flags, ulr, pur}
use Rattle.paper.specs.Request.{command_code, avps_of, find, value_of, number_of}
use Rattle.paper.specs.Procedures.{carried_out, is_ulr, is_pur}
use Rattle.paper.specs.Outcome.{Lent}
use Rattle.paper.specs.Read.{before, answer_of}
use Rattle.paper.specs.Refusals.{result}
use Rattle.paper.specs.Promises.{Accepted, AnswersUlr}
use Rattle.paper.specs.ReadBack.{a_number, ◌and_then◌, subscription_part, success_part, holds}
use Rattle.paper.proofs.PromiseSuccess.{success, before-is}
use Rattle.paper.proofs.ReadBackFind.{found_in, Agrees, read-find, number_read, there-read, absent-read, surrounds, held_found, lacks-result}
use Rattle.paper.proofs.ReadBackParts.{purges_are}
use Rattle.paper.proofs.ReadBack.{accepted-holds}

-- a key of 3GPP is found among the AVPs of a success
success-found : (code : ℕ) (m host realm r : List ℕ) → found_in (tgpp code) (holds m host realm r (result 2001)) ≡ found_in (tgpp code) (success_part m r)
unfolding surrounds
success-found code m host realm r = held_found (tgpp code) m host realm r (result 2001) refl ∙ rw (lacks-result code (result 2001))

module _ (l : Lent) (a : Accepted l) where
  abbrev first : ℕ → Option Placed
  first code = find (tgpp code) (avps_of (answer_of l))

  found : (code : ℕ) → Agrees (first code) (found_in (tgpp code) (success_part l.request (before l)))
  found code = rw (success-found code l.request l.host l.realm (before l)) at (read-find (tgpp code) (accepted-holds l a))

  -- "on success ULA-Flags 1, and Subscription-Data unless skipped"
  pub ulr-answered : is_ulr l.request ≡ true → AnswersUlr l.request (answer_of l)
  unfolding number_of value_of success_part subscription_part found_in ◌and_then◌
  ulr-answered u =
      record {
        flags = number_read ula_flags 1 (first 1406) (omega arith) (rw u at (found 1406));
        skipped = λ q. absent-read (first 1400) (rw (u, q) at (found 1400));
        given = λ q. there-read (subscription_part (before l)) (first 1400) (rw (u, q) at (found 1400));
      }

  -- "or PUA-Flags"
  pub pur-answered : is_pur l.request ≡ true → Agrees (find pua_flags (avps_of (answer_of l))) (some (a_number pua_flags (carried_out l.request (success l a).place l.table).purges))
  unfolding success_part found_in
  pur-answered p =
      let not-ulr : is_ulr l.request ≡ false = ap (λ (c : ℕ). eqb c ulr) (eqb-true (command_code l.request) pur p) in
      rw (purges_are l.request (success l a).place l.table not-ulr p, ← before-is l (success l a)) (rw (not-ulr, p) at (found 1442))
