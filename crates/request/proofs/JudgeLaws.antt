-- The tests that take a command, from what their code finds; and what is left of 01's chain behind each test.
-- Assumes nothing.
use mathlib.Core.Path.{◌≡◌, refl, sym, ap, ◌∙◌}
use mathlib.Core.List.{List, [], ◌∷◌, map}
use mathlib.Core.Option.{Option, none}
use Prim.Native.Nat.{ℕ, ◌≤◌}
use lib.ListN.{length, drop}
use Rattle.std.specs.Prelude as Std
use Rattle.std.specs.Prelude.{Some, None, Result, Ok, Err}
use Rattle.dictionary.specs.declared.Key.{Key}
use Rattle.dictionary.specs.Rows.{kind_of}
use Rattle.reader.specs.Message.{visit_of}
use Rattle.paper.specs.declared.Visit.{Visit}
use Rattle.paper.specs.Reader.{told, or_else, Avps, whole, broken, more, avps}
use Rattle.paper.specs.Find.{member, first_second}
use Rattle.paper.specs.Profile.{command_of, imei}
use Rattle.paper.specs.Request.{Refusal, view_of, key_number, used_in, required_in, used, command_code, avps_of, terminal, first_absent, repeated, first, version_test, length_test, error_test, fault_test, application_test, command_test, unsupported_test, repeated_test, absent_test, values_test, refusal}
use Rattle.paper.proofs.ShownLaws.{repeated-standing}
use Rattle.avp.specs.Found.{number}
use Rattle.request.specs.declared.place.Spot.{Spot}
use Rattle.request.specs.declared.profile.Command.{Command}
use Rattle.request.specs.declared.tests.Refusal as Code
use Rattle.request.specs.Place.{sought_of, earlier_sought}
use Rattle.request.specs.Profile.{row_of, key_at}
use Rattle.request.specs.Test.{Answers, shown_test}
use Rattle.request.proofs.PlaceLaws.{earlier_sought_lem, finds_lem}
use Rattle.request.proofs.TestLaws.{fine, shown_answers}
use Rattle.request.proofs.ChainLaws.{Left, first-append}

-- ---- tests over a command

-- the numbers of keys are those of the paper's
numbers_same : (keys : List Key) → map number keys ≡ map key_number (map key_at keys)
numbers_same [] = refl
numbers_same (k ∷ keys) = ap (λ l. number k ∷ l) (numbers_same keys)

-- no key has a second where there is none
no_keys : (l : Avps) → first_second [] [] l ≡ none
unfolding first_second member
no_keys whole = refl
no_keys (broken p) = refl
no_keys (more p rest) = no_keys rest

module _ (m : List ℕ) {c : Std.Option Command} (own : row_of c ≡ command_of (command_code m)) where
  pub second_of_used : {d : Command} → c ≡ Some d → (keys : List Key) → map key_at keys ≡ used_in (row_of (Some d)) → {base : ℕ} {s : List ℕ} → base ≡ 20 → s ≡ drop 20 m
      → {f : Std.Option Spot} → f ≡ sought_of (first_second (map number keys) [] (avps base s)) → f ≡ sought_of (first_second (map key_number (used m)) [] (avps_of m))
  unfolding avps_of
  second_of_used is keys k b e q =
      let n : map number keys ≡ map key_number (used m) = numbers_same keys ∙ ap (map key_number) (k ∙ ap used_in (ap row_of (sym is) ∙ own)) in
      q ∙ rw (n, b, e)

  pub second_of_none : c ≡ None → None ≡ sought_of (first_second (map key_number (used m)) [] (avps_of m))
  unfolding used_in
  second_of_none is = rw (sym (ap row_of (sym is) ∙ own), no_keys (avps_of m))

  pub absent_answers : {d : Command} → c ≡ Some d → (keys : List Key) → map key_at keys ≡ required_in (row_of (Some d)) → {r : Result (Unit {0}) Code.Refusal}
      → Answers m (first_absent (map key_at keys) (avps_of m)) r → Answers m (absent_test m) r
  unfolding absent_test
  absent_answers is keys k a = rw (k ∙ ap required_in (ap row_of (sym is) ∙ own)) at a

  pub absent_nothing : c ≡ None → Answers m (absent_test m) (Ok tt)
  unfolding absent_test required_in first_absent
  absent_nothing is = fine m (ap (λ x. first_absent (required_in x) (avps_of m)) (sym (ap row_of (sym is) ∙ own)))

-- the second at the top and the one inside Terminal-Information
module _ (m : List ℕ) (long : 20 ≤ length m) {f g : Std.Option Spot} (e : f ≡ sought_of (first_second (map key_number (used m)) [] (avps_of m)))
    {l : Avps} (b : l ≡ terminal m) (d : g ≡ sought_of (first_second (key_number imei ∷ []) [] l)) where
  repeated_sought : earlier_sought f g ≡ sought_of (repeated m)
  unfolding repeated
  repeated_sought = rw (e, d, b) (earlier_sought_lem _ _)

  pub repeated_answers : {x : Std.Option Spot} → x ≡ earlier_sought f g → {r : Result (Unit {0}) Code.Refusal} → r ≡ shown_test 5009 x → Answers m (repeated_test m) r
  unfolding repeated_test
  repeated_answers p q = shown_answers m (repeated m) (finds_lem m (repeated m) (repeated-standing m long) (p ∙ repeated_sought)) 5009 q

-- ---- the chain

pub visit-told : (m : List ℕ) {v : Visit} → v ≡ visit_of kind_of m → v ≡ told (view_of m)
unfolding visit_of view_of
visit-told m e = e

module _ (m : List ℕ) where
  abbrev pub of_header : List (Option Refusal)
  of_header = version_test m ∷ length_test m ∷ error_test m ∷ []

  -- the chain from each test on
  abbrev pub from_values : List (Option Refusal)
  from_values = values_test m ∷ []

  abbrev pub from_absent : List (Option Refusal)
  from_absent = absent_test m ∷ from_values

  abbrev pub from_repeated : List (Option Refusal)
  from_repeated = repeated_test m ∷ from_absent

  abbrev pub from_unsupported : List (Option Refusal)
  from_unsupported = unsupported_test m ∷ from_repeated

  abbrev pub from_command : List (Option Refusal)
  from_command = command_test m ∷ from_unsupported

  abbrev pub from_application : List (Option Refusal)
  from_application = application_test m ∷ from_command

  abbrev pub from_fault : List (Option Refusal)
  from_fault = fault_test m ∷ from_application

  abbrev pub behind_header : List (Option Refusal)
  behind_header = from_fault

  -- the tests of the header first, as one
  pub left-header : Left (refusal m) (first of_header ∷ from_fault)
  unfolding refusal
  left-header = record { same = first-append of_header from_fault }

  pub judged : {r : Result (Unit {0}) Code.Refusal} → Answers m (or_else (first of_header) (first behind_header)) r → Answers m (refusal m) r
  unfolding refusal
  judged a = rw (first-append of_header behind_header) a
