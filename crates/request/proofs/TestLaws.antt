-- Each test from what its code finds: of the header, of what the visit tells, of AVPs that were sought.
-- Assumes nothing.
use mathlib.Core.Path.{◌≡◌, refl, sym, ap, ◌∙◌}
use mathlib.Core.Bool.{Bool, true, false, cond, ◌&&◌}
use mathlib.Core.Option.{Option, none, some}
use mathlib.Core.List.{List, [], map}
use Prim.Native.Nat.{ℕ, ◌+◌, ◌/◌, ◌%◌, ◌≤◌, ◌<◌}
use native.Mathlib.Numerals.{add-one}
use lib.Dec.{eqb}
use lib.ListN.{length, drop, get_or, replicate, drop_of_length-le}
use lib.Seq.{drop-cons}
use borrow.Author.Tests.{eq-eqb, ne_eqb}
use Rattle.std.specs.Prelude as Std
use Rattle.std.specs.Prelude.{Some, None, Result, Ok, Err}
use Rattle.dictionary.specs.declared.Kind.{Kind}
use Rattle.dictionary.specs.declared.Kind.TheVariants.{Four, Eight, Any, Group, Closed, Unknown}
use Rattle.dictionary.specs.declared.Key.{Key}
use Rattle.dictionary.specs.Rows.{kind_of}
use Rattle.paper.specs.declared.Visit.{Visit}
use Rattle.paper.specs.declared.Visit.TheVariants.{Clean, Fault, Unsupported}
use Rattle.paper.specs.declared.Failed.TheVariants.{Whole, Bare, Missing}
use Rattle.paper.specs.Reader.{Placed, Avps, Faulty, tell, told}
use Rattle.paper.specs.Find.{body_found}
use Rattle.paper.specs.Profile.{application, command_of, commands, command_in}
use Rattle.paper.specs.Request.{Refusal, mute, refuse, version_of, message_length, command_code, application_of, view_of, is_there, find, is_command, version_test, length_test, error_test, of_fault, fault_test, application_test, command_test, of_found, unsupported_test, blank, missing, first_absent, value_test}
use Rattle.paper.specs.Shown.{failed_in}
use Rattle.paper.specs.ShownIn.{StandsIn, HeadIn, Standing}
use Rattle.paper.proofs.ShownLaws.{view-shows}
use Rattle.reader.specs.declared.header.Header.{Header}
use Rattle.reader.specs.Header.{header_of}
use Rattle.request.specs.declared.place.Spot.{Spot}
use Rattle.request.specs.declared.profile.Command.{Command}
use Rattle.request.specs.declared.profile.Command.TheVariants.{Ulr, Pur, Nor}
use Rattle.request.specs.declared.tests.Refusal as Code
use Rattle.request.specs.Place.{sought_of, data_in, Finds}
use Rattle.request.specs.Profile.{row_of, key_at}
use Rattle.request.specs.Test.{Answers, refusal_of, shown_test, is_four}

-- ---- answers without a place

module _ (m : List ℕ) {x : Option Refusal} where
  pub fine : x ≡ none → Answers m x (Ok tt)
  fine e = record { same = sym e; places = tt }

  pub plain : (code : ℕ) (echo : Bool) → x ≡ some (record { code = code; failed = none; echo = echo }) → Answers m x (Err (refusal_of code None echo))
  unfolding failed_in
  plain code echo e = record { same = sym e; places = tt }

-- ---- the header

module _ (m : List ℕ) {h : Header} (e : h ≡ header_of m) where
  pub version-right : h.version ≡ 1 → Answers m (version_test m) (Ok tt)
  unfolding version_test header_of
  version-right q = fine m (rw (eq-eqb (version_of m) 1 (sym (ap (λ (k : Header). k.version) e) ∙ q)))

  pub version-wrong : (h.version ≡ 1 → ⊥) → Answers m (version_test m) (Err (refusal_of 5011 None false))
  unfolding version_test header_of
  version-wrong q = plain m 5011 false (rw (ne_eqb (version_of m) 1 (λ p. q (ap (λ (k : Header). k.version) e ∙ p))))

  module _ {n : ℕ} (f : n ≡ length m) where
    length-same : eqb h.length n && eqb (n % 4) 0 ≡ eqb (message_length m) (length m) && eqb (length m % 4) 0
    unfolding header_of
    length-same = rw (ap (λ (k : Header). k.length) e, f)

    pub length-right : eqb h.length n && eqb (n % 4) 0 ≡ true → Answers m (length_test m) (Ok tt)
    unfolding length_test
    length-right q = fine m (rw (sym length-same ∙ q))

    pub length-wrong : eqb h.length n && eqb (n % 4) 0 ≡ false → Answers m (length_test m) (Err (refusal_of 5015 None false))
    unfolding length_test
    length-wrong q = plain m 5015 false (rw (sym length-same ∙ q))

  error-same : h.flags / 32 % 2 ≡ get_or m 4 0 / 32 % 2
  unfolding header_of
  error-same = ap (λ (k : Header). k.flags / 32 % 2) e

  pub error-set : h.flags / 32 % 2 ≡ 1 → Answers m (error_test m) (Err (refusal_of 3008 None false))
  unfolding error_test
  error-set q = plain m 3008 false (rw (eq-eqb (get_or m 4 0 / 32 % 2) 1 (sym error-same ∙ q)))

  pub error-clear : (h.flags / 32 % 2 ≡ 1 → ⊥) → Answers m (error_test m) (Ok tt)
  unfolding error_test
  error-clear q = fine m (rw (ne_eqb (get_or m 4 0 / 32 % 2) 1 (λ p. q (error-same ∙ p))))

  pub application-right : h.application ≡ application → Answers m (application_test m) (Ok tt)
  unfolding application_test header_of
  application-right q = fine m (rw (eq-eqb (application_of m) application (sym (ap (λ (k : Header). k.application) e) ∙ q)))

  pub application-wrong : (h.application ≡ application → ⊥) → Answers m (application_test m) (Err (refusal_of 3007 None true))
  unfolding application_test header_of
  application-wrong q = plain m 3007 true (rw (ne_eqb (application_of m) application (λ p. q (ap (λ (k : Header). k.application) e ∙ p))))

-- each case is a command
a_command : (d : Command) → is_command (row_of (Some d)) ≡ true
unfolding command_of commands command_in is_command
a_command Ulr = refl
a_command Pur = refl
a_command Nor = refl

module _ (m : List ℕ) (c : Std.Option Command) (own : row_of c ≡ command_of (command_code m)) where
  pub command_held : is_command (row_of c) ≡ true → Answers m (command_test m) (Ok tt)
  unfolding command_test
  command_held q = fine m (rw (ap is_command (sym own) ∙ q))

  pub command_none : is_command (row_of c) ≡ false → Answers m (command_test m) (Err (refusal_of 3001 None true))
  unfolding command_test
  command_none q = plain m 3001 true (rw (ap is_command (sym own) ∙ q))

module _ (m : List ℕ) {c : Std.Option Command} (own : row_of c ≡ command_of (command_code m)) where
  pub command-right : {d : Command} → c ≡ Some d → Answers m (command_test m) (Ok tt)
  command-right {d} q = command_held m c own (ap (λ x. is_command (row_of x)) q ∙ a_command d)

  pub command-wrong : c ≡ None → Answers m (command_test m) (Err (refusal_of 3001 None true))
  unfolding is_command
  command-wrong q = command_none m c own (ap (λ x. is_command (row_of x)) q)

-- ---- what the visit tells

-- an AVP of the message that is shown whole
whole_answers : (m : List ℕ) (code : ℕ) (p : Placed) → StandsIn m p → Answers m (refuse code (some p.avp)) (Err (refusal_of code (Some (Whole p.at p.end)) true))
unfolding failed_in
whole_answers m code p t = record { same = rw t.avp; places = (t.lies, t.right) }

module _ (m : List ℕ) (long : 20 ≤ length m) where
  -- a fault of the message that is shown by its head
  bare_answers : (g : Faulty) → HeadIn m g.shown → Answers m (mute g.code (some g.shown.avp)) (Err (refusal_of g.code (Some (Bare g.shown.at g.shown.end)) false))
  unfolding failed_in
  bare_answers g h = record { same = rw h.avp; places = h.lies }

  fault-found : (f : Option Faulty) (u : Option Placed) → ((g : Faulty) → f ≡ some g → HeadIn m g.shown) → {code at to : ℕ} → Fault code at to ≡ tell f u
      → Answers m (of_fault f) (Err (refusal_of code (Some (Bare at to)) false))
  unfolding tell of_fault
  fault-found none none s e = absurd (cc)
  fault-found none (some p) s e = absurd (cc)
  fault-found (some g) u s {code} {at} {to} e =
      let ec : code ≡ g.code = cc in
      let ea : at ≡ g.shown.at = cc in
      let et : to ≡ g.shown.end = cc in
      rw (ec, ea, et) (bare_answers g (s g refl))

  pub fault_answers : {code at to : ℕ} → Fault code at to ≡ told (view_of m) → Answers m (fault_test m) (Err (refusal_of code (Some (Bare at to)) false))
  unfolding told view_of fault_test
  fault_answers e = fault-found (view_of m).fault (view_of m).unsupported (view-shows m long).fault e

  unsupported-found : (f : Option Faulty) (u : Option Placed) → Standing m u → {at to : ℕ} → Unsupported at to ≡ tell f u
      → Answers m (of_found 5001 u) (Err (refusal_of 5001 (Some (Whole at to)) true))
  unfolding tell of_found
  unsupported-found none none s e = absurd (cc)
  unsupported-found none (some p) s {at} {to} e =
      let ea : at ≡ p.at = cc in
      let et : to ≡ p.end = cc in
      rw (ea, et) (whole_answers m 5001 p (s p refl))
  unsupported-found (some g) u s e = absurd (cc)

  pub unsupported_answers : {at to : ℕ} → Unsupported at to ≡ told (view_of m) → Answers m (unsupported_test m) (Err (refusal_of 5001 (Some (Whole at to)) true))
  unfolding told unsupported_test
  unsupported_answers e = unsupported-found (view_of m).fault (view_of m).unsupported (view-shows m long).unsupported e

-- a visit that tells of no fault has none
not_fault : (f : Option Faulty) (u : Option Placed) {v : Visit} → v ≡ tell f u → ((code at to : ℕ) → v ≡ Fault code at to → ⊥) → f ≡ none
unfolding tell
not_fault none u e n = refl
not_fault (some g) u e n = absurd (n g.code g.shown.at g.shown.end e)

-- nor an unknown AVP with M, where it tells of none
not_unsupported : (f : Option Faulty) (u : Option Placed) {v : Visit} → of_fault f ≡ none → v ≡ tell f u → ((at to : ℕ) → v ≡ Unsupported at to → ⊥) → u ≡ none
unfolding tell of_fault
not_unsupported none none q e n = refl
not_unsupported none (some p) q e n = absurd (n p.at p.end e)
not_unsupported (some g) u q e n = absurd (cc)

module _ (m : List ℕ) {v : Visit} (e : v ≡ told (view_of m)) where
  pub fault-fine : ((code at to : ℕ) → v ≡ Fault code at to → ⊥) → Answers m (fault_test m) (Ok tt)
  unfolding told fault_test of_fault
  fault-fine n = fine m (ap of_fault (not_fault (view_of m).fault (view_of m).unsupported e n))

  pub unsupported-fine : fault_test m ≡ none → ((at to : ℕ) → v ≡ Unsupported at to → ⊥) → Answers m (unsupported_test m) (Ok tt)
  unfolding told fault_test unsupported_test of_found
  unsupported-fine q n = fine m (ap (of_found 5001) (not_unsupported (view_of m).fault (view_of m).unsupported q e n))

-- a fault is not told where there is none
fault-not-told : (f : Option Faulty) (u : Option Placed) {code at to : ℕ} → of_fault f ≡ none → Fault code at to ≡ tell f u → ⊥
unfolding tell of_fault
fault-not-told none none q e = cc
fault-not-told none (some p) q e = cc
fault-not-told (some g) u q e = cc

module _ (m : List ℕ) where
  pub clean_fine : Clean ≡ told (view_of m) → Answers m (fault_test m) (Ok tt)
  clean_fine e = fault-fine m e (λ code at to q. cc)

  pub clean_supported : Clean ≡ told (view_of m) → Answers m (unsupported_test m) (Ok tt)
  clean_supported e = unsupported-fine m e (sym (clean_fine e).same) (λ at to q. cc)

  -- a fault was refused before
  pub fault-refused : {code at to : ℕ} {x : Option Refusal} {r : Result (Unit {0}) Code.Refusal} → fault_test m ≡ none → Fault code at to ≡ told (view_of m) → Answers m x r
  unfolding told fault_test
  fault-refused q e = absurd (fault-not-told (view_of m).fault (view_of m).unsupported q e)

-- ---- AVPs that were sought

module _ (m : List ℕ) (o : Option Placed) {f : Std.Option Spot} (d : Finds m o f) where
  shown-at : (code : ℕ) → (q : Option Placed) → Standing m q → Answers m (of_found code q) (shown_test code (sought_of q))
  unfolding of_found
  shown-at code none t = record { same = refl; places = tt }
  shown-at code (some p) t = whole_answers m code p (t p refl)

  pub shown_answers : (code : ℕ) {r : Result (Unit {0}) Code.Refusal} → r ≡ shown_test code f → Answers m (of_found code o) r
  shown_answers code q = rw (q, d.sought) (shown-at code o d.stands)

  value_as_found : (right : List ℕ → Bool) (q : Option Placed) → value_test right q ≡ cond (right (body_found q)) none (of_found 5004 q)
  unfolding value_test of_found
  value_as_found right none = go (right [])
    where
      go : (b : Bool) → ◌≡◌ {A = Option Refusal} none (cond b none none)
      go true = refl
      go false = refl
  value_as_found right (some p) = refl

  -- the data of what was found is judged by a rule
  pub value_answers : (right : List ℕ → Bool) {x : List ℕ} → x ≡ data_in m f → {b : Bool} → b ≡ right x → {r : Result (Unit {0}) Code.Refusal} → r ≡ cond b (Ok tt) (shown_test 5004 f)
      → Answers m (value_test right o) r
  value_answers right {x} k {b} j q = rw (value_as_found right o, q, sym (j ∙ ap right (k ∙ d.value))) (go b)
    where
      go : (b : Bool) → Answers m (cond b none (of_found 5004 o)) (cond b (Ok tt) (shown_test 5004 f))
      go true = fine m refl
      go false = shown_answers 5004 refl

-- ---- an AVP that is absent

blank_four : (k : Kind) → blank k ≡ cond (is_four k) (replicate 4 0) []
unfolding blank
blank_four Four = refl
blank_four Eight = refl
blank_four Any = refl
blank_four Group = refl
blank_four Closed = refl
blank_four Unknown = refl

pub missing_answers : (m : List ℕ) (key : Key) {four : Bool} {k : Kind} → four ≡ is_four k → k ≡ kind_of key.vendor key.code
    → Answers m (refuse 5005 (some (missing (key_at key)))) (Err (refusal_of 5005 (Some (Missing key four)) true))
unfolding failed_in missing
missing_answers m key e f = record { same = rw (e, f, blank_four (kind_of key.vendor key.code)); places = tt }

-- what the required keys from the `i`-th on say
abbrev pub absent_from : Avps → List Key → ℕ → Option Refusal
absent_from l required i = first_absent (map key_at (drop i required)) l

-- the `i`-th of the keys
abbrev key_of : List Key → ℕ → Key
key_of required i = get_or required i (record { code = 0; vendor = 0 })

module _ (l : Avps) (required : List Key) (i : ℕ) where
  absent_step : i < length required
      → absent_from l required i ≡ cond (is_there (find (key_at (key_of required i)) l)) (absent_from l required (i + 1)) (refuse 5005 (some (missing (key_at (key_of required i)))))
  unfolding first_absent
  absent_step h = rw (add-one, drop-cons required i (record { code = 0; vendor = 0 }))

  pub absent-next : i < length required → {x : Option Refusal} → x ≡ absent_from l required i → is_there (find (key_at (key_of required i)) l) ≡ true → x ≡ absent_from l required (i + 1)
  absent-next h e q = e ∙ absent_step h ∙ rw q

  pub absent-here : i < length required → {x : Option Refusal} → x ≡ absent_from l required i → is_there (find (key_at (key_of required i)) l) ≡ false
      → x ≡ refuse 5005 (some (missing (key_at (key_of required i))))
  absent-here h e q = e ∙ absent_step h ∙ rw q

pub absent_none : (l : Avps) (required : List Key) (i : ℕ) → length required ≤ i → {x : Option Refusal} → x ≡ absent_from l required i → x ≡ none
unfolding first_absent
absent_none l required i h e = e ∙ rw (drop_of_length-le required h)
