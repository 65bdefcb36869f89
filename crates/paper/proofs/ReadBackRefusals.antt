-- Each refusal by its Result-Code: whether its answer echoes Session-Id and Proxy-Info, and which AVP it shows.
-- Assumes nothing.
use mathlib.Core.Path.{◌≡◌, refl, sym, ap, ◌∙◌, subst}
use mathlib.Core.Bool.{Bool, true, false, cond, ◌&&◌, ◌||◌, not}
use mathlib.Core.Option.{Option, none, some}
use mathlib.Core.List.{List, [], ◌∷◌}
use Prim.Native.Nat.{ℕ, ◌%◌}
use native.Mathlib.Omega.{arith}
use lib.Dec.{eqb}
use lib.ListN.{length, drop}
use borrow.Author.Tests.{eqb-true}
use Rattle.std.proofs.lemmas.Bool.{and_parts}
use Rattle.wire.specs.Number.{num_at}
use Rattle.dictionary.specs.declared.Kind.{Kind}
use Rattle.dictionary.specs.declared.Kind.TheVariants.{Four, Eight, Any, Group, Closed, Unknown}
use Rattle.dictionary.specs.Rows.{kind_of}
use Rattle.paper.specs.Avp.{Avp}
use Rattle.paper.specs.Reader.{Placed, Avps, Faulty, or_else, most_groups}
use Rattle.paper.specs.Widened.{shown_of}
use Rattle.paper.specs.Profile.{Key, application, command_of}
use Rattle.paper.specs.Request.{Refusal, version_of, message_length, is_error, application_of, command_code, is_command, avps_of, view_of, find, is_there, repeated, version_test, length_test, error_test, of_fault, fault_test, application_test, command_test, of_found, unsupported_test, repeated_test, blank, missing, first_absent, absent_test, value_test, imsi_digits, is_name, three_bytes, imei_digits, values_test, refusal}
use Rattle.paper.specs.Refusals.{result, required_said, user_name_of, origin_host_of, visited_plmn_id_of, imei_sent, wrong, name_said, imsi_said, imei_said}
use Rattle.paper.specs.ReadBack.{of_key, tells, is_faulty, unechoed, head_of, empty_of, first_lacking, first_wrong, failed_by, is_shown}
use Rattle.paper.proofs.OptionLaws.{holds_of}
use Rattle.paper.proofs.TestLaws.{or_right}
use Rattle.paper.proofs.SaidLaws.{required_as_said, user-name-said, origin_host-said, visited_plmn_id_said, terminal-said}
use Rattle.paper.proofs.ShownSizes.{view-bare}
use Rattle.paper.proofs.PromiseTests.{fault_right, message-right}
use Rattle.paper.proofs.ReadBackAvps.{Own}
use Rattle.paper.proofs.ReadBackPlaces.{with_failed, own_key, own_key_lem, own_keys, required-own}

-- a refusal with this code, what it shows and whether it echoes, as the promise has it
pub record Told (m : List ℕ) (x : Refusal) : Type 0 where
  pub echo : x.echo ≡ not (unechoed m (result x.code))
  pub failed : x.failed ≡ failed_by m (result x.code)
  pub there : is_shown x.failed ≡ with_failed (result x.code)

-- ---- the tests

module _ {P : Type 0} {A : Type 0} where
  -- the first that refuses, and before it none
  or_else_lem : (a b : Option A) {x : A} → (a ≡ some x → P) → (a ≡ none → b ≡ some x → P) → or_else a b ≡ some x → P
  or_else_lem none b f g e = g refl e
  or_else_lem (some a) b f g e = f e

unless_is : (b : Bool) {x y : Refusal} → cond b none (some y) ≡ some x → y ≡ x
unless_is true e = let z : ◌≡◌ {A = ℕ} 0 1 = cc in absurd (omega arith)
unless_is false e = cc

when_is : (b : Bool) {x y : Refusal} → cond b (some y) none ≡ some x → y ≡ x
when_is true e = cc
when_is false e = let z : ◌≡◌ {A = ℕ} 0 1 = cc in absurd (omega arith)

module _ (m : List ℕ) where
  version-told : {x : Refusal} → version_test m ≡ some x → Told m x
  unfolding version_test unechoed failed_by
  version-told e = subst (Told m) (unless_is (eqb (version_of m) 1) e) (record { echo = refl; failed = refl; there = refl })

  length-told : {x : Refusal} → length_test m ≡ some x → Told m x
  unfolding length_test unechoed failed_by
  length-told e = subst (Told m) (unless_is (eqb (message_length m) (length m) && eqb (length m % 4) 0) e) (record { echo = refl; failed = refl; there = refl })

  error-told : {x : Refusal} → error_test m ≡ some x → Told m x
  unfolding error_test unechoed failed_by
  error-told e = subst (Told m) (when_is (is_error m) e) (record { echo = refl; failed = refl; there = refl })

  -- ---- a fault of the visit

  -- its head is the AVP that it shows
  head_is : (f : Faulty) → (view_of m).fault ≡ some f → head_of (view_of m).fault ≡ some f.shown.avp
  unfolding head_of view_of
  head_is f e =
      let b : f.shown.avp.body ≡ [] = holds_of (λ (g : Faulty). g.shown.avp.body ≡ []) e (view-bare kind_of (λ vendor code x. x) most_groups 20 (drop 20 m)) in
      ap head_of e ∙ ap (λ (x : List ℕ). some (record { code = f.shown.avp.code; flags = f.shown.avp.flags; vendor = f.shown.avp.vendor; body = x })) (sym b)

  fault-unechoed : (f : Faulty) → (view_of m).fault ≡ some f → (code : ℕ) → unechoed m (result code) ≡ true
  unfolding unechoed is_faulty
  fault-unechoed f e code =
      or_right (tells 5011 (result code)) _ (or_right (tells 5015 (result code)) _ (or_right (tells 3008 (result code)) _ (ap is_faulty e)))

  shown_5014 : (f : Faulty) → (view_of m).fault ≡ some f → some f.shown.avp ≡ failed_by m (result 5014)
  unfolding failed_by
  shown_5014 f e = sym (head_is f e)

  shown_5004 : (f : Faulty) → (view_of m).fault ≡ some f → some f.shown.avp ≡ failed_by m (result 5004)
  unfolding failed_by
  shown_5004 f e = sym (ap (λ (o : Option Avp). or_else o (shown_of (first_wrong m))) (head_is f e))

  abbrev of_fault_lem : ℕ → Faulty → Refusal
  of_fault_lem code f = record { code = code; failed = some f.shown.avp; echo = false }

  fault-found : (f : Faulty) → (view_of m).fault ≡ some f → Told m (of_fault_lem f.code f)
  unfolding fault_right
  fault-found f e = go (eqb f.code 5014) refl (eqb f.code 5004) refl (ap fault_right (sym e) ∙ message-right m)
    where
      at_code : (code : ℕ) → f.code ≡ code → some f.shown.avp ≡ failed_by m (result code) → with_failed (result code) ≡ true → Told m (of_fault_lem f.code f)
      at_code code q h t = rw q (record { echo = sym (ap not (fault-unechoed f e code)); failed = h; there = sym t })

      go : (a : Bool) → eqb f.code 5014 ≡ a → (b : Bool) → eqb f.code 5004 ≡ b → a || b ≡ true → Told m (of_fault_lem f.code f)
      go true p b q h = at_code 5014 (eqb-true f.code 5014 p) (shown_5014 f e) refl
      go false p true q h = at_code 5004 (eqb-true f.code 5004 q) (shown_5004 f e) refl
      go false p false q h = let z : ◌≡◌ {A = ℕ} 0 1 = cc in absurd (omega arith)

  fault-told : {x : Refusal} → fault_test m ≡ some x → Told m x
  unfolding fault_test of_fault
  fault-told {x} e = go (view_of m).fault refl e
    where
      go : (o : Option Faulty) → (view_of m).fault ≡ o → of_fault o ≡ some x → Told m x
      go none q r = let z : ◌≡◌ {A = ℕ} 0 1 = cc in absurd (omega arith)
      go (some f) q r = let w : of_fault_lem f.code f ≡ x = cc in subst (Told m) w (fault-found f q)

  pub no_fault : fault_test m ≡ none → (view_of m).fault ≡ none
  unfolding fault_test of_fault
  no_fault e = go (view_of m).fault e
    where
      go : (o : Option Faulty) → of_fault o ≡ none → o ≡ none
      go none q = refl
      go (some f) q = let z : ◌≡◌ {A = ℕ} 0 1 = cc in absurd (omega arith)

  -- ---- the tests behind the visit

  -- an AVP that was found, and is shown itself
  found-told : (code : ℕ) (o : Option Placed) → unechoed m (result code) ≡ false → failed_by m (result code) ≡ shown_of o → with_failed (result code) ≡ true → {x : Refusal} → of_found code o ≡ some x → Told m x
  unfolding of_found
  found-told code none k f t e = let z : ◌≡◌ {A = ℕ} 0 1 = cc in absurd (omega arith)
  found-told code (some p) k f t {x} e =
      let w : record { code = code; failed = some p.avp; echo = true } ≡ x = cc in
      subst (Told m) w (record { echo = sym (ap not k); failed = sym f; there = sym t })

  -- a required AVP that is absent
  missing-is : (k : Key) → Own k → missing k ≡ of_key k (empty_of (kind_of k.vendor k.code))
  unfolding missing blank
  missing-is k o = rw o.flags (ap (λ (x : List ℕ). of_key k x) (go (kind_of k.vendor k.code)))
    where
      go : (d : Kind) → blank d ≡ empty_of d
      go Four = refl
      go Eight = refl
      go Any = refl
      go Group = refl
      go Closed = refl
      go Unknown = refl

  -- a refusal with 5005 that shows this
  record Lacking (a : Option Avp) (x : Refusal) : Type 0 where
    is : record { code = 5005; failed = a; echo = true } ≡ x
    shown : is_shown a ≡ true

  absent-is : (ks : List Key) (l : Avps) → own_keys ks ≡ true → (x : Refusal) → first_absent ks l ≡ some x → Lacking (first_lacking ks l) x
  unfolding first_absent first_lacking own_keys
  absent-is [] l h x e = let z : ◌≡◌ {A = ℕ} 0 1 = cc in absurd (omega arith)
  absent-is (k ∷ ks) l h x e = go (is_there (find k l)) (absent-is ks l (and_parts (own_key k) (own_keys ks) h).1) e
    where
      shown : some (missing k) ≡ some (of_key k (empty_of (kind_of k.vendor k.code)))
      shown = ap some (missing-is k (own_key_lem k (and_parts (own_key k) (own_keys ks) h).0))

      refusing : Option Avp → Refusal
      refusing a = record { code = 5005; failed = a; echo = true }

      go : (b : Bool) → ((y : Refusal) → first_absent ks l ≡ some y → Lacking (first_lacking ks l) y)
          → cond b (first_absent ks l) (some (refusing (some (missing k)))) ≡ some x
          → Lacking (cond b (first_lacking ks l) (some (of_key k (empty_of (kind_of k.vendor k.code))))) x
      go true ih q = ih x q
      go false ih q = let w : refusing (some (missing k)) ≡ x = cc in record { is = sym (ap refusing shown) ∙ w; shown = refl }

  -- an AVP whose data is not right: the first, in the order of 01
  value_step : (right : List ℕ → Bool) (o q : Option Placed) → or_else (value_test right o) (of_found 5004 q) ≡ of_found 5004 (cond (wrong right o) o q)
  unfolding value_test wrong of_found
  value_step right none q = refl
  value_step right (some p) q = go (right p.avp.body)
    where
      refusing : Refusal
      refusing = record { code = 5004; failed = some p.avp; echo = true }

      go : (b : Bool) → or_else (cond b none (some refusing)) (of_found 5004 q) ≡ of_found 5004 (cond (not b) (some p) q)
      go true = refl
      go false = refl

  values_are : values_test m ≡ of_found 5004 (first_wrong m)
  unfolding values_test imsi_digits is_name three_bytes imei_digits first_wrong imsi_said name_said imei_said of_found
  values_are =
      rw (user-name-said m, origin_host-said m, visited_plmn_id_said m, terminal-said m)
      (rw (value_step imei_digits (imei_sent m) none, value_step three_bytes (visited_plmn_id_of m), value_step is_name (origin_host_of m), value_step imsi_digits (user_name_of m)))

  module _ (clear : (view_of m).fault ≡ none) where
    echoes : not (is_faulty (view_of m).fault) ≡ true
    unfolding is_faulty
    echoes = ap (λ (o : Option Faulty). not (is_faulty o)) clear

    application-told : {x : Refusal} → application_test m ≡ some x → Told m x
    unfolding application_test unechoed failed_by
    application-told e = subst (Told m) (unless_is (eqb (application_of m) application) e) (record { echo = sym echoes; failed = refl; there = refl })

    command-told : {x : Refusal} → command_test m ≡ some x → Told m x
    unfolding command_test unechoed failed_by
    command-told e = subst (Told m) (unless_is (is_command (command_of (command_code m))) e) (record { echo = sym echoes; failed = refl; there = refl })

    unsupported-told : {x : Refusal} → unsupported_test m ≡ some x → Told m x
    unfolding unsupported_test unechoed failed_by is_faulty
    unsupported-told e = found-told 5001 (view_of m).unsupported (ap is_faulty clear) refl refl e

    repeated-told : {x : Refusal} → repeated_test m ≡ some x → Told m x
    unfolding repeated_test unechoed failed_by is_faulty
    repeated-told e = found-told 5009 (repeated m) (ap is_faulty clear) refl refl e

    absent-told : {x : Refusal} → absent_test m ≡ some x → Told m x
    unfolding absent_test unechoed failed_by
    absent-told e =
        let c = num_at 3 m 5 in
        let a = absent-is (required_said c) (avps_of m) (required-own c) _ (rw (required_as_said c) at e) in
        subst (Told m) a.is (record { echo = sym echoes; failed = refl; there = a.shown })

    values_told : {x : Refusal} → values_test m ≡ some x → Told m x
    unfolding unechoed failed_by is_faulty head_of
    values_told e =
        found-told 5004 (first_wrong m) (ap is_faulty clear) (ap (λ (o : Option Faulty). or_else (head_of o) (shown_of (first_wrong m))) clear) refl (sym values_are ∙ e)

  -- "first that applies"
  pub refusal-told : {x : Refusal} → refusal m ≡ some x → Told m x
  unfolding refusal
  refusal-told {x} e =
      or_else_lem (version_test m) _ version-told
      (λ _. or_else_lem (length_test m) _ length-told
      (λ _. or_else_lem (error_test m) _ error-told
      (λ _. or_else_lem (fault_test m) _ fault-told
      (λ n. let c = no_fault n in
      or_else_lem (application_test m) _ (application-told c)
      (λ _. or_else_lem (command_test m) _ (command-told c)
      (λ _. or_else_lem (unsupported_test m) _ (unsupported-told c)
      (λ _. or_else_lem (repeated_test m) _ (repeated-told c)
      (λ _. or_else_lem (absent_test m) _ (absent-told c)
      (λ _. or_else_lem (values_test m) none (values_told c) (λ _ q. let z : ◌≡◌ {A = ℕ} 0 1 = cc in absurd (omega arith))))))))))) e
