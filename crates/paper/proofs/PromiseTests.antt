-- The tests of a request, each as its case: what is said where it refuses, and what comes after it where it does not.
-- Assumes nothing.
use mathlib.Core.Path.{◌≡◌, refl, sym, ap, ◌∙◌, subst}
use mathlib.Core.Bool.{Bool, true, false, cond, ◌&&◌, ◌||◌, not, false≢true, not-not}
use mathlib.Core.Option.{Option, none, some}
use mathlib.Core.List.{List, [], ◌∷◌, map}
use Prim.Native.Nat.{ℕ, zero, suc, ◌+◌, ◌-◌, ◌/◌, ◌%◌, ◌^◌, ◌<◌}
use native.Mathlib.Omega.{arith}
use lib.ListN.{length, get_or}
use lib.Dec.{leb, ltb, eqb}
use borrow.Author.Tests.{eqb-true, ne_eqb, leb-true, ltb-true}
use Rattle.std.proofs.lemmas.Bool.{and_parts}
use Rattle.wire.specs.Number.{num_at}
use Rattle.dictionary.specs.declared.Kind.{Kind}
use Rattle.dictionary.specs.declared.Kind.TheVariants.{Four, Eight, Any, Group, Closed, Unknown}
use Rattle.dictionary.specs.Kinds.{size_right}
use Rattle.paper.specs.Avp.{bit}
use Rattle.paper.specs.Reader.{Placed, Avps, whole, broken, more, avps, body_at, bare, Faulty, View, or_else, ◌then◌, nothing, faulty, unknown, single, sized, group, each, by_kind, view_avp, view, most_groups}
use Rattle.paper.specs.Profile.{Key, key, Command, commands, command_in, command_of}
use Rattle.paper.specs.Request.{Refusal, avps_of, view_of, is_there, find, key_number, version_test, length_test, error_test, of_fault, fault_test, application_test, is_command, command_test, of_found, unsupported_test, repeated, repeated_test, first_absent, missing, absent_test, value_test, imsi_digits, is_name, three_bytes, imei_digits, values_test, refusal}
use Rattle.paper.specs.Procedures.{rat_bits, rat_refused}
use Rattle.paper.specs.Refusals.{Said, number, result, experimental, required_said, used_said, user_name_of, origin_host_of, visited_plmn_id_of, in_terminal, imei_sent, fault_of, twice, lacks, wrong, name_said, imsi_said, imei_said, rat_passes}
use Rattle.paper.proofs.PromiseSeconds.{eqb_sym, repeated-twice}
use Rattle.paper.proofs.SaidLaws.{used_as_said, required_as_said, user-name-said, origin_host-said, visited_plmn_id_said, terminal-said}

-- ---- one test

-- what is said of a request: the code of a refusal, and else what comes after the tests
unfoldable pub refused_by : Option Refusal → Said → Said
refused_by none d = d
refused_by (some x) d = result x.code

refused-or_else : (a b : Option Refusal) (d : Said) → refused_by (or_else a b) d ≡ refused_by a (refused_by b d)
unfolding refused_by
refused-or_else none b d = refl
refused-or_else (some x) b d = refl

refused_if : (b : Bool) (x : Refusal) (d : Said) → refused_by (cond b (some x) none) d ≡ cond b (result x.code) d
unfolding refused_by
refused_if true x d = refl
refused_if false x d = refl

refused_unless : (b : Bool) (x : Refusal) (d : Said) → refused_by (cond b none (some x)) d ≡ cond (not b) (result x.code) d
unfolding refused_by
refused_unless true x d = refl
refused_unless false x d = refl

refused-found : (code : ℕ) (p : Option Placed) (d : Said) → refused_by (of_found code p) d ≡ cond (is_there p) (result code) d
unfolding refused_by of_found
refused-found code none d = refl
refused-found code (some p) d = refl

refused-wrong : (right : List ℕ → Bool) (p : Option Placed) (d : Said) → refused_by (value_test right p) d ≡ cond (wrong right p) (result 5004) d
unfolding refused_by value_test wrong
refused-wrong right none d = refl
refused-wrong right (some p) d = refused_unless (right p.avp.body) _ d

refused-absent : (ks : List Key) (l : Avps) (d : Said) → refused_by (first_absent ks l) d ≡ cond (lacks ks l) (result 5005) d
unfolding refused_by first_absent lacks
refused-absent [] l d = refl
refused-absent (k ∷ ks) l d = go (is_there (find k l)) (refused-absent ks l d)
  where
    go : (b : Bool) → refused_by (first_absent ks l) d ≡ cond (lacks ks l) (result 5005) d
        → refused_by (cond b (first_absent ks l) (some (record { code = 5005; failed = some (missing k); echo = true }))) d ≡ cond (not b || lacks ks l) (result 5005) d
    go true others = others
    go false others = refl

-- ---- a fault of the visit is 5014 or 5004

unfoldable pub fault_right : Option Faulty → Bool
fault_right none = true
fault_right (some f) = eqb f.code 5014 || eqb f.code 5004

right-or_else : (a b : Option Faulty) → fault_right a ≡ true → fault_right b ≡ true → fault_right (or_else a b) ≡ true
right-or_else none b p q = q
right-or_else (some f) b p q = p

each_right : (one : Placed → View) → ((p : Placed) → fault_right (one p).fault ≡ true) → (l : Avps) → fault_right (each one l).fault ≡ true
unfolding fault_right each nothing faulty ◌then◌
each_right one h whole = refl
each_right one h (broken p) = refl
each_right one h (more p rest) = right-or_else (one p).fault (each one rest).fault (h p) (each_right one h rest)

sized-right : (k : Kind) (x : List ℕ) (p : Placed) → fault_right (sized k x p).fault ≡ true
unfolding sized fault_right single faulty
sized-right k x p = go (size_right k (length p.avp.body))
  where
    go : (b : Bool) → fault_right (cond b (single x p) (faulty 5014 (bare p))).fault ≡ true
    go true = refl
    go false = refl

kind-right : (k : Kind) (x : List ℕ) (inside : View) (p : Placed) → fault_right inside.fault ≡ true → fault_right (by_kind k x inside p).fault ≡ true
unfolding by_kind fault_right unknown
kind-right Unknown x inside p h = refl
kind-right Group x inside p h = h
kind-right Four x inside p h = sized-right Four x p
kind-right Eight x inside p h = sized-right Eight x p
kind-right Any x inside p h = sized-right Any x p
kind-right Closed x inside p h = sized-right Closed x p

module _ (kind : ℕ → ℕ → Kind) (seen : ℕ → ℕ → List ℕ → List ℕ) where
  avp-right : (left : ℕ) (p : Placed) → fault_right (view_avp kind seen left p).fault ≡ true
  unfolding view_avp faulty fault_right group
  avp-right zero p = kind-right _ _ (faulty 5004 (bare p)) p refl
  avp-right (suc left) p =
      kind-right _ _ (group (each (view_avp kind seen left) (avps (body_at p) p.avp.body)) p) p
      (each_right (view_avp kind seen left) (avp-right left) (avps (body_at p) p.avp.body))

pub message-right : (m : List ℕ) → fault_right (view_of m).fault ≡ true
unfolding view_of view
message-right m = each_right _ (avp-right _ _ most_groups) _

refused-fault : (f : Option Faulty) (d : Said) → fault_right f ≡ true
    → refused_by (of_fault f) d ≡ cond (fault_of 5014 f) (result 5014) (cond (fault_of 5004 f) (result 5004) d)
unfolding refused_by of_fault fault_of fault_right
refused-fault none d h = refl
refused-fault (some f) d h = go (eqb f.code 5014) refl (eqb f.code 5004) refl h
  where
    go : (a : Bool) → eqb f.code 5014 ≡ a → (b : Bool) → eqb f.code 5004 ≡ b → a || b ≡ true → result f.code ≡ cond a (result 5014) (cond b (result 5004) d)
    go true p b q e = ap (λ (n : ℕ). result n) (eqb-true _ _ p)
    go false p true q e = ap (λ (n : ℕ). result n) (eqb-true _ _ q)
    go false p false q e = absurd (false≢true e)

-- ---- the command

one_of_three : (x y z : Bool) (c d e : Command) → is_command (cond x (some c) (cond y (some d) (cond z (some e) none))) ≡ x || (y || z)
unfolding is_command
one_of_three true y z c d e = refl
one_of_three false true z c d e = refl
one_of_three false false true c d e = refl
one_of_three false false false c d e = refl

is-command : (code : ℕ) → is_command (command_of code) ≡ eqb code 316 || (eqb code 321 || eqb code 323)
unfolding command_of command_in commands
is-command code = one_of_three (eqb 316 code) (eqb 321 code) (eqb 323 code) _ _ _ ∙ rw (eqb_sym 316 code, eqb_sym 321 code, eqb_sym 323 code)

-- ---- RAT-Type

pub below_six : (P : ℕ → Type 0) → P 0 → P 1 → P 2 → P 3 → P 4 → P 5 → (k : ℕ) → k < 6 → P k
below_six P p₀ p₁ p₂ p₃ p₄ p₅ zero h = p₀
below_six P p₀ p₁ p₂ p₃ p₄ p₅ (suc zero) h = p₁
below_six P p₀ p₁ p₂ p₃ p₄ p₅ (suc (suc zero)) h = p₂
below_six P p₀ p₁ p₂ p₃ p₄ p₅ (suc (suc (suc zero))) h = p₃
below_six P p₀ p₁ p₂ p₃ p₄ p₅ (suc (suc (suc (suc zero)))) h = p₄
below_six P p₀ p₁ p₂ p₃ p₄ p₅ (suc (suc (suc (suc (suc zero))))) h = p₅
below_six P p₀ p₁ p₂ p₃ p₄ p₅ (suc (suc (suc (suc (suc (suc k)))))) h = absurd (omega arith)

one_bit : (b : Bool) → b ≡ not (not b || false)
one_bit true = refl
one_bit false = refl

pub rat_refused_lem : (rat x : ℕ) → rat_refused rat x ≡ not (rat_passes rat x)
unfolding rat_refused rat_bits rat_passes
rat_refused_lem rat x = go (leb 1000 rat && ltb (rat - 1000) 6) refl
  where
    right : ℕ → Type 0
    right n = rat_refused n x ≡ not (rat_passes n x)

    bit_of : ℕ → Bool
    bit_of k = eqb (x / 2 ^ k % 2) 1

    go : (b : Bool) → leb 1000 rat && ltb (rat - 1000) 6 ≡ b → right rat
    go true e =
        let lo = leb-true 1000 rat (and_parts (leb 1000 rat) _ e).0 in
        let hi = ltb-true (rat - 1000) 6 (and_parts (leb 1000 rat) _ e).1 in
        let whole : 1000 + (rat - 1000) ≡ rat = omega arith in
        subst right whole
        (below_six (λ k. right (1000 + k)) (one_bit (bit_of 0)) (one_bit (bit_of 1)) (one_bit (bit_of 2)) (one_bit (bit_of 3)) (one_bit (bit_of 4)) (sym (not-not (bit_of 4)))
        (rat - 1000) hi)
    go false e =
        let other : (k : ℕ) → leb 1000 k && ltb (k - 1000) 6 ≡ true → eqb rat k ≡ false =
        λ k r. ne_eqb rat k (λ q. false≢true (sym e ∙ ap (λ (n : ℕ). leb 1000 n && ltb (n - 1000) 6) q ∙ r)) in
        rw (e, other 1000 refl, other 1001 refl, other 1002 refl, other 1003 refl, other 1004 refl, other 1005 refl)

-- ---- one after another

fault-said : (m : List ℕ) (d : Said) → refused_by (fault_test m) d ≡ cond (fault_of 5014 (view_of m).fault) (result 5014) (cond (fault_of 5004 (view_of m).fault) (result 5004) d)
unfolding fault_test
fault-said m d = refused-fault (view_of m).fault d (message-right m)

none_said : (d : Said) → refused_by none d ≡ d
unfolding refused_by
none_said d = refl

absent-said : (m : List ℕ) (d : Said) → refused_by (absent_test m) d ≡ cond (lacks (required_said (num_at 3 m 5)) (avps_of m)) (result 5005) d
unfolding absent_test
absent-said m d = rw (required_as_said (num_at 3 m 5)) (refused-absent (required_said (num_at 3 m 5)) (avps_of m) d)

repeated-said : (m : List ℕ) → is_there (repeated m) ≡ twice (map key_number (used_said (num_at 3 m 5))) (avps_of m) || twice (key_number (key 10415 1402) ∷ []) (in_terminal m)
repeated-said m = repeated-twice m ∙ rw (used_as_said (num_at 3 m 5), terminal-said m)

values_said : (m : List ℕ) (d : Said) → refused_by (values_test m) d
    ≡ cond (wrong imsi_said (user_name_of m)) (result 5004)
    (cond (wrong name_said (origin_host_of m)) (result 5004)
    (cond (wrong (λ x. eqb (length x) 3) (visited_plmn_id_of m)) (result 5004)
    (cond (wrong imei_said (imei_sent m)) (result 5004) d)))
unfolding values_test imsi_digits is_name three_bytes imei_digits imsi_said name_said imei_said
values_said m d =
    rw (user-name-said m, origin_host-said m, visited_plmn_id_said m, terminal-said m) (simp (refused-or_else, refused-wrong, none_said))

-- the Result-Codes: the cases of the list from 5011 to the last 5004
abbrev pub of_request : List ℕ → Said → Said
of_request m d =
    cond (not (eqb (get_or m 0 0) 1)) (result 5011)
    (cond (not (eqb (num_at 3 m 1) (length m) && eqb (length m % 4) 0)) (result 5015)
    (cond (bit 5 (get_or m 4 0)) (result 3008)
    (cond (fault_of 5014 (view_of m).fault) (result 5014)
    (cond (fault_of 5004 (view_of m).fault) (result 5004)
    (cond (not (eqb (num_at 4 m 8) 16777251)) (result 3007)
    (cond (not (eqb (num_at 3 m 5) 316 || (eqb (num_at 3 m 5) 321 || eqb (num_at 3 m 5) 323))) (result 3001)
    (cond (is_there (view_of m).unsupported) (result 5001)
    (cond (twice (map key_number (used_said (num_at 3 m 5))) (avps_of m) || twice (key_number (key 10415 1402) ∷ []) (in_terminal m)) (result 5009)
    (cond (lacks (required_said (num_at 3 m 5)) (avps_of m)) (result 5005)
    (cond (wrong imsi_said (user_name_of m)) (result 5004)
    (cond (wrong name_said (origin_host_of m)) (result 5004)
    (cond (wrong (λ x. eqb (length x) 3) (visited_plmn_id_of m)) (result 5004)
    (cond (wrong imei_said (imei_sent m)) (result 5004) d)))))))))))))

pub request-said : (m : List ℕ) (d : Said) → refused_by (refusal m) d ≡ of_request m d
unfolding refusal version_test length_test error_test application_test command_test unsupported_test repeated_test
request-said m d =
    simp (refused-or_else, refused_unless, refused_if, refused-found, fault-said, is-command, repeated-said, absent-said, values_said, none_said)

-- ---- no refusal says 2001

otherwise : Said → Bool
otherwise (number n) = true
otherwise (result code) = not (eqb code 2001)
otherwise (experimental code) = true

otherwise_if : (b : Bool) (x y : Said) → otherwise (cond b x y) ≡ cond b (otherwise x) (otherwise y)
otherwise_if true x y = refl
otherwise_if false x y = refl

either_true : (b : Bool) → cond b true true ≡ true
either_true true = refl
either_true false = refl

refused_otherwise : (m : List ℕ) → otherwise (of_request m (number 0)) ≡ true
unfolding otherwise
refused_otherwise m = simp (otherwise_if, either_true)

pub refusal_otherwise : (m : List ℕ) (x : Refusal) → refusal m ≡ some x → x.code ≡ 2001 → ⊥
unfolding refused_by otherwise
refusal_otherwise m x e c =
    let says : of_request m (number 0) ≡ result 2001 =
    sym (request-said m (number 0)) ∙ ap (λ (o : Option Refusal). refused_by o (number 0)) e ∙ ap (λ (n : ℕ). result n) c in
    false≢true (sym (ap otherwise says) ∙ refused_otherwise m)
