-- What each refusal adds to an answer, Failed-AVP and what is echoed, is bounded by the request's length.
-- Assumes nothing.
use mathlib.Core.Path.{◌≡◌, refl}
use mathlib.Core.Bool.{Bool, false, cond, ◌&&◌}
use mathlib.Core.Option.{Option, none, some}
use mathlib.Core.List.{List, [], ◌∷◌}
use Prim.Native.Nat.{ℕ, ◌+◌, ◌%◌, ◌≤◌}
use native.Mathlib.Omega.{arith}
use lib.ListN.{length, drop}
use lib.Dec.{eqb}
use Rattle.dictionary.specs.declared.Kind.{Kind}
use Rattle.dictionary.specs.declared.Kind.TheVariants.{Four, Eight, Any, Group, Closed, Unknown}
use Rattle.dictionary.specs.Rows.{key_of, kind_of}
use Rattle.paper.specs.Avp.{Avp, padded, size_of}
use Rattle.paper.specs.Reader.{Placed, Faulty, most_groups}
use Rattle.paper.specs.Find.{member}
use Rattle.paper.specs.Profile.{Key, application, command_of, origin_host, user_name, visited_plmn_id}
use Rattle.paper.specs.Request.{version_of, message_length, is_error, application_of, is_command, avps_of, view_of, find, is_there, has, required_in, used, imei_of, Refusal, mute, refuse, version_test, length_test, error_test, of_fault, fault_test, application_test, command_test, of_found, unsupported_test, key_number, repeated, repeated_test, blank, missing, first_absent, absent_test, value_test, is_name, if_used, first, values_test, refusal, command_code, imsi_digits, three_bytes, imei_digits}
use Rattle.paper.specs.Answer.{failed_item}
use Rattle.paper.proofs.AvpLaws.{head_size-most}
use Rattle.paper.proofs.AvpsLaws.{cond_cases}
use Rattle.paper.proofs.OptionLaws.{Holds, holds-or_else}
use Rattle.paper.proofs.ShownSizes.{view-bare}
use Rattle.paper.proofs.AnswerParts.{length-failed, echo_size}
use Rattle.paper.proofs.EchoSizes.{echo_keys, Fits, Shown, echo-fits, found-fits, unsupported-fits, imei-fits, repeated-fits}

-- ---- heads alone, and AVPs that are absent

head_takes : (a : Avp) → length a.body ≡ 0 → size_of a ≤ 12
unfolding size_of padded
head_takes a e = let h = head_size-most a.flags in omega arith

missing_takes : (k : Key) → size_of (missing k) ≤ 16
unfolding missing blank size_of padded
missing_takes k = let h = head_size-most (missing k).flags in let b = blank_takes (kind_of k.vendor k.code) in omega arith
  where
    blank_takes : (d : Kind) → length (blank d) ≤ 4
    blank_takes Four = omega arith
    blank_takes Eight = omega arith
    blank_takes Any = omega arith
    blank_takes Group = omega arith
    blank_takes Closed = omega arith
    blank_takes Unknown = omega arith

-- ---- the refusals

-- what a refusal adds to an answer: Failed-AVP, and what is echoed
abbrev pub Bounded : List ℕ → Refusal → Type 0
Bounded m x = length (failed_item x.failed) + cond x.echo (echo_size m) 0 ≤ length m + 4

module _ (m : List ℕ) (h : 20 ≤ length m) where
  plain-mute : (code : ℕ) → Holds (Bounded m) (mute code none)
  unfolding failed_item
  plain-mute code = omega arith

  plain-refusal : (code : ℕ) → Holds (Bounded m) (refuse code none)
  unfolding failed_item
  plain-refusal code = let e = echo-fits m h in omega arith

  shown-refusal : (code : ℕ) (a : Avp) → Fits m a → Holds (Bounded m) (refuse code (some a))
  shown-refusal code a k = rw (length-failed a) (omega arith)

  found-refusal : (code : ℕ) (o : Option Placed) → Shown m o → Holds (Bounded m) (of_found code o)
  unfolding of_found
  found-refusal code none k = tt
  found-refusal code (some p) k = shown-refusal code p.avp k

  version_bounded : Holds (Bounded m) (version_test m)
  unfolding version_test
  version_bounded = cond_cases (Holds (Bounded m)) (eqb (version_of m) 1) (λ e. tt) (λ e. plain-mute 5011)

  length_bounded : Holds (Bounded m) (length_test m)
  unfolding length_test
  length_bounded = cond_cases (Holds (Bounded m)) (eqb (message_length m) (length m) && eqb (length m % 4) 0) (λ e. tt) (λ e. plain-mute 5015)

  error_bounded : Holds (Bounded m) (error_test m)
  unfolding error_test
  error_bounded = cond_cases (Holds (Bounded m)) (is_error m) (λ e. plain-mute 3008) (λ e. tt)

  -- a head alone takes 12 bytes at most
  fault_bounded : Holds (Bounded m) (fault_test m)
  unfolding fault_test of_fault view_of
  fault_bounded = go (view_of m).fault (view-bare kind_of (λ vendor code x. x) most_groups 20 (drop 20 m))
    where
      go : (o : Option Faulty) → Holds (λ f. f.shown.avp.body ≡ []) o → Holds (Bounded m) (of_fault o)
      go none k = tt
      go (some f) k =
          let n = head_size-most f.shown.avp.flags in
          let z : length f.shown.avp.body ≡ 0 = rw k in
          let l = head_takes f.shown.avp z in
          rw (length-failed f.shown.avp) (omega arith)

  application_bounded : Holds (Bounded m) (application_test m)
  unfolding application_test
  application_bounded = cond_cases (Holds (Bounded m)) (eqb (application_of m) application) (λ e. tt) (λ e. plain-refusal 3007)

  command_bounded : Holds (Bounded m) (command_test m)
  unfolding command_test
  command_bounded = cond_cases (Holds (Bounded m)) (is_command (command_of (command_code m))) (λ e. tt) (λ e. plain-refusal 3001)

  absent_bounded : (ks : List Key) → Holds (Bounded m) (first_absent ks (avps_of m))
  unfolding first_absent
  absent_bounded [] = tt
  absent_bounded (k ∷ ks) =
      let s = missing_takes k in
      let e = echo-fits m h in
      cond_cases (Holds (Bounded m)) (is_there (find k (avps_of m))) (λ q. absent_bounded ks) (λ q. rw (length-failed (missing k)) (omega arith))

  value_bounded : (right : List ℕ → Bool) (o : Option Placed) → Shown m o → Holds (Bounded m) (value_test right o)
  unfolding value_test
  value_bounded right none k = tt
  value_bounded right (some p) k = cond_cases (Holds (Bounded m)) (right p.avp.body) (λ e. tt) (λ e. shown-refusal 5004 p.avp k)

  used-fits : (k : Key) → member (key_number k) echo_keys ≡ false → Shown m (if_used k m)
  used-fits k e = cond_cases (Shown m) (has k (used m)) (λ q. found-fits m h k e) (λ q. tt)

  -- "first that applies": what holds of each test holds of the first
  abbrev All : List (Option Refusal) → Type 0
  All [] = Unit {0}
  All (o ∷ os) = Holds (Bounded m) o × All os

  first_bounded : (os : List (Option Refusal)) → All os → Holds (Bounded m) (first os)
  first_bounded [] h = tt
  first_bounded (o ∷ os) h = holds-or_else (Bounded m) o (first os) h.0 (first_bounded os h.1)

  values_bounded : Holds (Bounded m) (values_test m)
  unfolding values_test member key_of
  values_bounded =
      first_bounded
      (value_test imsi_digits (if_used user_name m) ∷ value_test is_name (if_used origin_host m) ∷ value_test three_bytes (if_used visited_plmn_id m) ∷ value_test imei_digits (imei_of m) ∷ []) (
        value_bounded imsi_digits (if_used user_name m) (used-fits user_name refl),
        (
          value_bounded is_name (if_used origin_host m) (used-fits origin_host refl),
          (value_bounded three_bytes (if_used visited_plmn_id m) (used-fits visited_plmn_id refl), (value_bounded imei_digits (imei_of m) (imei-fits m h), tt)),
        ),
      )

  pub refusal_bounded : Holds (Bounded m) (refusal m)
  unfolding refusal view_of unsupported_test repeated_test absent_test
  refusal_bounded =
      first_bounded
      (version_test m ∷ length_test m ∷ error_test m ∷ fault_test m ∷ application_test m ∷ command_test m ∷ unsupported_test m ∷ repeated_test m ∷ absent_test m ∷ values_test m ∷ []) (
        version_bounded,
        (
          length_bounded,
          (
            error_bounded,
            (
              fault_bounded,
              (
                application_bounded,
                (
                  command_bounded,
                  (
                    found-refusal 5001 _ (unsupported-fits m h _),
                    (found-refusal 5009 (repeated m) (repeated-fits m h), (absent_bounded (required_in (command_of (command_code m))), (values_bounded, tt))),
                  ),
                ),
              ),
            ),
          ),
        ),
      )
