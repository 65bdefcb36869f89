-- What Failed-AVP shows of a request stands in the request's own bytes, and can be written.
-- Assumes nothing.
use mathlib.Core.Path.{◌≡◌, refl, sym, ap, ◌∙◌, subst}
use mathlib.Core.Bool.{Bool, true, false, cond, ◌&&◌, ◌||◌}
use mathlib.Core.Option.{Option, none, some}
use mathlib.Core.List.{List, [], ◌∷◌}
use Prim.Native.Nat.{ℕ, ◌-◌, ◌^◌, ◌≤◌, ◌<◌}
use native.Mathlib.Omega.{arith}
use lib.Dec.{ltb, eqb}
use lib.ListN.{length}
use borrow.Author.Tests.{eqb-true, ltb-true}
use Rattle.std.proofs.lemmas.Bool.{and_parts}
use Rattle.wire.specs.Number.{num_at, Bytes}
use Rattle.wire.proofs.NumberLaws.{num_at-lt, bytes-part}
use Rattle.dictionary.specs.declared.Kind.{Kind}
use Rattle.dictionary.specs.declared.Kind.TheVariants.{Four, Eight, Any, Group, Closed, Unknown}
use Rattle.dictionary.specs.Rows.{kind_of}
use Rattle.paper.specs.Avp.{Avp, Writable, flags_of, vendor_of, bare_of, flags_for}
use Rattle.paper.specs.Reader.{Placed, Avps, Faulty}
use Rattle.paper.specs.Widened.{shown_of}
use Rattle.paper.specs.Find.{member}
use Rattle.paper.specs.Profile.{Key, user_name, origin_host, visited_plmn_id}
use Rattle.paper.specs.Request.{avps_of, view_of, find, is_there, repeated}
use Rattle.paper.specs.Refusals.{Said, required_by, avps_by, required_said, user_name_of, origin_host_of, visited_plmn_id_of, imei_sent, wrong, name_said, imsi_said, imei_said}
use Rattle.paper.specs.Shown.{stretch}
use Rattle.paper.specs.ShownIn.{Standing}
use Rattle.paper.specs.Laid.{head_laid, bare_laid}
use Rattle.paper.specs.ReadBack.{octet, of_key, tells, head_of, empty_of, first_lacking, first_wrong, failed_by, is_shown, FailedRead}
use Rattle.paper.proofs.AvpLaws.{head_size-most}
use Rattle.paper.proofs.AvpsLaws.{cond_cases}
use Rattle.paper.proofs.OptionLaws.{Holds, holds-or_else}
use Rattle.paper.proofs.SaidLaws.{by_code, user-name-said, origin_host-said, visited_plmn_id_said, terminal-said}
use Rattle.paper.proofs.ShownLaws.{none_standing, used-standing, imei-standing, repeated-standing, view-shows}
use Rattle.paper.proofs.FirstSeconds.{first-repeated}
use Rattle.paper.proofs.FirstVisit.{first-mandatory, first_fault}
use Rattle.paper.proofs.WrittenLaws.{vendor-fits, vendor_without_V, read_writable, for_key_writable}
use Rattle.paper.proofs.ReadBackAvps.{Own}

-- "Failed-AVP for Result-Codes 5001, 5004, 5005, 5009, 5014"
abbrev pub with_failed : Said → Bool
with_failed s = tells 5001 s || (tells 5004 s || (tells 5005 s || (tells 5009 s || tells 5014 s)))

-- ---- places

module _ (m : List ℕ) (least : 20 ≤ length m) where
  wrong-standing : Standing m (first_wrong m)
  unfolding first_wrong
  wrong-standing =
      cond_cases (Standing m) (wrong imsi_said (user_name_of m)) (λ e. subst (Standing m) (user-name-said m) (used-standing m least user_name))
      (λ e. cond_cases (Standing m) (wrong name_said (origin_host_of m)) (λ f. subst (Standing m) (origin_host-said m) (used-standing m least origin_host))
      (λ f. cond_cases (Standing m) (wrong (λ x. eqb (length x) 3) (visited_plmn_id_of m)) (λ g. subst (Standing m) (visited_plmn_id_said m) (used-standing m least visited_plmn_id))
      (λ g. cond_cases (Standing m) (wrong imei_said (imei_sent m)) (λ h. rw (terminal-said m) at (imei-standing m least)) (λ h. none_standing m))))

  head_laid_lem : (s : List ℕ) → bare_of s ≡ bare_laid s
  unfolding bare_of head_laid vendor_of
  head_laid_lem s = refl

  -- a fault shows the head of what stands at its place
  fault_head : (f : Faulty) → (view_of m).fault ≡ some f → head_of (view_of m).fault ≡ some (bare_of (stretch m f.shown.at f.shown.end))
  unfolding head_of bare_of
  fault_head f e =
      ap head_of e ∙ ap (λ (a : Avp). some (record { code = a.code; flags = a.flags; vendor = a.vendor; body = [] })) ((view-shows m least).fault f e).avp

  pub failed-read : Bytes m → (s : Said) → is_shown (failed_by m s) ≡ with_failed s → FailedRead m s
  failed-read b s e =
      record {
        there = e;
        unknown = (view-shows m least).unsupported;
        first_unknown = first-mandatory m;
        second = repeated-standing m least;
        first_second = first-repeated m least b;
        wrong_value = wrong-standing;
        fault = λ f e. fault_head f e ∙ ap (λ (a : Avp). some a) (head_laid_lem _);
        first_fault = first_fault m;
      }

-- ---- what is shown can be written

standing_writable : (m : List ℕ) → Bytes m → (o : Option Placed) → Standing m o → Holds Writable (shown_of o)
standing_writable m b none t = tt
standing_writable m b (some p) t =
    let s = t p refl in
    let x = stretch m p.at p.end in
    subst Writable (sym s.avp) (read_writable x (bytes-part p.at (p.end - p.at) m b) s.right)

head_writable : (s : List ℕ) → Bytes s → Writable (bare_of s)
unfolding bare_of
head_writable s b =
    let h = head_size-most (flags_of s) in
    record { code = num_at-lt 4 s 0 b; vendor = vendor-fits s b; own = vendor_without_V s; fits = omega arith }

fault_writable : (m : List ℕ) → 20 ≤ length m → Bytes m → Holds Writable (head_of (view_of m).fault)
unfolding head_of
fault_writable m least b = go (view_of m).fault refl
  where
    go : (o : Option Faulty) → (view_of m).fault ≡ o → Holds Writable (head_of o)
    go none e = tt
    go (some f) e =
        let h : head_of (some f) ≡ some (bare_of (stretch m f.shown.at f.shown.end)) = sym (ap head_of e) ∙ fault_head m least f e in
        subst (Holds Writable) (sym h) (head_writable _ (bytes-part f.shown.at (f.shown.end - f.shown.at) m b))

-- ---- the keys that a command requires

unfoldable pub own_key : Key → Bool
own_key k = (eqb k.vendor 0 || eqb k.vendor 10415) && ltb k.code 65536

pub own_key_lem : (k : Key) → own_key k ≡ true → Own k
unfolding own_key octet flags_for
own_key_lem k e = by (eqb k.vendor 0) refl (eqb k.vendor 10415) refl (and_parts (eqb k.vendor 0 || eqb k.vendor 10415) (ltb k.code 65536) e).0
  where
    small : k.code < 256 ^ 4
    small = let h = ltb-true k.code 65536 (and_parts (eqb k.vendor 0 || eqb k.vendor 10415) (ltb k.code 65536) e).1 in omega arith

    of : (v : ℕ) → v < 256 ^ 4 → flags_for v true ≡ cond (eqb v 10415) 192 64 → k.vendor ≡ v → Own k
    of v h f q = record { vendor = rw q h; code = small; flags = rw q f }

    by : (a : Bool) → eqb k.vendor 0 ≡ a → (c : Bool) → eqb k.vendor 10415 ≡ c → a || c ≡ true → Own k
    by true p c q h = of 0 (omega arith) refl (eqb-true k.vendor 0 p)
    by false p true q h = of 10415 (omega arith) refl (eqb-true k.vendor 10415 q)
    by false p false q h = let z : ◌≡◌ {A = ℕ} 0 1 = cc in absurd (omega arith)

unfoldable pub own_keys : List Key → Bool
own_keys [] = true
own_keys (k ∷ ks) = own_key k && own_keys ks

pub required-own : (code : ℕ) → own_keys (required_said code) ≡ true
unfolding required_by avps_by member own_keys own_key
required-own code = by_code (λ c. own_keys (required_said c) ≡ true) refl refl refl code (λ p q r. rw (p, q, r))

absent_writable : (k : Key) → Own k → Writable (of_key k (empty_of (kind_of k.vendor k.code)))
absent_writable k o =
    let x = empty_of (kind_of k.vendor k.code) in
    let n = empty_few (kind_of k.vendor k.code) in
    let h = head_size-most (flags_for k.vendor true) in
    rw (← o.flags) (for_key_writable k.vendor k.code true x o.vendor o.code (omega arith))
  where
    empty_few : (d : Kind) → length (empty_of d) ≤ 4
    empty_few Four = omega arith
    empty_few Eight = omega arith
    empty_few Any = omega arith
    empty_few Group = omega arith
    empty_few Closed = omega arith
    empty_few Unknown = omega arith

lacking_writable : (ks : List Key) (l : Avps) → own_keys ks ≡ true → Holds Writable (first_lacking ks l)
unfolding first_lacking own_keys
lacking_writable [] l e = tt
lacking_writable (k ∷ ks) l e =
    cond_cases (Holds Writable) (is_there (find k l)) (λ q. lacking_writable ks l (and_parts (own_key k) (own_keys ks) e).1)
    (λ q. absent_writable k (own_key_lem k (and_parts (own_key k) (own_keys ks) e).0))

-- ---- what Failed-AVP holds

pub failed_writable : (m : List ℕ) → 20 ≤ length m → Bytes m → (s : Said) → Holds Writable (failed_by m s)
unfolding failed_by
failed_writable m least b s =
    let head = fault_writable m least b in
    cond_cases (Holds Writable) (tells 5001 s) (λ p. standing_writable m b (view_of m).unsupported (view-shows m least).unsupported)
    (λ p. cond_cases (Holds Writable) (tells 5004 s) (λ q. holds-or_else Writable (head_of (view_of m).fault) (shown_of (first_wrong m)) head (standing_writable m b (first_wrong m) (wrong-standing m least)))
    (λ q. cond_cases (Holds Writable) (tells 5005 s) (λ t. lacking_writable (required_said (num_at 3 m 5)) (avps_of m) (required-own (num_at 3 m 5)))
    (λ t. cond_cases (Holds Writable) (tells 5009 s) (λ u. standing_writable m b (repeated m) (repeated-standing m least))
    (λ u. cond_cases (Holds Writable) (tells 5014 s) (λ v. head) (λ v. tt)))))
