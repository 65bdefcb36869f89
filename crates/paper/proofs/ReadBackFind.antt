-- The first AVP of a key in a list that was read: what stands first among the AVPs that it reads as.
-- Assumes nothing.
use mathlib.Core.Path.{◌≡◌, refl, sym, ap, ◌∙◌, subst}
use mathlib.Core.Bool.{Bool, true, false, cond, ◌&&◌, ◌||◌}
use mathlib.Core.Option.{Option, none, some}
use mathlib.Core.List.{List, []}
use Prim.Native.Nat.{ℕ, ◌^◌, ◌<◌}
use lib.Dec.{eqb}
use Rattle.wire.specs.Number.{be, num_at}
use Rattle.wire.proofs.NumberLaws.{num_at-be}
use Rattle.paper.specs.Avp.{Avp}
use Rattle.paper.specs.Reader.{Placed, Avps, whole, broken, more, avps, body_at, or_else}
use Rattle.paper.specs.Find.{has_key, first_of, body_found}
use Rattle.paper.specs.Profile.{Key, base, tgpp, session_id, origin_host, auth_session_state, failed_avp, proxy_info, origin_realm}
use Rattle.paper.specs.Request.{avps_of, find, inside, is_there}
use Rattle.paper.specs.Procedures.{is_ulr, is_pur, skip_subscriber_data}
use Rattle.paper.specs.Refusals.{Said, number, result, experimental}
use Rattle.paper.specs.ReadBack.{Held, no_more, plain, showing, grouped, of_key, ReadAs, ends, reads, shows, enters, a_number, a_text, a_group, ◌and_then◌, tells, result_part, first_part, each_part, unechoed, subscription_part, success_part, failed_by, failed_part, holds}
use Rattle.paper.proofs.TestLaws.{or-false-left, or-false-right}
use Rattle.paper.proofs.ViewLaws.{or_else-right}

-- ---- the first AVP of a key

-- the AVP of key `j` has the key `k`
abbrev pub same : Key → Key → Bool
same k j = eqb j.vendor k.vendor && eqb j.code k.code

-- the first of the key, alone
unfoldable pub found_in : Key → Held → Option Held
found_in k no_more = none
found_in k (plain j x h) = cond (same k j) (some (plain j x no_more)) (found_in k h)
found_in k (showing j a h) = cond (same k j) (some (showing j a no_more)) (found_in k h)
found_in k (grouped j inner h) = cond (same k j) (some (grouped j inner no_more)) (found_in k h)

or_else_if : {A : Type 0} (b : Bool) (x : A) (o q r : Option A) → o ≡ or_else q r → cond b (some x) o ≡ or_else (cond b (some x) q) r
or_else_if true x o q r e = refl
or_else_if false x o q r e = e

found_then : (k : Key) (h g : Held) → found_in k (h and_then g) ≡ or_else (found_in k h) (found_in k g)
unfolding found_in ◌and_then◌
found_then k no_more g = refl
found_then k (plain j x h) g = or_else_if (same k j) _ _ _ _ (found_then k h g)
found_then k (showing j a h) g = or_else_if (same k j) _ _ _ _ (found_then k h g)
found_then k (grouped j inner h) g = or_else_if (same k j) _ _ _ _ (found_then k h g)

-- an AVP that was read holds what stands first here
abbrev pub HeldBy : Placed → Held → Type 0
HeldBy p no_more = Unit {0}
HeldBy p (plain k x h) = p.avp.body ≡ x
HeldBy p (showing k a h) = Unit {0}
HeldBy p (grouped k inner h) = ReadAs (avps (body_at p) p.avp.body) inner

abbrev pub Agrees : Option Placed → Option Held → Type 0
Agrees none none = Unit {0}
Agrees none (some h) = ⊥
Agrees (some p) none = ⊥
Agrees (some p) (some h) = HeldBy p h

agrees_if : (b : Bool) (p : Placed) (h : Held) (o : Option Placed) (q : Option Held) → HeldBy p h → Agrees o q → Agrees (cond b (some p) o) (cond b (some h) q)
agrees_if true p h o q a r = a
agrees_if false p h o q a r = r

-- what is found in a list that reads as these is what is found among these
module _ (k : Key) where
  one_more : (p : Placed) (rest : Avps) (j : Key) (x : List ℕ) (h : Held) (q : Option Held) → p.avp ≡ of_key j x → HeldBy p h → Agrees (find k rest) q
      → Agrees (find k (more p rest)) (cond (same k j) (some h) q)
  unfolding first_of has_key
  one_more p rest j x h q e a r = rw (ap (λ (b : Avp). eqb b.vendor k.vendor && eqb b.code k.code) e) (agrees_if (same k j) p h (find k rest) q a r)

  pub read-find : {l : Avps} {h : Held} → ReadAs l h → Agrees (find k l) (found_in k h)
  unfolding found_in first_of
  read-find ends = tt
  read-find (reads {p} {rest} {k = j} {x} {h} e r) = one_more p rest j x (plain j x no_more) (found_in k h) e (ap (λ (b : Avp). b.body) e) (read-find r)
  read-find (shows {p} {q} {rest} {k = j} {x} {h} e i r) = one_more p rest j x (showing j q.avp no_more) (found_in k h) e tt (read-find r)
  read-find (enters {p} {rest} {k = j} {x} {inner} {h} e i r) =
      one_more p rest j x (grouped j inner no_more) (found_in k h) e (subst (λ (y : List ℕ). ReadAs (avps (body_at p) y) inner) (sym (ap (λ (b : Avp). b.body) e)) i) (read-find r)

-- ---- the numbers

pub number_read : (k : Key) (n : ℕ) (o : Option Placed) → n < 256 ^ 4 → Agrees o (some (a_number k n)) → num_at 4 (body_found o) 0 ≡ n
number_read k n none h a = absurd a
number_read k n (some p) h a = ap (λ (x : List ℕ). num_at 4 x 0) a ∙ num_at-be 4 n [] h

pub none_read : (o : Option Placed) → Agrees o none → num_at 4 (body_found o) 0 ≡ 0
unfolding num_at
none_read none a = refl
none_read (some p) a = absurd a

pub none_inside : (k : Key) (o : Option Placed) → Agrees o none → num_at 4 (body_found (find k (inside o))) 0 ≡ 0
unfolding num_at first_of
none_inside k none a = refl
none_inside k (some p) a = absurd a

pub inside-read : (k : Key) (inner : Held) (o : Option Placed) → Agrees o (some (a_group k inner)) → ReadAs (inside o) inner
inside-read k inner none a = absurd a
inside-read k inner (some p) a = a

pub there-read : (h : Held) (o : Option Placed) → Agrees o (some h) → is_there o ≡ true
there-read h none a = absurd a
there-read h (some p) a = refl

pub absent-read : (o : Option Placed) → Agrees o none → o ≡ none
absent-read none a = refl
absent-read (some p) a = absurd a

-- ---- the parts of an answer that lack a key

record Lacks (k : Key) (h : Held) : Type 0 where
  none_found : found_in k h ≡ none

lacks-nothing : {k : Key} → Lacks k no_more
unfolding found_in
lacks-nothing = record { none_found = refl }

lacks_then : {k : Key} {h g : Held} → Lacks k h → Lacks k g → Lacks k (h and_then g)
lacks_then {k} {h} {g} a b = record { none_found = found_then k h g ∙ rw (a.none_found, b.none_found) }

lacks_if : {k : Key} (b : Bool) {h g : Held} → Lacks k h → Lacks k g → Lacks k (cond b h g)
lacks_if true a b = a
lacks_if false a b = b

lacks_text : {k j : Key} (x : List ℕ) → same k j ≡ false → Lacks k (a_text j x)
unfolding found_in
lacks_text x e = record { none_found = rw e }

lacks-group : {k j : Key} (inner : Held) → same k j ≡ false → Lacks k (a_group j inner)
unfolding found_in
lacks-group inner e = record { none_found = rw e }

-- the keys of what surrounds the result and the AVPs of a success
unfoldable pub surrounds : Key → Bool
surrounds k = same k session_id || (same k auth_session_state || (same k origin_host || (same k origin_realm || (same k failed_avp || same k proxy_info))))

module _ (k : Key) where
  lacks-first : (o : Option Placed) → same k session_id ≡ false → Lacks k (first_part session_id o)
  unfolding first_part
  lacks-first none e = lacks-nothing
  lacks-first (some p) e = lacks_text p.avp.body e

  lacks-each : (l : Avps) → same k proxy_info ≡ false → Lacks k (each_part proxy_info l)
  unfolding each_part
  lacks-each whole e = lacks-nothing
  lacks-each (broken p) e = lacks-nothing
  lacks-each (more p rest) e = lacks_then (lacks_if (has_key 0 284 p.avp) (lacks_text p.avp.body e) lacks-nothing) (lacks-each rest e)

  lacks-failed : (o : Option Avp) → same k failed_avp ≡ false → Lacks k (failed_part o)
  unfolding failed_part found_in
  lacks-failed none e = lacks-nothing
  lacks-failed (some a) e = record { none_found = rw e }

  -- what is found is the result, or else stands among the AVPs of a success
  pub held_found : (m host realm r : List ℕ) (s : Said) → surrounds k ≡ false
      → found_in k (holds m host realm r s) ≡ or_else (found_in k (result_part s)) (found_in k (cond (tells 2001 s) (success_part m r) no_more))
  unfolding holds surrounds
  held_found m host realm r s e =
      let e₁ = or-false-right (same k session_id) _ e in
      let e₂ = or-false-right (same k auth_session_state) _ e₁ in
      let e₃ = or-false-right (same k origin_host) _ e₂ in
      let e₄ = or-false-right (same k origin_realm) _ e₃ in
      let front : Lacks k (cond (unechoed m s) no_more (first_part session_id (find session_id (avps_of m)))) = lacks_if (unechoed m s) lacks-nothing (lacks-first _ (or-false-left _ _ e)) in
      let own : Lacks k (a_number auth_session_state 1) = lacks_text (be 4 1) (or-false-left _ _ e₁) in
      let named : Lacks k (a_text origin_host host) = lacks_text host (or-false-left _ _ e₂) in
      let ruled : Lacks k (a_text origin_realm realm) = lacks_text realm (or-false-left _ _ e₃) in
      let failed : Lacks k (failed_part (failed_by m s)) = lacks-failed (failed_by m s) (or-false-left _ _ e₄) in
      let back : Lacks k (cond (unechoed m s) no_more (each_part proxy_info (avps_of m))) = lacks_if (unechoed m s) lacks-nothing (lacks-each (avps_of m) (or-false-right (same k failed_avp) _ e₄)) in
      simp (found_then, front.none_found, own.none_found, named.none_found, ruled.none_found, failed.none_found, back.none_found, or_else-right)

-- no AVP of a success is of the base protocol, and no result of 3GPP
pub lacks-success : (code : ℕ) (b : Bool) (m r : List ℕ) → found_in (base code) (cond b (success_part m r) no_more) ≡ none
unfolding success_part subscription_part
lacks-success code b m r = (lacks_if b parts lacks-nothing).none_found
  where
    parts : Lacks (base code) (success_part m r)
    parts =
        lacks_if (is_ulr m) (lacks_then (lacks_text _ refl) (lacks_if (skip_subscriber_data m) lacks-nothing (lacks-group _ refl)))
        (lacks_if (is_pur m) (lacks_text _ refl) lacks-nothing)

pub lacks-result : (code : ℕ) (s : Said) → found_in (tgpp code) (result_part s) ≡ none
unfolding result_part found_in
lacks-result code (number n) = refl
lacks-result code (result c) = refl
lacks-result code (experimental c) = refl
