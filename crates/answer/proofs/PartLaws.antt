-- Laws of the parts that do not come from the request: sizes of numbers and headers, groups by their parts, verdicts and the AVPs of a success by their cases.
-- Assumes nothing.
use mathlib.Core.Path.{◌≡◌, refl, sym, ap, ◌∙◌}
use mathlib.Core.Bool.{Bool, true, false, cond}
use mathlib.Core.List.{List, [], ◌++◌, append-nil}
use Prim.Native.Nat.{ℕ, ◌+◌, ◌-◌, ◌%◌, ◌≤◌}
use native.Mathlib.Omega.{arith}
use lib.ListN.{length, length-append}
use lib.Dec.{eqb}
use Rattle.std.specs.Prelude.{Option, Some, None}
use borrow.Author.Tests.{eq-eqb, ne_eqb}
use Rattle.wire.specs.Number.{be}
use Rattle.wire.specs.Put.{Wrote}
use Rattle.wire.proofs.PutLaws.{wrote_then, wrote_under, wrote-same}
use Rattle.paper.specs.Avp.{head_size, padded, flags_for, vendor_field, as_received, written}
use Rattle.paper.specs.Profile.{Key, auth_session_state, origin_host, origin_realm, result_code, access_restriction_data, subscription_data, subscriber_status, ula_flags, pua_flags}
use Rattle.paper.specs.Answer.{item, number_item, result_item, restriction_item, subscription_of}
use Rattle.paper.specs.Shown.{verdict_of, subscription_in, extra_of}
use Rattle.paper.specs.declared.ResultCode.{ResultCode}
use Rattle.paper.specs.declared.ExperimentalCode.{ExperimentalCode}
use Rattle.paper.specs.declared.Verdict.{Verdict}
use Rattle.paper.specs.declared.Verdict.TheVariants.{Base, Experimental}
use Rattle.paper.specs.declared.Extra.{Extra}
use Rattle.paper.specs.declared.Extra.TheVariants.{Ula, Pua}
use Rattle.paper.specs.declared.Subscription.{Subscription}
use Rattle.paper.proofs.AvpLaws.{padded-least}
use Rattle.paper.proofs.AnswerParts.{item-fours, fours-add, length-number}
use Rattle.paper.proofs.WrittenLaws.{length_head}
use Rattle.avp.specs.Written.{group_head}
use Rattle.avp.proofs.WriteLaws.{head_size_for, length-written, group_parts}
use Rattle.answer.specs.Parts.{own_items, ambr_item, ula_items}

-- ---- sizes

-- a number takes 12 bytes, with a vendor 16
pub number-base : (code v : ℕ) → length (written 0 code true (be 4 v)) ≡ 12
unfolding padded
number-base code v = length-written 0 code true (be 4 v)

pub number_3gpp : (code v : ℕ) → length (written 10415 code true (be 4 v)) ≡ 16
unfolding padded
number_3gpp code v = length-written 10415 code true (be 4 v)

pub number_size : (vendor code v : ℕ) → length (written vendor code true (be 4 v)) ≡ head_size (flags_for vendor true) + 4
number_size vendor code v = length-number (record { vendor = vendor; code = code }) v

-- a group's header
group_head-size : (vendor code n : ℕ) → length (group_head vendor code n) ≡ cond (eqb vendor 0) 8 12
group_head-size vendor code n = length_head code (flags_for vendor true) vendor n ∙ head_size_for vendor true

pub head_base : (code n : ℕ) → length (group_head 0 code n) ≡ 8
head_base code n = group_head-size 0 code n

pub head_3gpp : (code n : ℕ) → length (group_head 10415 code n) ≡ 12
head_3gpp code n = group_head-size 10415 code n

pub head_most : (vendor code n : ℕ) → length (group_head vendor code n) ≤ 12
head_most vendor code n = rw (group_head-size vendor code n) (go (eqb vendor 0))
  where
    go : (b : Bool) → cond b 8 12 ≤ 12
    go true = omega arith
    go false = omega arith

pub empty_most : (vendor code : ℕ) → length (written vendor code true []) ≤ 12
unfolding padded
empty_most vendor code = rw (length-written vendor code true []) (go (eqb vendor 0))
  where
    go : (b : Bool) → cond b 8 12 + 0 ≤ 12
    go true = omega arith
    go false = omega arith

-- ---- groups

pub pair-fours : (x y : Key) (a b : ℕ) → length (number_item x a ++ number_item y b) % 4 ≡ 0
pair-fours x y a b = rw (length-append (number_item x a) (number_item y b)) (fours-add _ _ (item-fours x (be 4 a)) (item-fours y (be 4 b)))

-- a group of two numbers, header first
pub wrote_pair : (g x y : Key) (a b n : ℕ) {l l₁ l₂ l₃ : List ℕ} {at p q r : ℕ} → n ≡ length (number_item x a ++ number_item y b) → at ≤ length l → p ≤ length l₁
    → Wrote l at (group_head g.vendor g.code n) l₁ p → Wrote l₁ p (number_item x a) l₂ q → Wrote l₂ q (number_item y b) l₃ r
    → Wrote l at (item g (number_item x a ++ number_item y b)) l₃ r
wrote_pair g x y a b n e h k w u v =
    wrote-same (group_parts g.vendor g.code (number_item x a ++ number_item y b) (pair-fours x y a b))
    (wrote_then h (wrote-same (ap (group_head g.vendor g.code) e) w) (wrote_then k u v))

-- a group whose header is written behind its parts
pub wrote_closed : (g : Key) (d : List ℕ) {l l₁ l₂ : List ℕ} {at start end q : ℕ} → length d % 4 ≡ 0 → start ≡ at + cond (eqb g.vendor 0) 8 12 → start ≤ length l
    → Wrote l start d l₁ end → Wrote l₁ at (group_head g.vendor g.code (end - start)) l₂ q → Wrote l at (item g d) l₂ end
wrote_closed g d {l} {l₁} {l₂} {at} {start} {end} {q} f e h w u =
    let n : end - start ≡ length d = let x = w.next in omega arith in
    let s : start ≡ at + length (group_head g.vendor g.code (length d)) = e ∙ ap (λ (k : ℕ). at + k) (sym (group_head-size g.vendor g.code (length d))) in
    wrote-same (group_parts g.vendor g.code d f) (wrote_under (rw s at h) (rw s at w) (wrote-same (ap (group_head g.vendor g.code) n) u))

-- ---- verdicts

pub result-base : {v : Verdict} {code : ResultCode} → v ≡ Base code → number_item result_code code.0 ≡ result_item (verdict_of v)
unfolding result_item
result-base e = rw e

pub result-experimental : {v : Verdict} {code : ExperimentalCode} → v ≡ Experimental code → result_item (verdict_of (Experimental code)) ≡ result_item (verdict_of v)
result-experimental e = rw e

-- ---- the AVPs of a success

pub no_restriction : {n : ℕ} → n ≡ 0 → [] ≡ restriction_item n
unfolding restriction_item
no_restriction {n} e = rw (eq-eqb n 0 e)

pub some_restriction : {n : ℕ} → (n ≡ 0 → ⊥) → number_item access_restriction_data n ≡ restriction_item n
unfolding restriction_item
some_restriction {n} e = rw (ne_eqb n 0 e)

pub restriction_most : (n : ℕ) → length (restriction_item n) ≤ 16
unfolding restriction_item
restriction_most n = go (eqb n 0)
  where
    go : (b : Bool) → length (cond b [] (number_item access_restriction_data n)) ≤ 16
    go true = omega arith
    go false = rw (number_3gpp 1426 n) (omega arith)

restriction_fours : (n : ℕ) → length (restriction_item n) % 4 ≡ 0
unfolding restriction_item
restriction_fours n = go (eqb n 0)
  where
    go : (b : Bool) → length (cond b [] (number_item access_restriction_data n)) % 4 ≡ 0
    go true = refl
    go false = item-fours access_restriction_data (be 4 n)

pub length-ambr : (uplink downlink : ℕ) → length (ambr_item uplink downlink) ≡ 44
unfolding written as_received vendor_field padded head_size flags_for
length-ambr uplink downlink = refl

-- what Subscription-Data holds
abbrev pub subscription_parts : ℕ → ℕ → ℕ → List ℕ
subscription_parts restriction uplink downlink = number_item subscriber_status 0 ++ (restriction_item restriction ++ ambr_item uplink downlink)

pub subscription-fours : (restriction uplink downlink : ℕ) → length (subscription_parts restriction uplink downlink) % 4 ≡ 0
subscription-fours restriction uplink downlink =
    simp length-append (fours-add _ _ (item-fours subscriber_status (be 4 0)) (fours-add _ _ (restriction_fours restriction) (rw (length-ambr uplink downlink) refl)))

pub subscription-item : (restriction uplink downlink : ℕ) → item subscription_data (subscription_parts restriction uplink downlink) ≡ subscription_of restriction uplink downlink
unfolding subscription_of
subscription-item restriction uplink downlink = refl

-- "without 72"
pub subscription-least : (restriction uplink downlink : ℕ) → 72 ≤ length (subscription_of restriction uplink downlink)
unfolding subscription_of
subscription-least restriction uplink downlink =
    let d = subscription_parts restriction uplink downlink in
    let n : 60 ≤ length d = simp (length-append, number_3gpp, length-ambr) (omega arith) in
    rw (length-written 10415 1400 true d) (let p = padded-least (length d) in omega arith)

pub extra-nothing : {x : Option Extra} → x ≡ None → [] ≡ extra_of x
unfolding extra_of
extra-nothing e = rw e

pub extra_ula : {x : Option Extra} {y : Extra} {o : Option Subscription} → x ≡ Some y → y ≡ Ula o → ula_items o ≡ extra_of x
unfolding extra_of
extra_ula e f = rw (e, f)

pub extra_pua : {x : Option Extra} {y : Extra} {flags : ℕ} → x ≡ Some y → y ≡ Pua flags → number_item pua_flags flags ≡ extra_of x
unfolding extra_of
extra_pua e f = rw (e, f)

pub length_ula : (o : Option Subscription) → length (ula_items o) ≡ 16 + length (subscription_in o)
length_ula o = rw (length-append (number_item ula_flags 1), number_3gpp 1406 1)

pub ula_skipped : {o : Option Subscription} → o ≡ None → number_item ula_flags 1 ≡ ula_items o
ula_skipped e = rw e (sym (append-nil (number_item ula_flags 1)))

module _ {o : Option Subscription} {s : Subscription} (e : o ≡ Some s) where
  pub ula_whole : number_item ula_flags 1 ++ subscription_in (Some s) ≡ ula_items o
  ula_whole = rw e

  pub ula_room : 88 ≤ length (ula_items o)
  ula_room = let l = subscription-least s.restriction s.uplink s.downlink in rw (e, length_ula) (omega arith)

-- ---- sizes of pairs

pub pair_base : (x y a b : ℕ) → 24 ≡ length (written 0 x true (be 4 a) ++ written 0 y true (be 4 b))
pair_base x y a b = sym (length-append (written 0 x true (be 4 a)) (written 0 y true (be 4 b)) ∙ rw (number-base x a, number-base y b))

pub pair_3gpp : (x y a b : ℕ) → 32 ≡ length (written 10415 x true (be 4 a) ++ written 10415 y true (be 4 b))
pair_3gpp x y a b = sym (length-append (written 10415 x true (be 4 a)) (written 10415 y true (be 4 b)) ∙ rw (number_3gpp x a, number_3gpp y b))

-- ---- the own AVPs

pub length-own : (host realm : List ℕ) → length (own_items host realm) ≡ 12 + ((8 + padded (length host)) + (8 + padded (length realm)))
length-own host realm =
    length-append (number_item auth_session_state 1) (item origin_host host ++ item origin_realm realm)
    ∙ rw (number-base 277 1, length-append (item origin_host host) (item origin_realm realm), length-written 0 264 true host, length-written 0 296 true realm)
