-- "no answer is longer than 4,292": the law of sizes for each reply that a request comes to.
-- Assumes nothing.
use mathlib.Core.Path.{◌≡◌, refl}
use mathlib.Core.Bool.{Bool, true, false, cond, ◌&&◌}
use mathlib.Core.Option.{none, some}
use mathlib.Core.List.{List, [], ◌++◌}
use Prim.Native.Nat.{ℕ, ◌+◌, ◌%◌, ◌≤◌}
use native.Mathlib.Omega.{arith}
use lib.ListN.{length, length-append}
use lib.Dec.{leb, eqb}
use borrow.Author.Tests.{leb-true}
use Rattle.std.proofs.lemmas.Bool.{and_parts}
use Rattle.wire.specs.Number.{be}
use Rattle.wire.specs.Stretch.{name_bytes}
use Rattle.paper.specs.Avp.{head_size, padded, flags_for, vendor_field, as_received, written}
use Rattle.paper.specs.Layout.{longest_answer}
use Rattle.paper.specs.Profile.{Key, bandwidth_downlink, bandwidth_uplink, subscription_data, ula_flags, subscriber_status, access_restriction_data, ambr, pua_flags}
use Rattle.paper.specs.Request.{Refusal, is_name, refusal}
use Rattle.paper.specs.Procedures.{is_ulr, is_pur, skip_subscriber_data, Done}
use Rattle.paper.specs.Answer as Answer
use Rattle.paper.specs.Answer.{item, number_item, restriction_item, subscription_of, subscription_item, failed_item, Reply, reply_avps, answer, result_item}
use Rattle.paper.specs.Outcome.{refusal_reply, experimental_reply, success_items, success_reply}
use Rattle.paper.proofs.AvpLaws.{head_size-most}
use Rattle.paper.proofs.AvpsLaws.{cond_cases}
use Rattle.paper.proofs.OptionLaws.{holds_of}
use Rattle.paper.proofs.AnswerParts.{item-fours, fours-add, reply_fours, length-base-item, length-number, length-result, length-result-base, echo_size, length_reply, length-answer}
use Rattle.paper.proofs.EchoSizes.{echo-fits}
use Rattle.paper.proofs.RefusalSizes.{Bounded, refusal_bounded}
use Rattle.paper.proofs.UlrSizes.{ulr-echo-fits}

-- ---- no answer is longer than 4,292

-- "P Subscription-Data with restrictions takes 88 bytes, without 72"
subscription_takes : (restriction uplink downlink : ℕ) → length (subscription_of restriction uplink downlink) ≤ 88
unfolding subscription_of restriction_item written as_received vendor_field padded head_size flags_for
subscription_takes restriction uplink downlink = go (eqb restriction 0)
  where
    go : (b : Bool)
        → length (item subscription_data (number_item subscriber_status 0 ++ (cond b [] (number_item access_restriction_data restriction) ++ item ambr (number_item bandwidth_uplink uplink ++ number_item bandwidth_downlink downlink))))
        ≤ 88
    go true = omega arith
    go false = omega arith

record_takes : (r : List ℕ) → length (subscription_item r) ≤ 88
record_takes r = subscription_takes _ _ _

number_takes : (k : Key) (n : ℕ) → length (number_item k n) ≤ 16
number_takes k n = let h = head_size-most (flags_for k.vendor true) in rw (length-number k n) (omega arith)

-- the AVPs of a success
ulr_items : (m r : List ℕ) → length (number_item ula_flags 1 ++ cond (skip_subscriber_data m) [] (subscription_item r)) ≤ 104
ulr_items m r =
    let u = number_takes ula_flags 1 in
    let s = record_takes r in
    cond_cases (λ x. length (number_item ula_flags 1 ++ x) ≤ 104) (skip_subscriber_data m) {x = []} {y = subscription_item r} (λ e. rw length-append (omega arith)) (λ e. rw length-append (omega arith))

pur_items : (m : List ℕ) (n : ℕ) → length (cond (is_pur m) (number_item pua_flags n) []) ≤ 16
pur_items m n = cond_cases (λ x. length x ≤ 16) (is_pur m) {x = number_item pua_flags n} {y = []} (λ e. number_takes pua_flags n) (λ e. omega arith)

success-fours : (m r : List ℕ) (d : Done) → length (success_items m r d) % 4 ≡ 0
unfolding success_items subscription_of
success-fours m r d =
    cond_cases (λ x. length x % 4 ≡ 0) (is_ulr m) {x = number_item ula_flags 1 ++ cond (skip_subscriber_data m) [] (subscription_item r)} {y = cond (is_pur m) (number_item pua_flags d.purges) []}
    (λ e. rw length-append (fours-add (length (number_item ula_flags 1)) _ (item-fours ula_flags (be 4 1)) (if_fours (skip_subscriber_data m) [] (subscription_item r) refl (item-fours subscription_data _))))
    (λ e. if_fours (is_pur m) (number_item pua_flags d.purges) [] (item-fours pua_flags (be 4 d.purges)) refl)
  where
    if_fours : (b : Bool) (x y : List ℕ) → length x % 4 ≡ 0 → length y % 4 ≡ 0 → length (cond b x y) % 4 ≡ 0
    if_fours true x y p q = p
    if_fours false x y p q = q

-- an own name, and it as an AVP
pub name-most : (x : List ℕ) → is_name x ≡ true → length x ≤ 64
unfolding is_name
name-most x e =
    leb-true (length x) 64 (and_parts (leb 1 (length x)) (leb (length x) 64) (and_parts (leb 1 (length x) && leb (length x) 64) (name_bytes x) e).0).1

name_takes : (code : ℕ) (x : List ℕ) → is_name x ≡ true → length (item (record { vendor = 0; code = code }) x) ≤ 72
unfolding padded
name_takes code x e = let most = name-most x e in rw (length-base-item code x) (omega arith)

module _ (m host realm : List ℕ) (h : 20 ≤ length m) (k : length m ≤ 4096) (named : is_name host ≡ true) (ruled : is_name realm ≡ true) where
  -- whatever the reply: what every answer has, and what this one adds
  reply_bound : (y : Reply) → length (result_item y.verdict) + (length (failed_item y.failed) + length y.extra + cond y.echo (echo_size m) 0) ≤ 4116
      → length (answer m host realm y) ≤ longest_answer
  reply_bound y b =
      let n = length-answer m host realm y h in
      let l = length_reply m host realm y in
      let x = name_takes 264 host named in
      let z = name_takes 296 realm ruled in
      omega arith

  pub refusal-bound : (x : Refusal) → refusal m ≡ some x → length (answer m host realm (refusal_reply x)) ≤ longest_answer
  unfolding refusal_reply
  refusal-bound x e =
      let b = holds_of (Bounded m) e (refusal_bounded m h) in
      let r = length-result-base x.code in
      reply_bound (refusal_reply x) (omega arith)

  pub experimental-bound : (code : ℕ) → length (answer m host realm (experimental_reply code)) ≤ longest_answer
  unfolding experimental_reply failed_item
  experimental-bound code =
      let r = length-result (Answer.experimental code) in
      let e = echo-fits m h in
      reply_bound (experimental_reply code) (omega arith)

  -- what a success adds beside the request's own parts
  success_adds : refusal m ≡ none → (r : List ℕ) (d : Done) → length (success_items m r d) + echo_size m ≤ 4104
  unfolding success_items
  success_adds n r d =
      let e = echo-fits m h in
      let v = ulr_items m r in
      let w = pur_items m d.purges in
      cond_cases (λ x. length x + echo_size m ≤ 4104) (is_ulr m) {x = number_item ula_flags 1 ++ cond (skip_subscriber_data m) [] (subscription_item r)} {y = cond (is_pur m) (number_item pua_flags d.purges) []}
      (λ u. let f = ulr-echo-fits m h u n in omega arith) (λ u. omega arith)

  pub success-bound : refusal m ≡ none → (r : List ℕ) (d : Done) → length (answer m host realm (success_reply m r d)) ≤ longest_answer
  unfolding success_reply failed_item
  success-bound n r d =
      let a = success_adds n r d in
      let b = length-result-base 2001 in
      reply_bound (success_reply m r d) (omega arith)

-- ---- the replies that a request comes to

pub data ReplyTo (m : List ℕ) : Reply → Type 0 where
  refused : (x : Refusal) → refusal m ≡ some x → ReplyTo m (refusal_reply x)
  experimental : (code : ℕ) → refusal m ≡ none → ReplyTo m (experimental_reply code)
  success : (r : List ℕ) (d : Done) → refusal m ≡ none → ReplyTo m (success_reply m r d)

-- "no answer is longer than 4,292"
pub answer-bound : (m host realm : List ℕ) → 20 ≤ length m → length m ≤ 4096 → is_name host ≡ true → is_name realm ≡ true
    → {y : Reply} → ReplyTo m y → length (answer m host realm y) ≤ longest_answer
answer-bound m host realm h k a b (refused x e) = refusal-bound m host realm h k a b x e
answer-bound m host realm h k a b (experimental code e) = experimental-bound m host realm h k a b code
answer-bound m host realm h k a b (success r d e) = success-bound m host realm h k a b e r d

-- the AVPs of a success are made of fours
extra-fours : (m : List ℕ) {y : Reply} → ReplyTo m y → length y.extra % 4 ≡ 0
unfolding refusal_reply experimental_reply success_reply
extra-fours m (refused x e) = refl
extra-fours m (experimental code e) = refl
extra-fours m (success r d e) = success-fours m r d

pub answer-fours : (m host realm : List ℕ) {y : Reply} → ReplyTo m y → length (reply_avps m host realm y) % 4 ≡ 0
answer-fours m host realm {y} t = reply_fours m host realm y (extra-fours m t)
