-- The parts of an answer: their lengths, all of them fours, and the answer's own length field.
-- Assumes nothing.
use mathlib.Core.Path.{◌≡◌, refl, sym, ◌∙◌}
use mathlib.Core.Bool.{Bool, true, false, cond}
use mathlib.Core.Option.{Option, none, some}
use mathlib.Core.List.{List, [], ◌++◌}
use Prim.Native.Nat.{ℕ, ◌+◌, ◌*◌, ◌/◌, ◌%◌, ◌^◌, ◌≤◌, ◌<◌}
use native.Mathlib.Omega.{arith}
use lib.ListN.{length, length-append}
use Rattle.wire.specs.Number.{be}
use Rattle.wire.proofs.ListLaws.{length_part}
use Rattle.wire.proofs.NumberLaws.{num_at-be, num_at-drop}
use Rattle.paper.specs.Avp.{Avp, has_v, head_size, padded, flags_for, as_received, written, vendor_field, size_of}
use Rattle.paper.specs.Reader.{Placed, Avps, whole, broken, more}
use Rattle.paper.specs.Find.{has_key}
use Rattle.paper.specs.Profile.{Key, session_id, origin_host, origin_realm, auth_session_state, failed_avp, proxy_info}
use Rattle.paper.specs.Request.{avps_of, find, message_length}
use Rattle.paper.specs.Answer.{item, number_item, Verdict, base, experimental, result_item, echoed, each_of, failed_item, Reply, reply_avps, message, answer}
use Rattle.paper.proofs.AvpLaws.{padded-fours, padded-whole}
use Rattle.paper.proofs.AvpsLaws.{cond_cases}
use Rattle.paper.proofs.WrittenLaws.{length_as_received}

-- ---- one AVP

-- with M or without
pub length-written : (vendor code : ℕ) (mandatory : Bool) (x : List ℕ) → length (written vendor code mandatory x) ≡ padded (head_size (flags_for vendor mandatory) + length x)
unfolding written
length-written vendor code mandatory x = length_as_received (record { code = code; flags = flags_for vendor mandatory; vendor = vendor; body = x })

written-fours : (vendor code : ℕ) (mandatory : Bool) (x : List ℕ) → length (written vendor code mandatory x) % 4 ≡ 0
written-fours vendor code mandatory x = rw (length-written vendor code mandatory x) (padded-fours (head_size (flags_for vendor mandatory) + length x))

pub length-item : (k : Key) (x : List ℕ) → length (item k x) ≡ padded (head_size (flags_for k.vendor true) + length x)
length-item k x = length-written k.vendor k.code true x

pub item-fours : (k : Key) (x : List ℕ) → length (item k x) % 4 ≡ 0
item-fours k x = written-fours k.vendor k.code true x

-- an AVP without a vendor
pub length-base : (code : ℕ) (mandatory : Bool) (x : List ℕ) → length (written 0 code mandatory x) ≡ padded (8 + length x)
unfolding head_size flags_for
length-base code true x = length-written 0 code true x
length-base code false x = length-written 0 code false x

pub length-base-item : (code : ℕ) (x : List ℕ) → length (item (record { vendor = 0; code = code }) x) ≡ padded (8 + length x)
length-base-item code x = length-base code true x

-- a number takes 12 bytes, with a vendor 16
pub length-number : (k : Key) (n : ℕ) → length (number_item k n) ≡ head_size (flags_for k.vendor true) + 4
unfolding head_size padded
length-number k n = length-item k (be 4 n) ∙ go (head_size (flags_for k.vendor true)) (head_size-fours (flags_for k.vendor true))
  where
    head_size-fours : (flags : ℕ) → head_size flags % 4 ≡ 0
    head_size-fours flags = cond_cases (λ n. n % 4 ≡ 0) (has_v flags) (λ e. refl) (λ e. refl)

    go : (h : ℕ) → h % 4 ≡ 0 → (h + 4 + 3) / 4 * 4 ≡ h + 4
    go h e = omega arith

-- ---- the parts

-- "P Experimental-Result takes 32 bytes"
pub length-result : (v : Verdict) → length (result_item v) ≤ 32
unfolding result_item written as_received vendor_field padded head_size flags_for
length-result (base code) = omega arith
length-result (experimental code) = omega arith

pub length-result-base : (code : ℕ) → length (result_item (base code)) ≡ 12
unfolding result_item written as_received vendor_field padded head_size flags_for
length-result-base code = refl

pub length_state : length (number_item auth_session_state 1) ≡ 12
unfolding written as_received vendor_field padded head_size flags_for
length_state = refl

pub length-failed : (a : Avp) → length (failed_item (some a)) ≡ 8 + size_of a
unfolding failed_item size_of
length-failed a =
    let n = head_size a.flags + length a.body in
    length-base-item 279 (as_received a) ∙ rw (length_as_received a) (eights (padded n) (padded-fours n))
  where
    eights : (k : ℕ) → k % 4 ≡ 0 → padded (8 + k) ≡ 8 + k
    eights k e = padded-whole (8 + k) (omega arith)

-- ---- fours

result-fours : (v : Verdict) → length (result_item v) % 4 ≡ 0
unfolding result_item
result-fours (base code) = item-fours _ (be 4 code)
result-fours (experimental code) = item-fours _ _

failed-fours : (o : Option Avp) → length (failed_item o) % 4 ≡ 0
unfolding failed_item
failed-fours none = refl
failed-fours (some a) = item-fours failed_avp (as_received a)

echoed-fours : (k : Key) (o : Option Placed) → length (echoed k o) % 4 ≡ 0
unfolding echoed
echoed-fours k none = refl
echoed-fours k (some p) = written-fours k.vendor k.code _ p.avp.body

each-fours : (k : Key) (l : Avps) → length (each_of k l) % 4 ≡ 0
unfolding each_of
each-fours k whole = refl
each-fours k (broken p) = refl
each-fours k (more p rest) =
    let r = each-fours k rest in
    let i = item-fours k p.avp.body in
    cond_cases (λ x. length x % 4 ≡ 0) (has_key k.vendor k.code p.avp) {x = item k p.avp.body ++ each_of k rest} {y = each_of k rest}
    (λ e. rw length-append (omega arith)) (λ e. r)

-- ---- the whole

-- what the request's own parts take
abbrev pub echo_size : List ℕ → ℕ
echo_size m = length (echoed session_id (find session_id (avps_of m))) + length (each_of proxy_info (avps_of m))

pub length_reply : (m host realm : List ℕ) (y : Reply)
    → length (reply_avps m host realm y)
    ≡ cond y.echo (echo_size m) 0 + (length (result_item y.verdict) + (12 + (length (item origin_host host) + (length (item origin_realm realm) + (length (failed_item y.failed) + length y.extra)))))
unfolding reply_avps
length_reply m host realm y =
    let s = length_state in
    rw (either_part y.echo (length (echoed session_id (find session_id (avps_of m)))) (length (each_of proxy_info (avps_of m)))) (simp (length-append, length_if) (omega arith))
  where
    length_if : (b : Bool) (x : List ℕ) → length (cond b x []) ≡ cond b (length x) 0
    length_if true x = refl
    length_if false x = refl

    either_part : (b : Bool) (x z : ℕ) → cond b (x + z) 0 ≡ cond b x 0 + cond b z 0
    either_part true x z = refl
    either_part false x z = refl

pub fours-add : (a b : ℕ) → a % 4 ≡ 0 → b % 4 ≡ 0 → (a + b) % 4 ≡ 0
fours-add a b h k = omega arith

-- every answer is made of fours
pub reply_fours : (m host realm : List ℕ) (y : Reply) → length y.extra % 4 ≡ 0 → length (reply_avps m host realm y) % 4 ≡ 0
reply_fours m host realm y e =
    let echo : cond y.echo (echo_size m) 0 % 4 ≡ 0 =
    cond_cases (λ n. n % 4 ≡ 0) y.echo (λ q. fours-add _ _ (echoed-fours session_id (find session_id (avps_of m))) (each-fours proxy_info (avps_of m))) (λ q. refl) in
    rw (length_reply m host realm y)
    (fours-add _ _ echo
    (fours-add _ _ (result-fours y.verdict)
    (fours-add 12 _ refl
    (fours-add _ _ (item-fours origin_host host)
    (fours-add _ _ (item-fours origin_realm realm)
    (fours-add _ _ (failed-fours y.failed) e))))))

module _ (m host realm : List ℕ) (y : Reply) (h : 20 ≤ length m) where
  pub length-answer : length (answer m host realm y) ≡ 20 + length (reply_avps m host realm y)
  unfolding answer message
  length-answer =
      let n = length_part 5 15 m (omega arith) in
      simp length-append (omega arith)

  -- "length field": the answer's own
  pub answer-length-field : length (answer m host realm y) < 256 ^ 3 → message_length (answer m host realm y) ≡ length (answer m host realm y)
  unfolding answer message
  answer-length-field b =
      sym (num_at-drop 3 1 (answer m host realm y) 0) ∙ num_at-be 3 (20 + length (reply_avps m host realm y)) _ (let n = length-answer in omega arith) ∙ sym length-answer
