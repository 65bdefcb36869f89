-- The AVPs that the promise says an answer holds: their bytes are those that are written, and the dictionary knows them.
-- Assumes nothing.
use mathlib.Core.Path.{◌≡◌, refl, ap, ◌∙◌}
use mathlib.Core.Bool.{Bool, true, false, cond, not}
use mathlib.Core.Option.{Option, none, some}
use mathlib.Core.List.{List, [], ◌++◌, append-nil}
use Prim.Native.Nat.{ℕ, ◌+◌, ◌-◌, ◌≤◌}
use native.Mathlib.Omega.{arith}
use lib.Dec.{eqb}
use lib.ListN.{length}
use Rattle.wire.specs.Number.{be, num_at}
use Rattle.dictionary.specs.declared.Kind.{Kind}
use Rattle.dictionary.specs.declared.Kind.TheVariants.{Four, Any, Group, Closed}
use Rattle.dictionary.specs.Kinds.{size_right}
use Rattle.dictionary.specs.Rows.{kind_of, kind_in, kind_with, key_of, rows}
use Rattle.paper.specs.Avp.{Avp, Writable, as_received}
use Rattle.paper.specs.Reader.{Placed, Avps, whole, broken, more, most_groups}
use Rattle.paper.specs.Find.{has_key}
use Rattle.paper.specs.Profile.{Key, session_id, origin_host, vendor_id, result_code, auth_session_state, failed_avp, proxy_info, origin_realm, experimental_result, experimental_result_code, bandwidth_downlink, bandwidth_uplink, subscription_data, ula_flags, subscriber_status, access_restriction_data, ambr, pua_flags}
use Rattle.paper.specs.Table.{name_of, record_of}
use Rattle.paper.specs.Request.{avps_of, find}
use Rattle.paper.specs.Procedures.{same_name, is_ulr, is_pur, skip_subscriber_data, purges, purge_ue, carried_out}
use Rattle.paper.specs.Answer as Answer
use Rattle.paper.specs.Answer.{item, number_item, Verdict, result_item, echoed, each_of, failed_item, restriction_item, subscription_of, subscription_item, Reply, reply_avps}
use Rattle.paper.specs.Outcome.{success_items}
use Rattle.paper.specs.Refusals.{said_by}
use Rattle.paper.specs.ReadBack.{Held, no_more, a_number, a_text, a_group, ◌and_then◌, tells, result_part, first_part, each_part, unechoed, subscription_part, sets_bit, success_part, failed_by, failed_part, is_shown, holds}
use Rattle.paper.proofs.KindLaws.{leaf_kind, leaf-not-group, leaf-not-unknown}
use Rattle.paper.proofs.OptionLaws.{Holds}
use Rattle.paper.proofs.ReadBackAvps.{bytes_of, bytes_then, Fitting, Sound, sound_then}
use Rattle.paper.proofs.ReadBackPlaces.{with_failed, own_key, own_key_lem}
use Rattle.paper.proofs.ReadBackHeader.{told_by}

-- the frozen list opened, for lookups that antt computes
unfoldable dictionary : ℕ
unfolding kind_of kind_in kind_with key_of rows
dictionary = 0

-- the AVPs `h` are written as `x`, and the dictionary knows them; `left` groups may still be entered, one in another
pub record Made (left : ℕ) (h : Held) (x : List ℕ) : Type 0 where
  pub bytes : bytes_of h ≡ x
  pub sound : Sound left h

-- ---- of any AVPs

pub none_made : {left : ℕ} → Made left no_more []
unfolding bytes_of
none_made = record { bytes = refl; sound = tt }

-- one after another
both : {left : ℕ} {h g : Held} {x z : List ℕ} → Made left h x → Made left g z → Made left (h and_then g) (x ++ z)
both {left} {h} {g} p q = record { bytes = bytes_then h g ∙ rw (p.bytes, q.bytes); sound = sound_then left h g p.sound q.sound }

if_made : {left : ℕ} (b : Bool) {h g : Held} {x z : List ℕ} → Made left h x → Made left g z → Made left (cond b h g) (cond b x z)
if_made true p q = p
if_made false p q = q

unless_made : {left : ℕ} (b : Bool) {h : Held} {x : List ℕ} → Made left h x → Made left (cond b no_more h) (cond (not b) x [])
unless_made true p = none_made
unless_made false p = p

-- an AVP that is known and not entered
fitting : (kind : Kind) (k : Key) (x : List ℕ) → own_key k ≡ true → kind_of k.vendor k.code ≡ kind → leaf_kind kind ≡ true → size_right kind (length x) ≡ true → Fitting k x
fitting kind k x o e u s =
    record {
      kind = kind;
      key = record { own = own_key_lem k o; known = e };
      no_group = leaf-not-group kind u;
      no_stranger = leaf-not-unknown kind u;
      size = s;
    }

plain-made : {left : ℕ} (k : Key) (x : List ℕ) → Fitting k x → Made left (a_text k x) (item k x)
unfolding bytes_of
plain-made k x f = record { bytes = append-nil (item k x); sound = (f, tt) }

number-made : {left : ℕ} (k : Key) (n : ℕ) → own_key k ≡ true → kind_of k.vendor k.code ≡ Four → Made left (a_number k n) (number_item k n)
number-made k n o e = plain-made k (be 4 n) (fitting Four k (be 4 n) o e refl refl)

text_made : {left : ℕ} (k : Key) (x : List ℕ) → own_key k ≡ true → kind_of k.vendor k.code ≡ Any → Made left (a_text k x) (item k x)
text_made k x o e = plain-made k x (fitting Any k x o e refl refl)

group-made : {left : ℕ} (k : Key) {inner : Held} {x : List ℕ} → own_key k ≡ true → kind_of k.vendor k.code ≡ Group → 1 ≤ left → Made (left - 1) inner x → Made left (a_group k inner) (item k x)
unfolding bytes_of
group-made k {inner} o e b p =
    record { bytes = append-nil (item k (bytes_of inner)) ∙ ap (item k) p.bytes; sound = (record { own = own_key_lem k o; known = e }, (b, (p.sound, tt))) }

-- ---- the parts of an answer

session_made : (o : Option Placed) → Made most_groups (first_part session_id o) (echoed session_id o)
unfolding first_part echoed own_key dictionary
session_made none = none_made
session_made (some p) = text_made session_id p.avp.body refl refl

proxies_made : (l : Avps) → Made most_groups (each_part proxy_info l) (each_of proxy_info l)
unfolding each_part each_of own_key dictionary
proxies_made whole = none_made
proxies_made (broken p) = none_made
proxies_made (more p rest) = go (has_key 0 284 p.avp) (proxies_made rest)
  where
    own : Fitting proxy_info p.avp.body
    own = fitting Closed proxy_info p.avp.body refl refl refl refl

    go : (b : Bool) → Made most_groups (each_part proxy_info rest) (each_of proxy_info rest)
        → Made most_groups (cond b (a_text proxy_info p.avp.body) no_more and_then each_part proxy_info rest) (cond b (item proxy_info p.avp.body ++ each_of proxy_info rest) (each_of proxy_info rest))
    go true r = both (plain-made proxy_info p.avp.body own) r
    go false r = both none_made r

result-made : (v : Verdict) → Made most_groups (result_part (told_by v)) (result_item v)
unfolding result_part result_item said_by own_key dictionary
result-made (Answer.base code) = number-made result_code code refl refl
result-made (Answer.experimental code) =
    group-made experimental_result refl refl (omega arith) (both (number-made vendor_id 10415 refl refl) (number-made experimental_result_code code refl refl))

failed-made : (o : Option Avp) → Holds Writable o → Made most_groups (failed_part o) (failed_item o)
unfolding failed_part failed_item bytes_of own_key dictionary
failed-made none w = none_made
failed-made (some a) w = record { bytes = append-nil (item failed_avp (as_received a)); sound = (fitting Closed failed_avp (as_received a) refl refl refl refl, (w, tt)) }

subscription-made : (r : List ℕ) → Made most_groups (subscription_part r) (subscription_item r)
unfolding subscription_part subscription_of restriction_item own_key dictionary
subscription-made r =
    group-made subscription_data refl refl (omega arith)
    (both (number-made subscriber_status 0 refl refl)
    (both (if_made (eqb (num_at 4 r 24) 0) none_made (number-made access_restriction_data (num_at 4 r 24) refl refl))
    (group-made ambr refl refl (omega arith) (both (number-made bandwidth_uplink (num_at 4 r 196) refl refl) (number-made bandwidth_downlink (num_at 4 r 200) refl refl)))))

-- the purge bits that a PUR sets
pub purges_are : (m : List ℕ) (i : ℕ) (t : List ℕ) → is_ulr m ≡ false → is_pur m ≡ true
    → (carried_out m i t).purges ≡ cond (sets_bit 64 0 m (record_of t i)) 1 0 + cond (sets_bit 129 1 m (record_of t i)) 2 0
unfolding carried_out purge_ue purges same_name name_of
purges_are m i t u p = rw (u, p)

pub success-made : (m : List ℕ) (i : ℕ) (t : List ℕ) → Made most_groups (success_part m (record_of t i)) (success_items m (record_of t i) (carried_out m i t))
unfolding success_part success_items own_key dictionary
success-made m i t = go (is_ulr m) refl (is_pur m) refl
  where
    r : List ℕ
    r = record_of t i

    flags : ℕ
    flags = cond (sets_bit 64 0 m r) 1 0 + cond (sets_bit 129 1 m r) 2 0

    go : (u : Bool) → is_ulr m ≡ u → (p : Bool) → is_pur m ≡ p
        → Made most_groups (cond u (a_number ula_flags 1 and_then cond (skip_subscriber_data m) no_more (subscription_part r)) (cond p (a_number pua_flags flags) no_more))
        (cond u (number_item ula_flags 1 ++ cond (skip_subscriber_data m) [] (subscription_item r)) (cond p (number_item pua_flags (carried_out m i t).purges) []))
    go true e p f = both (number-made ula_flags 1 refl refl) (if_made (skip_subscriber_data m) none_made (subscription-made r))
    go false e true f = rw (purges_are m i t e f) (number-made pua_flags flags refl refl)
    go false e false f = none_made

-- ---- the whole

-- what the promise says of a reply
pub record Promised (m r : List ℕ) (y : Reply) : Type 0 where
  pub echo : y.echo ≡ not (unechoed m (told_by y.verdict))
  pub failed : y.failed ≡ failed_by m (told_by y.verdict)
  pub there : is_shown y.failed ≡ with_failed (told_by y.verdict)
  pub extra : Made most_groups (cond (tells 2001 (told_by y.verdict)) (success_part m r) no_more) y.extra

pub holds-made : (m host realm r : List ℕ) (y : Reply) → Promised m r y → Holds Writable (failed_by m (told_by y.verdict))
    → Made most_groups (holds m host realm r (told_by y.verdict)) (reply_avps m host realm y)
unfolding holds reply_avps own_key dictionary
holds-made m host realm r y p w =
    let s = told_by y.verdict in
    rw (p.echo, p.failed)
    (both (unless_made (unechoed m s) (session_made (find session_id (avps_of m))))
    (both (result-made y.verdict)
    (both (number-made auth_session_state 1 refl refl)
    (both (text_made origin_host host refl refl)
    (both (text_made origin_realm realm refl refl)
    (both (failed-made (failed_by m s) w)
    (both p.extra (unless_made (unechoed m s) (proxies_made (avps_of m))))))))))
