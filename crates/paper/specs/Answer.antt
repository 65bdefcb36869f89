-- 01's section "The answer": its bytes, from the request, the own names and what the request came to.
-- Assumes nothing.
use Rattle.std.specs.Prelude.{Bool, true, false, cond, List, [], ◌∷◌, ◌++◌, ℕ, ◌+◌, ◌/◌, length, eqb}
use Rattle.std.proofs.Math.Option.{Option, none, some}
use Rattle.wire.specs.Number.{be, num_at}
use Rattle.wire.specs.Put.{part}
use Rattle.paper.specs.Avp.{Avp, written, as_received}
use Rattle.paper.specs.Reader.{Placed, Avps, whole, broken, more}
use Rattle.paper.specs.Find.{has_key}
use Rattle.paper.specs.Layout.{message_header, ambr_at}
use Rattle.paper.specs.Profile.{Key, vendor3gpp, session_id, origin_host, vendor_id, result_code, auth_session_state, failed_avp, proxy_info, origin_realm, experimental_result, experimental_result_code, bandwidth_downlink, bandwidth_uplink, subscription_data, subscriber_status, access_restriction_data, ambr}
use Rattle.paper.specs.Request.{is_proxiable, avps_of, find}
use Rattle.paper.specs.Procedures.{restriction_of}

-- "Flags of an answer's AVPs: M, and V for vendor 10415": one AVP of an answer
abbrev pub item : Key → List ℕ → List ℕ
item k x = written k.vendor k.code true x

abbrev pub number_item : Key → ℕ → List ℕ
number_item k n = item k (be 4 n)

-- ---- the parts, in 01's order

-- what the answer says: "Result-Code (success 2001) or Experimental-Result"
pub data Verdict : Type 0 where
  base : ℕ → Verdict
  experimental : ℕ → Verdict

unfoldable pub result_item : Verdict → List ℕ
result_item (base code) = number_item result_code code
result_item (experimental code) = item experimental_result (number_item vendor_id vendor3gpp ++ number_item experimental_result_code code)

-- "Session-Id (the first, if any)"
unfoldable pub echoed : Key → Option Placed → List ℕ
echoed k none = []
echoed k (some p) = item k p.avp.body

-- "each Proxy-Info in order, its data as received"
unfoldable pub each_of : Key → Avps → List ℕ
each_of k whole = []
each_of k (broken p) = []
each_of k (more p rest) = cond (has_key k.vendor k.code p.avp) (item k p.avp.body ++ each_of k rest) (each_of k rest)

-- "Failed-AVP holds the AVP itself, its data as received, padding after it zero"
unfoldable pub failed_item : Option Avp → List ℕ
failed_item none = []
failed_item (some a) = item failed_avp (as_received a)

-- "Subscription-Data: Subscriber-Status 0; Access-Restriction-Data if not 0; AMBR (uplink, downlink)."
unfoldable pub restriction_item : ℕ → List ℕ
restriction_item n = cond (eqb n 0) [] (number_item access_restriction_data n)

-- of the record's three numbers
unfoldable pub subscription_of : ℕ → ℕ → ℕ → List ℕ
subscription_of restriction uplink downlink =
    item subscription_data
    (number_item subscriber_status 0 ++ (restriction_item restriction ++ item ambr (number_item bandwidth_uplink uplink ++ number_item bandwidth_downlink downlink)))

abbrev pub subscription_item : List ℕ → List ℕ
subscription_item r = subscription_of (restriction_of r) (num_at 4 r ambr_at) (num_at 4 r (ambr_at + 4))

-- what an answer holds beside the request's own parts
pub record Reply : Type 0 where
  pub verdict : Verdict
  pub failed : Option Avp
  pub extra : List ℕ  -- the AVPs of a success
  pub echo : Bool  -- Session-Id and Proxy-Info: "After 5011, 5015, 3008 and faults of the visit no Session-Id and no Proxy-Info."

unfoldable pub reply_avps : List ℕ → List ℕ → List ℕ → Reply → List ℕ
reply_avps m host realm y =
    cond y.echo (echoed session_id (find session_id (avps_of m))) [] ++ (result_item y.verdict ++ (number_item auth_session_state 1 ++ (item origin_host host ++ (item origin_realm realm ++ (failed_item y.failed ++ (y.extra ++ cond y.echo (each_of proxy_info (avps_of m)) []))))))

-- ---- the header: "Version 1; R, E, T clear but E set for 3xxx; P, command, application and both identifiers as received."

unfoldable pub is_protocol_error : Verdict → Bool
is_protocol_error (base code) = eqb (code / 1000) 3
is_protocol_error (experimental code) = false

unfoldable pub reply_flags : List ℕ → Verdict → ℕ
reply_flags m v = cond (is_proxiable m) 64 0 + cond (is_protocol_error v) 32 0

-- a message: its flags, what stands behind them in the header (command, application, identifiers), and its AVPs
unfoldable pub message : ℕ → List ℕ → List ℕ → List ℕ
message flags rest body = 1 ∷ (be 3 (message_header + length body) ++ (flags ∷ (rest ++ body)))

unfoldable pub answer : List ℕ → List ℕ → List ℕ → Reply → List ℕ
answer m host realm y = message (reply_flags m y.verdict) (part 5 15 m) (reply_avps m host realm y)
