-- The bytes that the writers put, in the paper's words.
-- Assumes nothing.
use Rattle.std.specs.Prelude.{Bool, cond, ◌&&◌, List, [], ◌∷◌, ◌++◌, ℕ, eqb}
use Rattle.std.specs.Prelude.{Option}
use Rattle.std.proofs.Math.Option as Math
use Rattle.std.proofs.Math.Option.{none, some}
use Rattle.wire.specs.Number.{be}
use Rattle.wire.specs.Put.{part}
use Rattle.paper.specs.Avp.{Avp, as_received}
use Rattle.paper.specs.Profile.{session_id, proxy_info, auth_session_state, origin_host, origin_realm, ambr, bandwidth_uplink, bandwidth_downlink, ula_flags}
use Rattle.paper.specs.Request.{avps_of, find}
use Rattle.paper.specs.Answer.{item, number_item, echoed, each_of}
use Rattle.paper.specs.Shown.{subscription_in}
use Rattle.paper.specs.declared.Subscription.{Subscription}
use Rattle.avp.specs.Found.{data_of}
use Rattle.avp.specs.declared.cursor.Avp.{Avp as Read}

-- what the answer has of the request's own AVPs
abbrev pub session_echo : List ℕ → Bool → List ℕ
session_echo m echo = cond echo (echoed session_id (find session_id (avps_of m))) []

abbrev pub proxy_echo : List ℕ → Bool → List ℕ
proxy_echo m echo = cond echo (each_of proxy_info (avps_of m)) []

-- one AVP of the request, if it is a Proxy-Info
unfoldable pub copied : List ℕ → Read → List ℕ
copied s a = cond (eqb a.vendor 0 && eqb a.code proxy_info.code) (item proxy_info (data_of s a)) []

-- "Auth-Session-State 1; Origin-Host; Origin-Realm"
abbrev pub own_items : List ℕ → List ℕ → List ℕ
own_items host realm = number_item auth_session_state 1 ++ (item origin_host host ++ item origin_realm realm)

-- "AMBR (uplink, downlink)"
abbrev pub ambr_item : ℕ → ℕ → List ℕ
ambr_item uplink downlink = item ambr (number_item bandwidth_uplink uplink ++ number_item bandwidth_downlink downlink)

-- "ULA-Flags 1, and Subscription-Data unless skipped"
abbrev pub ula_items : Option Subscription → List ℕ
ula_items subscription = number_item ula_flags 1 ++ subscription_in subscription

-- what Failed-AVP holds
unfoldable pub shown_bytes : Math.Option Avp → List ℕ
shown_bytes none = []
shown_bytes (some a) = as_received a

-- the header of an answer of `n` bytes
unfoldable pub header_bytes : ℕ → ℕ → List ℕ → List ℕ
header_bytes n flags m = 1 ∷ (be 3 n ++ (flags ∷ part 5 15 m))
