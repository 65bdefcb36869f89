-- AVPs looked for in a list: the first of a key, and the first that is a second of a key of a given set.
-- Assumes nothing.
use Rattle.std.specs.Prelude.{Bool, false, cond, ◌&&◌, ◌||◌, List, [], ◌∷◌, ℕ, drop, eqb}
use Rattle.std.proofs.Math.Option.{Option, none, some}
use Rattle.dictionary.specs.Rows.{key_of}
use Rattle.paper.specs.Avp.{Avp}
use Rattle.paper.specs.Layout.{message_header}
use Rattle.paper.specs.Profile as Profile
use Rattle.paper.specs.Reader.{Placed, Avps, whole, broken, more, avps}

-- "An AVP's key is (vendor, code)"
unfoldable pub has_key : ℕ → ℕ → Avp → Bool
has_key vendor code a = eqb a.vendor vendor && eqb a.code code

-- the first AVP of the key, as far as the stretch can be read
unfoldable pub first_of : ℕ → ℕ → Avps → Option Placed
first_of vendor code whole = none
first_of vendor code (broken p) = none
first_of vendor code (more p rest) = cond (has_key vendor code p.avp) (some p) (first_of vendor code rest)

-- the data of an AVP that was found, and no bytes where there is none
abbrev pub body_found : Option Placed → List ℕ
body_found none = []
body_found (some p) = p.avp.body

unfoldable pub member : ℕ → List ℕ → Bool
member k [] = false
member k (x ∷ xs) = eqb k x || member k xs

-- "second of an AVP that the command uses [..]; the first in message order": `keys` is the set, `met` those of it that were met before
unfoldable pub first_second : List ℕ → List ℕ → Avps → Option Placed
first_second keys met whole = none
first_second keys met (broken p) = none
first_second keys met (more p rest) =
    cond (member (key_of p.avp.vendor p.avp.code) keys)
    (cond (member (key_of p.avp.vendor p.avp.code) met) (some p) (first_second keys (key_of p.avp.vendor p.avp.code ∷ met) rest))
    (first_second keys met rest)

-- "Origin-Host, once found, is handed on as that stretch of the request itself": its data in the message `m`, whose AVPs start behind the header
unfoldable pub origin_host : List ℕ → List ℕ
origin_host m = body_found (first_of (Profile.origin_host).vendor (Profile.origin_host).code (avps message_header (drop message_header m)))
