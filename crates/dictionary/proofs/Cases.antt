-- Lookups worked out, and what each kind means, as rows of two tables with one computed claim over both.
use mathlib.Core.Path.{◌≡◌, refl}
use mathlib.Core.Bool.{Bool, true, false, ◌&&◌, not}
use mathlib.Core.List.{List, [], ◌∷◌}
use lib.Dec.{eqb}
use Rattle.dictionary.specs.declared.Kind.{Kind}
use Rattle.dictionary.specs.declared.Kind.TheVariants.{Four, Eight, Any, Group, Closed, Unknown}
use Rattle.dictionary.specs.Kinds.{number_of, size_right}
use Rattle.dictionary.specs.declared.Row.{Row}
use Rattle.dictionary.specs.Rows.{row, rows, key_of, kind_with, kind_in, kind_of}

-- a vendor, a code and the kind that a lookup answers
lookups : List Row
lookups =
    row 0 1 Any ∷  -- User-Name, the first row
    row 10415 4324 Four ∷  -- Active-Time, the last row
    row 0 268 Four ∷  -- Result-Code, Unsigned32
    row 10415 1032 Four ∷  -- RAT-Type, Enumerated
    row 10415 1661 Four ∷  -- Event-Threshold-Event-1F, Integer32
    row 0 55 Four ∷  -- Event-Timestamp, Time
    row 10415 1700 Eight ∷  -- Broadcast-Location-Assistance-Data-Types, Unsigned64
    row 10415 1407 Any ∷  -- Visited-PLMN-Id, OctetString
    row 10415 1400 Group ∷  -- Subscription-Data
    row 10415 1401 Group ∷  -- Terminal-Information
    row 0 279 Closed ∷  -- Failed-AVP
    row 0 284 Closed ∷  -- Proxy-Info
    row 10416 1400 Unknown ∷  -- a vendor without a row
    row 10415 1451 Unknown ∷  -- a code without a row
    row 10415 4325 Unknown ∷  -- past the last row
    row 0 0 Unknown ∷  -- before the first row
    row 0 1400 Unknown ∷  -- vendor 0 with a code of vendor 10415
    row 10415 264 Unknown ∷  -- vendor 10415 with a code of vendor 0
    []

answered : List Row → Bool
answered [] = true
answered (r ∷ rs) = eqb (number_of (kind_of r.key.vendor r.key.code)) (number_of r.kind) && answered rs

-- a kind, and of an AVP of that kind: are 4, 8 or 5 bytes of data right
record Meaning : Type 0 where
  kind : Kind
  four : Bool
  eight : Bool
  five : Bool

abbrev means : Kind → Bool → Bool → Bool → Meaning
means k a b c = record { kind = k; four = a; eight = b; five = c }

meanings : List Meaning
meanings =
    means Four true false false ∷
    means Eight false true false ∷
    means Any true true true ∷
    means Group true true true ∷
    means Closed true true true ∷
    means Unknown true true true ∷
    []

alike : Bool → Bool → Bool
alike true b = b
alike false b = not b

meant : List Meaning → Bool
meant [] = true
meant (m ∷ ms) =
    alike (size_right m.kind 4) m.four &&
    alike (size_right m.kind 8) m.eight &&
    alike (size_right m.kind 5) m.five &&
    meant ms

all_cases : (answered lookups && meant meanings) ≡ true
unfolding answered lookups meant meanings alike kind_of kind_in kind_with key_of rows
all_cases = refl
