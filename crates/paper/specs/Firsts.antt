-- Promise: what Failed-AVP shows is "the first". Which AVPs of a request are seconds, faults of the visit, or unknown with M, as relations on its bytes;
-- how the first of them is looked for is not mentioned. Assumes nothing.
use Rattle.std.specs.Prelude.{◌≡◌, ◌≢◌, true, List, ℕ, suc, ◌<◌, ◌≤◌, length, drop}
use Rattle.std.proofs.Math.Option.{Option, some}
use Rattle.wire.specs.Number.{num_at}
use Rattle.dictionary.specs.declared.Kind.{Kind}
use Rattle.dictionary.specs.declared.Kind.TheVariants.{Four, Eight, Group, Unknown}
use Rattle.dictionary.specs.Rows as Rows
use Rattle.paper.specs.Avp.{bit}
use Rattle.paper.specs.Reader.{Placed, Avps, broken, more, avps, body_at}
use Rattle.paper.specs.Profile.{key}
use Rattle.paper.specs.Request.{has}
use Rattle.paper.specs.Refusals.{used_said}

-- What was found is the first of those that `Is` speaks of: it is one of them, and where there is one, one was found that stands no later.
pub record IsFirst {A : Type 0} (place : A → ℕ) (Is : A → Type 0) (found : Option A) : Type 0 where
  pub is : (x : A) → found ≡ some x → Is x
  pub first : (y : A) → Is y → (x : A) × (found ≡ some x) × (place x ≤ place y)

-- ---- lists of AVPs

-- the AVP is one of the list
pub data Among : Avps → Placed → Type 0 where
  here : {p : Placed} {rest : Avps} → Among (more p rest) p
  behind : {p q : Placed} {rest : Avps} → Among rest p → Among (more q rest) p

-- the list breaks off at what stands there
pub data BreaksAt : Avps → Placed → Type 0 where
  at_once : {p : Placed} → BreaksAt (broken p) p
  later_on : {p q : Placed} {rest : Avps} → BreaksAt rest p → BreaksAt (more q rest) p

-- "An AVP's key is (vendor, code)": one of the list with this key
pub record Keyed (l : Avps) (vendor code : ℕ) (p : Placed) : Type 0 where
  pub there : Among l p
  pub of_vendor : p.avp.vendor ≡ vendor
  pub of_code : p.avp.code ≡ code

-- the first of the key
pub record Leads (l : Avps) (vendor code : ℕ) (p : Placed) : Type 0 where
  pub one : Keyed l vendor code p
  pub first : (q : Placed) → Keyed l vendor code q → p.at ≤ q.at

-- a second of the key: another stands before it
pub record Second (l : Avps) (vendor code : ℕ) (p : Placed) : Type 0 where
  pub one : Keyed l vendor code p
  pub other : Placed
  pub another : Keyed l vendor code other
  pub before : other.at < p.at

-- the AVPs of the message, behind its header of 20 bytes, and those inside an AVP
abbrev pub top_of : List ℕ → Avps
top_of m = avps 20 (drop 20 m)

abbrev pub inside_of : Placed → Avps
inside_of g = avps (body_at g) g.avp.body

-- ---- 5009: "second of an AVP that the command uses, Proxy-Info excepted; the first in message order"

-- the rows of 01's sentences say that the command uses the AVP
abbrev pub Used : List ℕ → ℕ → ℕ → Type 0
Used m vendor code = has (key vendor code) (used_said (num_at 3 m 5)) ≡ true

-- Terminal-Information is (10415, 1401), IMEI (10415, 1402): "IMEI directly in Terminal-Information", the first one
pub data Repeats (m : List ℕ) (p : Placed) : Type 0 where
  of_command : {vendor code : ℕ} → Used m vendor code → Second (top_of m) vendor code p → Repeats m p
  of_terminal : {g : Placed} → Used m 10415 1401 → Leads (top_of m) 10415 1401 g → Second (inside_of g) 10415 1402 p → Repeats m p

-- ---- the visit

-- what the dictionary says of an AVP's key
abbrev pub kind_at : Placed → Kind
kind_at p = Rows.kind_of p.avp.vendor p.avp.code

-- `Visits m d l`: the visit of the message reads the list `l`, inside `d` groups. "Groups of the dictionary are entered", up to eight one in another.
pub data Visits (m : List ℕ) : ℕ → Avps → Type 0 where
  top : Visits m 0 (top_of m)
  within : {d : ℕ} {l : Avps} {g : Placed} → Visits m d l → Among l g → kind_at g ≡ Group → d < 8 → Visits m (suc d) (inside_of g)

-- `Faults m code at to`: a fault of the visit with this Result-Code stands at `at`, and what encloses it ends at `to`
pub data Faults (m : List ℕ) : ℕ → ℕ → ℕ → Type 0 where
  -- "wrong length": no AVP that lies inside what encloses it
  no_avp : {d : ℕ} {l : Avps} {p : Placed} → Visits m d l → BreaksAt l p → Faults m 5014 p.at p.end
  -- "or data size": "Unsigned32, Integer32, Enumerated and Time carry 4 bytes; 64-bit types 8"
  not_four : {d : ℕ} {l : Avps} {p : Placed} → Visits m d l → Among l p → kind_at p ≡ Four → length p.avp.body ≢ 4 → Faults m 5014 p.at p.end
  not_eight : {d : ℕ} {l : Avps} {p : Placed} → Visits m d l → Among l p → kind_at p ≡ Eight → length p.avp.body ≢ 8 → Faults m 5014 p.at p.end
  -- "an entered group, its length right, inside eight others"
  too_deep : {l : Avps} {p : Placed} → Visits m 8 l → Among l p → kind_at p ≡ Group → Faults m 5004 p.at p.end

-- "5001 visited unknown AVP with M set": M is bit 6 of its flags
pub data Mandatory (m : List ℕ) (p : Placed) : Type 0 where
  unknown : {d : ℕ} {l : Avps} → Visits m d l → Among l p → kind_at p ≡ Unknown → bit 6 p.avp.flags ≡ true → Mandatory m p
