-- 01's section "The reader": the AVPs of a stretch, and what the visit makes of them over any dictionary and for any command.
-- Assumes nothing.
use Rattle.std.specs.Prelude.{Bool, true, false, cond, List, [], ◌∷◌, ◌++◌, ℕ, zero, suc, ◌+◌, length}
use Rattle.std.proofs.Math.Option.{Option, none, some}
use Rattle.dictionary.specs.declared.Kind.{Kind}
use Rattle.dictionary.specs.declared.Kind.TheVariants.{Four, Eight, Any, Group, Closed, Unknown}
use Rattle.dictionary.specs.Kinds.{size_right}
use Rattle.paper.specs.declared.Visit.{Visit}
use Rattle.paper.specs.declared.Visit.TheVariants.{Clean, Fault, Unsupported}
use Rattle.paper.specs.Avp.{Avp, has_m, head_size, padded, length_of, framed, after, avp_of, size_of, bare_of, Alike, alike_of}

-- ---- the AVPs of a stretch

-- an AVP and where it stands: its place from the start of the message, and the end of what encloses it
pub record Placed : Type 0 where
  pub at : ℕ
  pub end : ℕ
  pub avp : Avp

pub data Avps : Type 0 where
  whole : Avps  -- the stretch ends behind the last AVP: it "is filled exactly"
  broken : Placed → Avps  -- what stands here is no AVP that lies inside the stretch; its head alone
  more : Placed → Avps → Avps  -- an AVP, and those after it

unfoldable pub placed : ℕ → List ℕ → Placed
placed at s = record { at = at; end = at + length s; avp = avp_of s }

unfoldable pub stump : ℕ → List ℕ → Placed
stump at s = record { at = at; end = at + length s; avp = bare_of s }

-- reading one AVP after another, `n` at most
unfoldable pub read_up_to : ℕ → ℕ → List ℕ → Avps
read_up_to zero at s = whole
read_up_to (suc n) at [] = whole
read_up_to (suc n) at (b ∷ s) =
    cond (framed (b ∷ s)) (more (placed at (b ∷ s)) (read_up_to n (at + padded (length_of (b ∷ s))) (after (b ∷ s)))) (broken (stump at (b ∷ s)))

-- the AVPs of the stretch `s`, which stands at `at` of the message; no AVP is empty, so there are no more than it has bytes
unfoldable pub avps : ℕ → List ℕ → Avps
avps at s = read_up_to (length s) at s

-- the stretch "is filled exactly"
unfoldable pub unbroken : Avps → Bool
unbroken whole = true
unbroken (broken p) = false
unbroken (more p rest) = unbroken rest

-- the bytes that the AVPs of a list take together
unfoldable pub sizes : Avps → ℕ
sizes whole = 0
sizes (broken p) = 0
sizes (more p rest) = size_of p.avp + sizes rest

-- the AVPs of a list, written one after another
unfoldable pub written_all : (Avp → List ℕ) → Avps → List ℕ
written_all write whole = []
written_all write (broken p) = []
written_all write (more p rest) = write p.avp ++ written_all write rest

-- what makes the AVPs of a list the same as those of another
unfoldable pub alikes : Avps → List Alike
alikes whole = []
alikes (broken p) = []
alikes (more p rest) = alike_of p.avp ∷ alikes rest

-- ---- the view

-- a fault of the visit: its Result-Code, and the AVP's head
pub record Faulty : Type 0 where
  pub code : ℕ
  pub shown : Placed

-- the known AVPs in message order, an entered group with those inside it: first child, next sibling
pub data Known : Type 0 where
  end : Known
  leaf : (vendor code : ℕ) → List ℕ → Known → Known
  node : (vendor code : ℕ) → Known → Known → Known

-- all that an answer may depend on: the first fault, the first unknown AVP with M, and the known AVPs
pub record View : Type 0 where
  pub fault : Option Faulty
  pub unsupported : Option Placed
  pub known : Known

abbrev pub or_else : {A : Type 0} → Option A → Option A → Option A
or_else none b = b
or_else (some a) b = some a

unfoldable pub beside : Known → Known → Known
beside end k = k
beside (leaf v c x next) k = leaf v c x (beside next k)
beside (node v c kids next) k = node v c kids (beside next k)

-- "The reader visits AVPs in message order": what comes first is first
infixr 20 ◌then◌
unfoldable pub ◌then◌ : View → View → View
v then w = record { fault = or_else v.fault w.fault; unsupported = or_else v.unsupported w.unsupported; known = beside v.known w.known }

unfoldable pub nothing : View
nothing = record { fault = none; unsupported = none; known = end }

unfoldable pub faulty : ℕ → Placed → View
faulty code p = record { fault = some (record { code = code; shown = p }); unsupported = none; known = end }

-- "Unknown AVPs are not entered"
unfoldable pub unknown : Placed → View
unknown p = record { fault = none; unsupported = cond (has_m p.avp.flags) (some p) none; known = end }

-- what stands behind the header of an AVP: the place of its data
abbrev pub body_at : Placed → ℕ
body_at p = p.at + head_size p.avp.flags

-- the AVP's head alone
abbrev pub bare : Placed → Placed
bare p = record { at = p.at; end = p.end; avp = record { code = p.avp.code; flags = p.avp.flags; vendor = p.avp.vendor; body = [] } }

unfoldable pub single : List ℕ → Placed → View
single x p = record { fault = none; unsupported = none; known = leaf p.avp.vendor p.avp.code x end }

-- a known AVP that is not entered; "wrong length or data size" is the fault 5014
unfoldable pub sized : Kind → List ℕ → Placed → View
sized k x p = cond (size_right k (length p.avp.body)) (single x p) (faulty 5014 (bare p))

unfoldable pub group : View → Placed → View
group inside p = record { fault = inside.fault; unsupported = inside.unsupported; known = node p.avp.vendor p.avp.code inside.known end }

unfoldable pub each : (Placed → View) → Avps → View
each one whole = nothing
each one (broken p) = faulty 5014 p
each one (more p rest) = one p then each one rest

-- An AVP by what the dictionary says of its key. "Unsigned32, Integer32, Enumerated and Time carry 4 bytes; 64-bit types 8; others any number";
-- "Groups of the dictionary are entered": `inside` is the view of such a group.
unfoldable pub by_kind : Kind → List ℕ → View → Placed → View
by_kind Unknown x inside p = unknown p
by_kind Group x inside p = inside
by_kind Four x inside p = sized Four x p
by_kind Eight x inside p = sized Eight x p
by_kind Any x inside p = sized Any x p
by_kind Closed x inside p = sized Closed x p

-- `kind` is the dictionary: what it says of a (vendor, code). `seen` is what the command sees of an AVP's data.
module _ (kind : ℕ → ℕ → Kind) (seen : ℕ → ℕ → List ℕ → List ℕ) where
  abbrev pub kind_of : Avp → Kind
  kind_of a = kind a.vendor a.code

  abbrev pub seen_of : Avp → List ℕ
  seen_of a = seen a.vendor a.code a.body

  -- an AVP, where `left` groups may still be entered, one in another: "an entered group, its length right, inside eight others" is the fault 5004
  unfoldable pub view_avp : ℕ → Placed → View
  view_avp zero p = by_kind (kind_of p.avp) (seen_of p.avp) (faulty 5004 (bare p)) p
  view_avp (suc left) p = by_kind (kind_of p.avp) (seen_of p.avp) (group (each (view_avp left) (avps (body_at p) p.avp.body)) p) p

  -- "a list of AVPs holds groups, and a group holds a list again": the stretch `s` at `at` of the message
  unfoldable pub view : ℕ → ℕ → List ℕ → View
  view left at s = each (view_avp left) (avps at s)

-- "inside eight others"
abbrev pub most_groups : ℕ
most_groups = 8

-- what the message reader answers: "A fault anywhere" comes first
unfoldable pub tell : Option Faulty → Option Placed → Visit
tell (some f) u = Fault f.code f.shown.at f.shown.end
tell none (some p) = Unsupported p.at p.end
tell none none = Clean

unfoldable pub told : View → Visit
told v = tell v.fault v.unsupported

-- what is told of two stretches in a row: the first fault, else the first unknown AVP with M
unfoldable pub join : Visit → Visit → Visit
join (Fault code at to) w = Fault code at to
join (Unsupported at to) (Fault code at' to') = Fault code at' to'
join (Unsupported at to) (Unsupported at' to') = Unsupported at to
join (Unsupported at to) Clean = Unsupported at to
join Clean w = w
