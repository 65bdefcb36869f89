-- Demand 3 over a stretch of AVPs: what a newer node may add or change. The relation is on bytes, over any dictionary and any command.
-- Assumes nothing.
use Rattle.std.specs.Prelude.{◌≡◌, ◌≢◌, true, cond, List, [], ◌++◌, ℕ, zero, suc, ◌+◌, ◌-◌, ◌^◌, ◌≤◌, length, set}
use Rattle.std.proofs.Math.Option.{Option, none, some}
use Rattle.dictionary.specs.declared.Kind.{Kind}
use Rattle.dictionary.specs.declared.Kind.TheVariants.{Four, Eight, Any, Group, Closed, Unknown}
use Rattle.dictionary.specs.Kinds.{size_right}
use Rattle.paper.specs.Avp.{Avp, bit, has_m, head_size, padded, code_of, flags_of, length_of, vendor_of, body_of, avp_of, as_received}
use Rattle.paper.specs.Reader.{Placed, avps, unbroken, written_all, View, or_else}

-- `x` is one AVP with its padding and nothing else
pub record OneAvp (x : List ℕ) : Type 0 where
  pub long : head_size (flags_of x) ≤ length_of x
  pub exact : length x ≡ padded (length_of x)

-- the two AVPs have one key
pub record SameKey (x y : List ℕ) : Type 0 where
  pub vendor : vendor_of y ≡ vendor_of x
  pub code : code_of y ≡ code_of x

-- the AVP, if it has M
unfoldable pub if_mandatory : Avp → Option Avp
if_mandatory a = cond (has_m a.flags) (some a) none

module _ (kind : ℕ → ℕ → Kind) (seen : ℕ → ℕ → List ℕ → List ℕ) where
  abbrev pub kind_at : List ℕ → Kind
  kind_at x = kind (vendor_of x) (code_of x)

  -- `Widened s t m`: `t` is the stretch `s` with unknown AVPs added or left out, in entered groups too, their lengths mended. What is kept has its key,
  -- a size that its type allows and what the command sees of its data; its flags but V, its padding and what is not seen may differ.
  -- `m` is the first added AVP that has M, in the order of the visit.
  pub data Widened : List ℕ → List ℕ → Option Avp → Type 0 where
    done : Widened [] [] none
    keep : {s t : List ℕ} {m : Option Avp} (x y : List ℕ) → OneAvp x → OneAvp y → SameKey x y → kind_at x ≢ Group → kind_at x ≢ Unknown
        → size_right (kind_at x) (length (body_of y)) ≡ true → seen (vendor_of x) (code_of x) (body_of y) ≡ seen (vendor_of x) (code_of x) (body_of x) → Widened s t m → Widened (x ++ s) (y ++ t) m
    enter : {s t : List ℕ} {i m : Option Avp} (x y : List ℕ) → OneAvp x → OneAvp y → SameKey x y → kind_at x ≡ Group
        → Widened (body_of x) (body_of y) i → Widened s t m → Widened (x ++ s) (y ++ t) (or_else i m)
    add : {s t : List ℕ} {m : Option Avp} (y : List ℕ) → OneAvp y → kind_at y ≡ Unknown → Widened s t m → Widened s (y ++ t) (or_else (if_mandatory (avp_of y)) m)
    lose : {s t : List ℕ} {m : Option Avp} (x : List ℕ) → OneAvp x → kind_at x ≡ Unknown → Widened s t m → Widened (x ++ s) t m

-- ---- ways to widen a stretch, each shown to be one

-- an AVP with other data
unfoldable pub mended : Avp → List ℕ → Avp
mended a d = record { code = a.code; flags = a.flags; vendor = a.vendor; body = d }

-- what is left of an AVP without unknown AVPs: of an entered group what is left `inside`, its length mended
unfoldable pub left_of : Kind → List ℕ → Avp → List ℕ
left_of Unknown inside a = []
left_of Group inside a = as_received (mended a inside)
left_of Four inside a = as_received a
left_of Eight inside a = as_received a
left_of Any inside a = as_received a
left_of Closed inside a = as_received a

module _ (kind : ℕ → ℕ → Kind) where
  unfoldable pub stripped_avp : ℕ → Avp → List ℕ
  stripped_avp zero a = left_of (kind a.vendor a.code) [] a
  stripped_avp (suc left) a = left_of (kind a.vendor a.code) (written_all (stripped_avp left) (avps 0 a.body)) a

  -- the stretch without its unknown AVPs, in entered groups too, `left` groups deep
  unfoldable pub stripped : ℕ → List ℕ → List ℕ
  stripped left s = written_all (stripped_avp left) (avps 0 s)

  -- `Inserted y s t`: `t` is `s` with the AVP `y` put in at a seam, or inside a group that is entered, at any depth, the groups' lengths mended
  pub data Inserted (y : List ℕ) : List ℕ → List ℕ → Type 0 where
    here : (a b : List ℕ) → unbroken (avps 0 a) ≡ true → Inserted y (a ++ b) (a ++ (y ++ b))
    within : (a x z b : List ℕ) → unbroken (avps 0 a) ≡ true → OneAvp x → OneAvp z → SameKey x z → kind (vendor_of x) (code_of x) ≡ Group
        → Inserted y (body_of x) (body_of z) → Inserted y (a ++ (x ++ b)) (a ++ (z ++ b))

-- an AVP with another flag octet
unfoldable pub with_flags : ℕ → List ℕ → List ℕ
with_flags flags x = set x 4 flags

-- the octet with bit `k` set if it was clear, and clear if it was set
unfoldable pub flipped : ℕ → ℕ → ℕ
flipped k n = cond (bit k n) (n - 2 ^ k) (n + 2 ^ k)

-- ---- what a widening does to the view

-- nothing to refuse in a view
pub record Clear (v : View) : Type 0 where
  pub fault : v.fault ≡ none
  pub unsupported : v.unsupported ≡ none

abbrev pub shown_of : Option Placed → Option Avp
shown_of none = none
shown_of (some p) = some p.avp

-- `w` has no fault, its first unknown AVP with M is `m`, and it knows what `v` knows
pub record Keeps (v w : View) (m : Option Avp) : Type 0 where
  pub fault : w.fault ≡ none
  pub unsupported : shown_of w.unsupported ≡ m
  pub known : w.known ≡ v.known
