-- One AVP, as 01's section "The reader" and RFC 6733 section 4.1 have it: its head, its length, its data, and the bytes that it is written as.
-- Assumes nothing.
use Rattle.std.specs.Prelude.{◌≡◌, Bool, false, cond, ◌&&◌, List, [], ◌∷◌, ◌++◌, ℕ, ◌+◌, ◌-◌, ◌*◌, ◌/◌, ◌%◌, ◌^◌, ◌<◌, length, drop, get_or, replicate, leb, eqb}
use Rattle.wire.specs.Number.{be, num_at}
use Rattle.wire.specs.Put.{part}

-- bit `k` of a number, counted from 0 at the low end
abbrev pub bit : ℕ → ℕ → Bool
bit k n = eqb (n / 2 ^ k % 2) 1

-- the flags of an AVP that 01 names: V says that a vendor follows the length, M that the AVP is mandatory.
-- "Reserved AVP bits, P in an AVP [..] are ignored": no definition reads another bit.
abbrev pub has_v : ℕ → Bool
has_v flags = bit 7 flags

abbrev pub has_m : ℕ → Bool
has_m flags = bit 6 flags

-- the header's size: "at least 8 (12 with V)"
unfoldable pub head_size : ℕ → ℕ
head_size flags = cond (has_v flags) 12 8

-- a length with the padding after it
unfoldable pub padded : ℕ → ℕ
padded n = (n + 3) / 4 * 4

-- an AVP as received: its key is (vendor, code), "vendor 0 without V"
pub record Avp : Type 0 where
  pub code : ℕ
  pub flags : ℕ
  pub vendor : ℕ
  pub body : List ℕ

-- ---- the AVP at the front of a stretch, which ends where what encloses the AVP ends; "header bytes past the end of what encloses it read as 0"

abbrev pub code_of : List ℕ → ℕ
code_of s = num_at 4 s 0

abbrev pub flags_of : List ℕ → ℕ
flags_of s = get_or s 4 0

abbrev pub length_of : List ℕ → ℕ
length_of s = num_at 3 s 5

unfoldable pub vendor_of : List ℕ → ℕ
vendor_of s = cond (has_v (flags_of s)) (num_at 4 s 8) 0

-- "Its length is at least 8 (12 with V), and with padding it lies inside what encloses it."
unfoldable pub framed : List ℕ → Bool
framed s = leb (head_size (flags_of s)) (length_of s) && leb (padded (length_of s)) (length s)

unfoldable pub body_of : List ℕ → List ℕ
body_of s = part (head_size (flags_of s)) (length_of s - head_size (flags_of s)) s

-- what follows the AVP and its padding
unfoldable pub after : List ℕ → List ℕ
after s = drop (padded (length_of s)) s

-- the AVP itself, "its data as received"
unfoldable pub avp_of : List ℕ → Avp
avp_of s = record { code = code_of s; flags = flags_of s; vendor = vendor_of s; body = body_of s }

-- the bytes that an AVP takes: header, data and padding
unfoldable pub size_of : Avp → ℕ
size_of a = padded (head_size a.flags + length a.body)

-- the AVP's head alone, "its code, flags, vendor and no data"
unfoldable pub bare_of : List ℕ → Avp
bare_of s = record { code = code_of s; flags = flags_of s; vendor = vendor_of s; body = [] }

-- ---- the bytes that an AVP is written as

unfoldable pub vendor_field : ℕ → ℕ → List ℕ
vendor_field flags vendor = cond (has_v flags) (be 4 vendor) []

-- an AVP as received, its length mended, "padding after it zero"
unfoldable pub as_received : Avp → List ℕ
as_received a =
    be 4 a.code ++ (a.flags ∷ (be 3 (head_size a.flags + length a.body) ++ (vendor_field a.flags a.vendor ++ (a.body ++ replicate (padded (length a.body) - length a.body) 0))))

-- "An AVP written again keeps key (V unless vendor 0), M and data": the flags that it is written with
unfoldable pub flags_for : ℕ → Bool → ℕ
flags_for vendor mandatory = cond (eqb vendor 0) 0 128 + cond mandatory 64 0

unfoldable pub written : ℕ → ℕ → Bool → List ℕ → List ℕ
written vendor code mandatory body = as_received (record { code = code; flags = flags_for vendor mandatory; vendor = vendor; body = body })

-- an AVP that was read, "written again"
unfoldable pub written_again : Avp → List ℕ
written_again a = written a.vendor a.code (has_m a.flags) a.body

-- its numbers fit their fields, and it has a vendor only with V
pub record Writable (a : Avp) : Type 0 where
  pub code : a.code < 256 ^ 4
  pub vendor : a.vendor < 256 ^ 4
  pub own : has_v a.flags ≡ false → a.vendor ≡ 0
  pub fits : head_size a.flags + length a.body < 256 ^ 3

-- "AVPs alike in these are the same": key, M and data
pub record Alike : Type 0 where
  pub vendor : ℕ
  pub code : ℕ
  pub mandatory : Bool
  pub body : List ℕ

unfoldable pub alike_of : Avp → Alike
alike_of a = record { vendor = a.vendor; code = a.code; mandatory = has_m a.flags; body = a.body }
