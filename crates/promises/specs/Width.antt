-- What a newer node may do otherwise, change by change: that the relation of demand 3 is wide enough.
-- Assumes nothing.
use Rattle.std.specs.Prelude.{◌≡◌, ◌≢◌, true, false, List, ℕ, ◌+◌, ◌≤◌, ◌<◌, length, drop, get_or}
use Rattle.wire.specs.Number.{Bytes}
use Rattle.dictionary.specs.declared.Kind.TheVariants.{Four, Unknown}
use Rattle.dictionary.specs.Rows.{kind_of}
use Rattle.paper.specs.Avp.{code_of, vendor_of, flags_of, length_of, has_m}
use Rattle.paper.specs.Layout.{message_header, most_request}
use Rattle.paper.specs.Newer.{top_level, spare_bit, SameHeader, Fits, PutIn, with_avps, word_flipped, Replaced}
use Rattle.paper.specs.Request.{command_code, view_of}
use Rattle.paper.specs.Widened.{OneAvp, Inserted, with_flags, flipped, Clear}

-- the AVPs `t` go into a request: "Request 20 to 4,096 bytes"
abbrev pub Short : List ℕ → Type 0
Short t = message_header + length t ≤ most_request

-- `Change m n`: the request `m` becomes `n` by one thing that a newer node does otherwise. An AVP stands at the top level or inside groups, at any depth;
-- the lengths of what encloses it are mended.
pub data Change (m : List ℕ) : List ℕ → Type 0 where
  -- T (bit 4) or a reserved bit of the header is flipped
  header_bit : (k : ℕ) → k < 5 → Change m (with_flags (flipped k (get_or m 4 0)) m)
  -- an unknown AVP without M is added
  unknown_added : (y t : List ℕ) → OneAvp y → kind_of (vendor_of y) (code_of y) ≡ Unknown → has_m (flags_of y) ≡ false → Inserted kind_of y (drop message_header m) t → Short t → Change m (with_avps m t)
  -- a flag bit of an AVP is flipped: P (bit 5) or a reserved one, or M (bit 6) of a known AVP
  avp_bit : (k : ℕ) (x t : List ℕ) → k < 7 → OneAvp x → (kind_of (vendor_of x) (code_of x) ≡ Unknown → k < 6)
      → Replaced x (with_flags (flipped k (flags_of x)) x) (drop message_header m) t → Short t → Change m (with_avps m t)
  -- the padding of an AVP has other bytes
  padding : (x z t : List ℕ) → OneAvp x → OneAvp z → ((j : ℕ) → j < length_of x → get_or z j 0 ≡ get_or x j 0) → Replaced x z (drop message_header m) t → Short t → Change m (with_avps m t)
  -- a bit without a named use is flipped, in a flag word or in any AVP of 4 bytes that the command does not use
  spare_bit_flipped : (k : ℕ) (x t : List ℕ) → k < 32 → OneAvp x → Bytes x → kind_of (vendor_of x) (code_of x) ≡ Four → spare_bit (command_code m) (vendor_of x) (code_of x) k ≡ true
      → Replaced x (word_flipped k x) (drop message_header m) t → Short t → Change m (with_avps m t)
  -- a known AVP that the command does not use is added where the visit then finds nothing to refuse, or is left out
  unused_added : (y n : List ℕ) → OneAvp y → kind_of (vendor_of y) (code_of y) ≢ Unknown → SameHeader m n → Fits n
      → PutIn (command_code m) y top_level (drop message_header m) (drop message_header n) → Clear (view_of n) → Change m n
  unused_left_out : (y n : List ℕ) → OneAvp y → kind_of (vendor_of y) (code_of y) ≢ Unknown → SameHeader m n → Fits n
      → PutIn (command_code m) y top_level (drop message_header n) (drop message_header m) → Change m n

-- any number of them, one after another
pub data Changes (m : List ℕ) : List ℕ → Type 0 where
  no_change : Changes m m
  and_then : {n o : List ℕ} → Changes m n → Change n o → Changes m o
