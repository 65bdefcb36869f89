-- Promise: which AVPs the bytes of a stretch hold, by RFC 6733 section 4.1 and 01's section "The reader", with their numbers in their places.
-- How a stretch is read is not mentioned; that `avps` reads it so is `avps_laid`. Assumes nothing.
use Rattle.std.specs.Prelude.{◌≡◌, ◌≢◌, ◌⊎◌, cond, List, [], ℕ, ◌+◌, ◌-◌, ◌*◌, ◌/◌, ◌≤◌, ◌<◌, length, drop, get_or}
use Rattle.wire.specs.Number.{num_at}
use Rattle.wire.specs.Put.{part}
use Rattle.paper.specs.Avp.{Avp, bit}
use Rattle.paper.specs.Reader.{Placed, Avps, whole, broken, more}

-- ---- what stands at the front of a stretch

-- "at least 8 (12 with V)": V is bit 7 of the flag octet, byte 4
abbrev pub head_at : List ℕ → ℕ
head_at s = cond (bit 7 (get_or s 4 0)) 12 8

-- its length field, and the bytes that it takes with padding, a multiple of four
abbrev pub length_at : List ℕ → ℕ
length_at s = num_at 3 s 5

abbrev pub room_at : List ℕ → ℕ
room_at s = (length_at s + 3) / 4 * 4

-- code, flag octet, the vendor with V; "header bytes past the end of what encloses it read as 0"
unfoldable pub head_laid : List ℕ → List ℕ → Avp
head_laid x s = record { code = num_at 4 s 0; flags = get_or s 4 0; vendor = cond (bit 7 (get_or s 4 0)) (num_at 4 s 8) 0; body = x }

-- the head alone, and with its data
abbrev pub bare_laid : List ℕ → Avp
bare_laid s = head_laid [] s

abbrev pub whole_laid : List ℕ → Avp
whole_laid s = head_laid (part (head_at s) (length_at s - head_at s) s) s

-- ---- a stretch

-- `Laid at s l`: the stretch `s`, which stands at `at` of the message, holds the AVPs `l`.
-- "Its length is at least 8 (12 with V), and with padding it lies inside what encloses it."
pub data Laid : ℕ → List ℕ → Avps → Type 0 where
  ends : {at : ℕ} → Laid at [] whole
  holds : {at : ℕ} {s : List ℕ} {p : Placed} {rest : Avps} → head_at s ≤ length_at s → room_at s ≤ length s → p ≡ record { at = at; end = at + length s; avp = whole_laid s }
      → Laid (at + room_at s) (drop (room_at s) s) rest → Laid at s (more p rest)
  breaks : {at : ℕ} {s : List ℕ} {p : Placed} → s ≢ [] → (length_at s < head_at s) ⊎ (length s < room_at s) → p ≡ record { at = at; end = at + length s; avp = bare_laid s } → Laid at s (broken p)
