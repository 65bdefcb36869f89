-- What a lookup answers, as 01's definitions have it; and the 16 bytes of an IMSI as two numbers.
-- Assumes nothing.
use Rattle.std.specs.Prelude.{ℕ, ◌+◌, ◌*◌, ◌^◌, Option, Some, None}
use Rattle.std.proofs.Math.Option as maybe
use Rattle.table.specs.declared.lookup.Key.{Key}

-- each case of the answer: the record's number, or that no record has the IMSI
abbrev pub place_of : Option ℕ → maybe.Option ℕ
place_of (Some i) = maybe.some i
place_of None = maybe.none

-- the number that 16 bytes are, of which a key holds the upper and the lower 8
unfoldable pub key_num : Key → ℕ
key_num k = k.0 * 256 ^ 8 + k.1
