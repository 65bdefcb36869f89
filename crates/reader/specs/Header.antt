-- The fields of a message's header, RFC 6733 section 3; "header bytes past the end [..] read as 0".
-- Assumes nothing.
use Rattle.std.specs.Prelude.{List, ℕ, get_or}
use Rattle.wire.specs.Number.{num_at}
use Rattle.reader.specs.declared.header.Header.{Header}

unfoldable pub header_of : List ℕ → Header
header_of m = record {
  version = get_or m 0 0;
  length = num_at 3 m 1;
  flags = get_or m 4 0;
  command = num_at 3 m 5;
  application = num_at 4 m 8;
  hop_by_hop = num_at 4 m 12;
  end_to_end = num_at 4 m 16;
}
