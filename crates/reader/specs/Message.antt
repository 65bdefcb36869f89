-- What the message reader answers of any bytes: the header, and what the visit tells of the AVPs behind it.
-- Assumes nothing.
use Rattle.std.specs.Prelude.{List, ℕ, drop}
use Rattle.dictionary.specs.Rows.{kind_of}
use Rattle.dictionary.specs.declared.Kind.{Kind}
use Rattle.paper.specs.declared.Visit.{Visit}
use Rattle.paper.specs.Layout.{message_header}
use Rattle.paper.specs.Reader.{most_groups}
use Rattle.reader.specs.declared.message.Message.{Message}
use Rattle.reader.specs.Header.{header_of}
use Rattle.reader.specs.Visit.{told_of}

-- the visit of the message `m` over a dictionary
unfoldable pub visit_of : (ℕ → ℕ → Kind) → List ℕ → Visit
visit_of kind m = told_of kind most_groups message_header (drop message_header m)

unfoldable pub message_of : List ℕ → Message
message_of m = record { header = header_of m; visit = visit_of kind_of m }
