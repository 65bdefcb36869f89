-- The records of a table, one by one, as the code goes over them.
-- Assumes nothing.
use Rattle.std.specs.Prelude.{List, ℕ, ◌-◌, ◌/◌, length, drop}
use Rattle.std.specs.Simd.{first_chunks}
use Rattle.paper.specs.Layout.{table_header, record_size}

-- the bytes behind the header, 256 a record, as many as are whole
abbrev pub records_of : List ℕ → List (List ℕ)
records_of t = first_chunks record_size ((length t - table_header) / record_size) (drop table_header t)
