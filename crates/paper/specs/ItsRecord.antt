-- Promise: which record the promises speak of, by the table's bytes alone: the counted record of 256 bytes whose bytes 0–15 are the IMSI.
-- How a record is looked for is not mentioned. Assumes nothing.
use Rattle.std.specs.Prelude.{◌≡◌, ◌≢◌, List, [], ℕ, ◌+◌, ◌*◌, ◌<◌}
use Rattle.std.proofs.Math.Option.{Option, none, some}
use Rattle.wire.specs.Number.{num_at}
use Rattle.wire.specs.Put.{part}
use Rattle.paper.specs.Refusals.{imsi_sent}

-- "Eight bytes: [..] record count (2). Then 256 bytes a record": in the table `t` the record with the 16 bytes `imsi` stands at `place`, and is `r`
pub record ItsRecord (imsi t : List ℕ) (place : Option ℕ) (r : List ℕ) : Type 0 where
  -- it is one of the counted records, and it has the IMSI
  pub counted : (i : ℕ) → place ≡ some i → i < num_at 2 t 6
  pub has_imsi : (i : ℕ) → place ≡ some i → part (8 + 256 * i) 16 t ≡ imsi
  pub bytes : (i : ℕ) → place ≡ some i → r ≡ part (8 + 256 * i) 256 t
  -- no other counted record has it
  pub no_other : (i j : ℕ) → place ≡ some i → j < num_at 2 t 6 → part (8 + 256 * j) 16 t ≡ imsi → j ≡ i
  -- without a place no counted record has it, and `r` has no bytes
  pub none_has : place ≡ none → (j : ℕ) → j < num_at 2 t 6 → part (8 + 256 * j) 16 t ≢ imsi
  pub no_bytes : place ≡ none → r ≡ []

-- the record of the request `m`, `r` in the table `t` before the call and `r'` in the table `t'` after it: at one place, with the IMSI of its User-Name
pub record RequestRecord (m t t' r r' : List ℕ) : Type 0 where
  pub place : Option ℕ
  pub was : ItsRecord (imsi_sent m) t place r
  pub is : ItsRecord (imsi_sent m) t' place r'
