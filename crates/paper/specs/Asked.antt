-- What code hands to the procedures of a request: its numbers. The request's names and bytes go beside them, as parts of the request itself.
-- Assumes nothing.
use Rattle.std.specs.Prelude.{cond, List, ℕ, eqb, Option, Some, None}
use Rattle.paper.specs.declared.Asked.{Asked}
use Rattle.paper.specs.Profile.{Key, ulr, pur, rat_type, ulr_flags, pur_flags, nor_flags}
use Rattle.paper.specs.Find.{body_found}
use Rattle.paper.specs.Request.{command_code, avps_of, find, number_of, is_there, imei_of}

-- the flag word of a command: ULR-Flags, PUR-Flags, NOR-Flags
unfoldable pub flags_key : ℕ → Key
flags_key command = cond (eqb command ulr) ulr_flags (cond (eqb command pur) pur_flags nor_flags)

-- that of the request `m`, if it is there
unfoldable pub flags_in : List ℕ → Option ℕ
flags_in m = cond (is_there (find (flags_key (command_code m)) (avps_of m))) (Some (number_of (flags_key (command_code m)) m)) None

-- the numbers of the request `m`
unfoldable pub asked_of : List ℕ → Asked
asked_of m = record { command = command_code m; rat = number_of rat_type m; flags = flags_in m }

-- the digits of its IMEI, no bytes where there is none
abbrev pub imei_digits_of : List ℕ → List ℕ
imei_digits_of m = body_found (imei_of m)

-- and the same, said apart whether there is one
unfoldable pub imei_in : List ℕ → Option (List ℕ)
imei_in m = cond (is_there (imei_of m)) (Some (imei_digits_of m)) None
