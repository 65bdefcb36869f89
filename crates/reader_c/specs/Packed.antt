-- The answer of the visit in one number of 64 bits: code, end and place, which are whole for messages under 16 MB.
-- Assumes nothing.
use Rattle.std.specs.Prelude.{ℕ, ◌+◌, ◌*◌, ◌%◌}
use Rattle.paper.specs.declared.Visit.{Visit}
use Rattle.paper.specs.declared.Visit.TheVariants.{Clean, Fault, Unsupported}

abbrev pub pack : ℕ → ℕ → ℕ → ℕ
pack code at to = code % 65536 * 281474976710656 + to % 16777216 * 16777216 + at % 16777216

-- 0 for neither, 5001 for an unknown AVP with M
unfoldable pub packed : Visit → ℕ
packed Clean = 0
packed (Fault code at to) = pack code at to
packed (Unsupported at to) = pack 5001 at to
