-- `imsi_number` meets its contract: 16 bytes are two numbers of 8.
-- Assumes nothing.
use Rattle.std.proofs.Common.{rules}
use Rattle.table.proofs.KeyLaws.{two_words}
use Rattle.table.proofs.lookup.imsi_number.Goals as goal

pub returns : goal.returns
returns c = two_words c.args.s.now 0 _ _ c.requires (search rules) (search rules)
