-- `key_at` meets its contract: 16 bytes are two numbers of 8.
-- Assumes nothing.
use Rattle.std.proofs.Common.{rules}
use Rattle.table.specs.Found.{key_num}
use Rattle.table.proofs.KeyLaws.{two_words}
use Rattle.table.proofs.lookup.key_at.Goals as goal

pub returns : goal.returns
unfolding key_num
returns c = two_words c.args.s.now c.args.at _ _ c.requires (search rules) (search rules)
