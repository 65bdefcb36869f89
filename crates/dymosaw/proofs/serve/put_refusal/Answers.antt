-- `put_refusal` meets its contract: the answer and an empty list.
-- Assumes nothing.
use Rattle.std.proofs.Common.{[], refl}
use Rattle.dymosaw.proofs.ReplyLaws.{answered_came, reply_said}
use Rattle.dymosaw.proofs.serve.put_refusal.Goals as goal

pub no_entries-requires : goal.no_entries-requires
no_entries-requires c = c.requires.1

pub put_answer-length-requires : goal.put_answer-length-requires
put_answer-length-requires c = c.requires.0

pub returns : goal.returns
returns c =
    λ t. answered_came _ t [] c.args.reply.verdict _ (reply_said _ _ _ _ _) refl c.put_answer-length.ensures c.no_entries.ensures
