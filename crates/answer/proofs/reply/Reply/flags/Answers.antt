-- `answer::reply::Reply::flags` meets its contract. Assumes nothing.
use mathlib.Core.Path.{sym, ◌∙◌}
use Rattle.answer.proofs.AnswerLaws.{flags_with_error, flags_without_error}
use Rattle.answer.proofs.reply.Reply.flags.Goals as goal

pub returns-then-is_protocol_error : goal.returns-then-is_protocol_error
returns-then-is_protocol_error c = flags_with_error _ _ c.proxiable_flag-flags.ensures (sym c.is_protocol_error.ensures ∙ c.if-is_protocol_error.true)

pub returns-else-is_protocol_error : goal.returns-else-is_protocol_error
returns-else-is_protocol_error c = flags_without_error _ _ c.proxiable_flag-flags.ensures (sym c.is_protocol_error.ensures ∙ c.if-is_protocol_error.false)
