-- `answer::reply::Reply::is_protocol_error` meets its contract. Assumes nothing.
use Rattle.answer.proofs.AnswerLaws.{error-base, error-experimental}
use Rattle.answer.proofs.reply.Reply.is_protocol_error.Goals as goal

pub returns-in-Base : goal.returns-in-Base
returns-in-Base c = error-base c.in-Base.is

pub returns-in-Experimental : goal.returns-in-Experimental
returns-in-Experimental c = error-experimental c.in-Experimental.is
