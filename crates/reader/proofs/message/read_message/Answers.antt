-- `reader::message::read_message` meets its contract. Assumes nothing.
use Rattle.reader.specs.Message.{message_of}
use Rattle.reader.proofs.message.read_message.Goals as goal

pub returns : goal.returns
unfolding message_of
returns c =
    λ i. record { header = c.read_header.ensures i; visit = c.visit.ensures i }
