-- `procedures::cancel::list_cancelled` meets its contract. By how the node is cancelled.
-- Assumes nothing.
use mathlib.Core.Path.{sym}
use Rattle.wire.proofs.PutLaws.{wrote_nothing, wrote-same}
use Rattle.procedures.specs.Values.{slot_of, bytes_of}
use Rattle.procedures.proofs.ListLaws.{kept_listed, cancelled-listed}
use Rattle.procedures.proofs.cancel.list_cancelled.Goals as goal

pub returns-in-None : goal.returns-in-None
returns-in-None c = wrote-same (sym (kept_listed (slot_of c.args.node) c.args.host.now (bytes_of c.args.subscriber) c.in-None.is)) (wrote_nothing c.args.cancel.now c.args.at)

pub returns-in-Some : goal.returns-in-Some
returns-in-Some c =
    wrote-same (sym (cancelled-listed (slot_of c.args.node) c.args.host.now (bytes_of c.args.subscriber) _ c.in-Some.is)) c.list_node.ensures
