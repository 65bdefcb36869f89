-- `procedures::cancel::list_node` meets its contract. Nothing is written for a node that is not registered and for the sender, an entry for any other.
-- Assumes nothing.
use mathlib.Core.Path.{sym, ◌∙◌}
use lib.ListN.{length}
use borrow.Author.Tests.{eqb-true, eqb-false}
use Rattle.wire.proofs.PutLaws.{wrote_nothing, wrote-same}
use Rattle.procedures.specs.Values.{type_number, bytes_of}
use Rattle.procedures.proofs.NodeLaws.{name-few}
use Rattle.procedures.proofs.ListLaws.{unregistered_listed, sender-listed, other-listed}
use Rattle.procedures.proofs.cancel.list_node.Goals as goal

pub returns-then-is_empty : goal.returns-then-is_empty
returns-then-is_empty c =
    let a = c.args in
    wrote-same (sym (unregistered_listed a.subscriber a.host.now a.node (type_number a.kind) c.name-name.ensures (eqb-true (length c.name-name.result.now) 0 (sym c.is_empty.ensures ∙ c.if-is_empty.true)))) (wrote_nothing a.cancel.now a.at)

pub returns-then-same_name : goal.returns-then-same_name
returns-then-same_name c =
    let a = c.args in
    wrote-same (sym (sender-listed a.subscriber a.host.now a.node (type_number a.kind) c.name-name.ensures (sym c.same_name.ensures ∙ c.if-same_name.true))) (wrote_nothing a.cancel.now a.at)

pub put_entry-requires : goal.put_entry-requires
put_entry-requires c =
    let s = c.args.subscriber in
    (c.requires, rw c.name-name.ensures (name-few c.args.node (bytes_of s) s.right s.long))

pub returns : goal.returns
returns c =
    let a = c.args in
    wrote-same (sym (other-listed a.subscriber a.host.now a.node (type_number a.kind) c.name-name.ensures (eqb-false (length c.name-name.result.now) 0 (sym c.is_empty.ensures ∙ c.if-is_empty.false)) (sym c.same_name.ensures ∙ c.if-same_name.false))) c.put_entry.ensures
