-- `avp::write::Writer::put_avp` meets its contract. Assumes nothing.
use Rattle.avp.proofs.WriteLaws.{received_for, appended-same}
use Rattle.avp.proofs.write.Writer.put_avp.Goals as goal

pub put_as_received-requires : goal.put_as_received-requires
put_as_received-requires c =
    (c.requires.0, rw (received_for c.args.key.vendor c.args.key.code c.args.mandatory c.args.body.now c.flags_for.ensures) c.requires.1)

pub returns : goal.returns
returns c =
    let a = c.args in
    appended-same (received_for a.key.vendor a.key.code a.mandatory a.body.now c.flags_for.ensures) c.put_as_received.ensures
