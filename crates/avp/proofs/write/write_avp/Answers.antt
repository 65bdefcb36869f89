-- `avp::write::write_avp` meets its contract: the tests for room, then `put_avp`.
-- Assumes nothing.
use native.Mathlib.Omega.{arith}
use borrow.Author.Rules.{rules}
use Rattle.avp.proofs.WriteLaws.{too_long, no_room, room, wrote-avp}
use Rattle.avp.proofs.write.write_avp.Goals as goal

pub returns-then-n-gt-MOST_DATA : goal.returns-then-n-gt-MOST_DATA
returns-then-n-gt-MOST_DATA c = let a = c.args in too_long a.out.now a.at a.key.vendor a.key.code a.mandatory a.body.now c.if-n-gt-MOST_DATA.true

pub returns-then-out-at : goal.returns-then-out-at
returns-then-out-at c = let a = c.args in no_room a.out.now a.at a.key.vendor a.key.code a.mandatory a.body.now (omega arith)

pub returns-then-out-at-2 : goal.returns-then-out-at-2
returns-then-out-at-2 c =
    let a = c.args in
    let e = c.written_size-size.ensures in
    no_room a.out.now a.at a.key.vendor a.key.code a.mandatory a.body.now (omega arith)

pub put_avp-requires : goal.put_avp-requires
put_avp-requires c =
    let a = c.args in
    (omega arith, room a.out.now a.at a.key.vendor a.key.code a.mandatory a.body.now (let e = c.written_size-size.ensures in omega arith))

pub returns : goal.returns
returns c =
    let a = c.args in
    let s = c.put_avp.ensures.same in
    let e = wrote-avp a.out.now a.at a.key.vendor a.key.code a.mandatory a.body.now (omega arith) (let e = c.written_size-size.ensures in omega arith) c.put_avp.ensures.wrote in
    search (rules, s, e)
