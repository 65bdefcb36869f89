-- `dymosaw_request` meets its contract: the outcome's number and size in one number, and the buffers that `serve` leaves.
-- Assumes nothing.
use Rattle.dymosaw.specs.Serve.{lent}
use Rattle.dymosaw.proofs.ServeLaws.{refused-is, answered-is}
use Rattle.dymosaw.proofs.serve.dymosaw_request.Goals as goal

pub returns-in-Ok-clause-is : goal.returns-in-Ok-clause-is
returns-in-Ok-clause-is c = answered-is (lent c.args.table.now c.args.request.now c.args.host.now c.args.realm.now c.args.answer.now c.args.cancel.now) c.serve.ensures.comes_to _ c.in-Ok.is

pub returns-in-Err-clause-is : goal.returns-in-Err-clause-is
returns-in-Err-clause-is c = refused-is (lent c.args.table.now c.args.request.now c.args.host.now c.args.realm.now c.args.answer.now c.args.cancel.now) c.serve.ensures.comes_to _ c.in-Err.is cc
