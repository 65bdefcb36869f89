-- `serve` meets its contract: 01's `outcome` of what was lent, which are bytes.
-- Assumes nothing.
use Rattle.std.proofs.Common.{rules}
use Rattle.dymosaw.specs.Serve.{lent}
use Rattle.dymosaw.proofs.ServeLaws.{silent-outcome, call_passed, judged-outcome}
use Rattle.dymosaw.proofs.serve.serve.Goals as goal

pub returns-in_err-admit-clause-comes_to : goal.returns-in_err-admit-clause-comes_to
returns-in_err-admit-clause-comes_to c = silent-outcome (lent c.args.table.now c.args.request.now c.args.host.now c.args.realm.now c.args.answer.now c.args.cancel.now) c.admit.ensures c.in_err-admit.field-0.0 c.in_err-admit.was (search rules)

pub serve_request-requires : goal.serve_request-requires
serve_request-requires c = call_passed (lent c.args.table.now c.args.request.now c.args.host.now c.args.realm.now c.args.answer.now c.args.cancel.now) c.admit.ensures c.in_ok-admit.field-0 (cc)

pub returns-clause-comes_to : goal.returns-clause-comes_to
returns-clause-comes_to c = judged-outcome (lent c.args.table.now c.args.request.now c.args.host.now c.args.realm.now c.args.answer.now c.args.cancel.now) c.admit.ensures c.in_ok-admit.field-0 (cc) c.serve_request.ensures
