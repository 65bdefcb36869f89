-- `procedures::verdict::verdict` meets its contract. The values are those of the request, by command: what refuses each is what refuses the request.
-- Assumes nothing.
use mathlib.Core.Path.{◌∙◌}
use Rattle.std.proofs.Common.{rules}
use Rattle.paper.specs.Table.{record_of}
use Rattle.procedures.proofs.AskedLaws.{ruled_update, ruled-stranger, ruled-other}
use Rattle.procedures.proofs.verdict.verdict.Goals as goal

pub returns-in-316 : goal.returns-in-316
returns-in-316 c =
    λ m e q p.
    ruled_update m c.args.asked e c.args.plmn.now (record_of c.args.t.now c.args.i) c.of.ensures c.in-316.is p (c.update_verdict.ensures ∙ rw c.at-subscriber.ensures)

pub returns-in-323 : goal.returns-in-323
returns-in-323 c =
    λ m e q p.
    ruled-stranger m c.args.asked e c.args.host.now (record_of c.args.t.now c.args.i) c.in-323.is q (c.refuse_if.ensures ∙ rw (c.is_stranger.ensures, c.at-subscriber.ensures))

pub returns-in_default : goal.returns-in_default
returns-in_default c = λ m e q p. ruled-other m c.args.asked e (record_of c.args.t.now c.args.i) (search rules) (search rules)
