-- `answer::echo::put_if_proxy_info` meets its contract. Assumes nothing.
use mathlib.Core.Path.{ap, ◌∙◌}
use native.Mathlib.Omega.{arith}
use lib.ListN.{length}
use Rattle.avp.proofs.WriteLaws.{appended-same, appended_nothing}
use Rattle.answer.proofs.EchoLaws.{proxy_tested, copied_proxy, copied-other, data_most}
use Rattle.answer.proofs.echo.put_if_proxy_info.Goals as goal

pub put_avp-requires : goal.put_avp-requires
put_avp-requires c =
    let d = c.data.ensures in
    let e = ap length (copied_proxy c.args.s.now c.args.a (proxy_tested c.args.a c.key.ensures c.eq.ensures ∙ c.if-eq.true) d) in
    let n = ap length d in
    let m = data_most c.args.s.now c.args.a in
    (omega arith, omega arith)

pub returns-then-eq : goal.returns-then-eq
returns-then-eq c = appended-same (copied_proxy _ _ (proxy_tested c.args.a c.key.ensures c.eq.ensures ∙ c.if-eq.true) c.data.ensures) c.put_avp.ensures

pub returns-else-eq : goal.returns-else-eq
returns-else-eq c =
    appended-same (copied-other _ _ (proxy_tested c.args.a c.key.ensures c.eq.ensures ∙ c.if-eq.false)) (appended_nothing _ (omega (arith, c.requires.2)))
