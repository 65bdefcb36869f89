-- `answer::answer::echo_proxy_infos` meets its contract. Assumes nothing.
use mathlib.Core.Path.{ap}
use native.Mathlib.Omega.{arith}
use lib.ListN.{length}
use Rattle.avp.proofs.WriteLaws.{appended-same, appended_nothing}
use Rattle.answer.proofs.EchoLaws.{length-behind-header, no_proxies, with_proxies}
use Rattle.answer.proofs.answer.echo_proxy_infos.Goals as goal

pub put_proxy_infos-requires : goal.put_proxy_infos-requires
put_proxy_infos-requires c =
    let n = length-behind-header c.args.m.now in
    let e = ap length (with_proxies c.args.m.now c.args.echo c.if-echo.true) in
    (omega arith, omega (arith, c.requires.2))

pub returns-then-echo : goal.returns-then-echo
returns-then-echo c = let x = c.args in appended-same (with_proxies x.m.now x.echo c.if-echo.true) c.put_proxy_infos.ensures

pub returns-else-echo : goal.returns-else-echo
returns-else-echo c = let x = c.args in appended-same (no_proxies x.m.now x.echo c.if-echo.false) (appended_nothing _ (omega (arith, c.requires.2)))
