-- `answer::echo::put_proxy_infos` meets its contract. The loop's invariant: what was written and the Proxy-Infos that the walk has left are all of them.
-- Assumes nothing.
use Rattle.paper.specs.Reader.{avps}
use Rattle.paper.specs.Profile.{proxy_info}
use Rattle.paper.specs.Answer.{each_of}
use Rattle.avp.specs.Walk.{left}
use Rattle.answer.proofs.EchoLaws.{Copied, copies, AllInside}
use Rattle.answer.proofs.echo.put_proxy_infos.Given as goal

abbrev pub invariant-loop-a : goal.invariant-loop-a
invariant-loop-a l = Copied l.initial.out (each_of proxy_info (avps 0 l.s)) (copies l.s (left l.a-iterator)) l.out × AllInside l.s (left l.a-iterator)
