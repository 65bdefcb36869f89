-- `answer::failed::put_shown` meets its contract. Assumes nothing.
use mathlib.Core.Path.{ap}
use native.Mathlib.Omega.{arith}
use lib.ListN.{length, length-take, length-drop}
use Rattle.avp.proofs.WriteLaws.{appended-same}
use Rattle.answer.proofs.FailedLaws.{shown-whole, shown-bare, shown-missing, readable-whole}
use Rattle.answer.proofs.failed.put_shown.Goals as goal

pub put_whole-requires : goal.put_whole-requires
put_whole-requires c =
    let r = readable-whole c.args.m.now c.in-Whole.is c.requires.1 in
    let e = ap length (shown-whole c.args.m.now c.in-Whole.is) in
    (simp (length-take, length-drop) (omega arith), r.1, omega arith)

pub returns-in-Whole : goal.returns-in-Whole
returns-in-Whole c = appended-same (shown-whole _ c.in-Whole.is) c.put_whole.ensures

pub returns-in-Bare : goal.returns-in-Bare
returns-in-Bare c = appended-same (shown-bare _ c.in-Bare.is) c.put_bare.ensures

pub returns-in-Missing : goal.returns-in-Missing
returns-in-Missing c = appended-same (shown-missing _ c.in-Missing.is) c.put_absent.ensures
