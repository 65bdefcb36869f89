-- `request::judge::judge_header` meets its contract. Assumes nothing.
use mathlib.Core.Path.{refl}
use Rattle.request.proofs.ChainLaws.{goes_on_lem, ends}
use Rattle.request.proofs.judge.judge_header.Goals as goal

pub returns : goal.returns
returns c =
    let e = c.args.noted.now.read in
    goes_on_lem _ (c.in_ok-version_test.ensures _ e) (goes_on_lem _ (c.in_ok-length_test.ensures _ e refl) (ends (c.error_test.ensures _ e)))
