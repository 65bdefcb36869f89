-- `request::accept::accept` meets its contract. Assumes nothing.
use mathlib.Core.Path.{◌∙◌}
use mathlib.Core.List.{List}
use Prim.Native.Nat.{ℕ}
use Rattle.paper.specs.Request.{imei_of}
use Rattle.paper.specs.Asked.{imei_in}
use Rattle.request.proofs.AcceptLaws.{found_read}
use Rattle.request.proofs.accept.accept.Goals as goal

pub returns : goal.returns
unfolding imei_in
returns c =
    let m = c.args.noted.now.request.now in
    record {
      asked = c.asked_of.ensures;
      user = c.value_of.ensures;
      plmn = c.value_of-2.ensures;
      imei = c.data_if.ensures ∙ found_read m (λ (x : List ℕ). x) (imei_of m) c.find_imei.ensures;
    }
