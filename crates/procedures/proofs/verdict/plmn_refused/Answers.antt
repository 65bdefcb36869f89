-- `procedures::verdict::plmn_refused` meets its contract. At most 8 PLMNs are asked for, one after another.
-- Assumes nothing.
use Prim.Native.Nat.{◌≤◌}
use native.Mathlib.Omega.{arith}
use Rattle.std.proofs.Common.{rules, tests}
use Rattle.std.proofs.iter.Serving.{serving}
use Rattle.std.proofs.lemmas.Iterator.{YieldsList-from_range}
use Rattle.std.proofs.lemmas.Iterator.Search.{any_from_yields_List}
use Rattle.paper.specs.Layout.{most_plmns}
use Rattle.paper.proofs.FieldLaws.{plmn_count_size}
use Rattle.procedures.specs.Values.{bytes_of}
use Rattle.procedures.proofs.VerdictLaws.{is_plmn, plmn-ruled}
use Rattle.procedures.proofs.verdict.plmn_refused.Goals as goal

pub any-listed-requires-clause-callable : goal.any-listed-requires-clause-callable
any-listed-requires-clause-callable c =
    let most = plmn_count_size (bytes_of c.args.subscriber) c.args.subscriber.right in
    let few : c.plmn_count-n.result ≤ most_plmns = omega (arith, c.plmn_count-n.ensures) in
    grind serving

pub returns : goal.returns
returns c =
    let plmn = c.args.plmn.now in
    let r = bytes_of c.args.subscriber in
    let n = c.plmn_count-n.result in
    plmn-ruled plmn r n c.plmn_count-n.ensures
    (any_from_yields_List (is_plmn plmn r) _ _ c.any-listed.result c.any-listed.ensures.ran (YieldsList-from_range 0 n n (cc) (omega arith)) (λ x b q k. search (rules, tests)))
