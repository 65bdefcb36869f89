-- `find_record` meets its contract: std's search among the IMSIs, which ascend.
-- Assumes nothing.
use Rattle.std.proofs.Common.{arith, rules}
use Rattle.std.proofs.lemmas.Fn.{always_returns_same}
use Rattle.wire.specs.Number.{num}
use Rattle.std.specs.Ordering.{nat_cmp}
use Rattle.paper.specs.Table.{imsi_of}
use Rattle.paper.proofs.TableLaws.{valid_parts}
use Rattle.table.proofs.KeyLaws.{found-at, found-nowhere}
use Rattle.table.proofs.lookup.find_record.Goals as goal

pub records-requires : goal.records-requires
records-requires c = (valid_parts _ c.requires.0).header.long

pub returns-in-Ok : goal.returns-in-Ok
returns-in-Ok c =
    let facts = c.binary_search_by.ensures in
    found-at c.args.t.now c.args.imsi.now (valid_parts _ c.requires.0) (λ i. (c.type_inv.t i).fits) (λ i. (c.type_inv.imsi i).fits) c.requires.1 c.records.result.now c.binary_search_by.result c.records.ensures facts.bound
    (facts.position (λ r. nat_cmp (num (imsi_of r)) (num (imsi_of c.args.imsi.now))) (always_returns_same _ _ _ (λ a r g called. search rules))) c.in-Ok.i _ c.in-Ok.is (omega arith)

pub returns-in-Err : goal.returns-in-Err
returns-in-Err c =
    let facts = c.binary_search_by.ensures in
    found-nowhere c.args.t.now c.args.imsi.now (valid_parts _ c.requires.0) (λ i. (c.type_inv.t i).fits) (λ i. (c.type_inv.imsi i).fits) c.requires.1 c.records.result.now c.binary_search_by.result c.records.ensures facts.bound
    (facts.position (λ r. nat_cmp (num (imsi_of r)) (num (imsi_of c.args.imsi.now))) (always_returns_same _ _ _ (λ a r g called. search rules))) _ c.in-Err.is
