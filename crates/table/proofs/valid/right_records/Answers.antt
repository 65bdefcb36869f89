-- `right_records` meets its contract: one pass, in which the first record is right and each of the others follows the one before it.
-- Assumes nothing.
use mathlib.Core.Bool.{true, ◌&&◌}
use lib.Dec.{ltb}
use lib.Seq.{take-length}
use Rattle.std.proofs.Common.{rules, ◌≡◌, MatchOption}
use Rattle.std.proofs.lemmas.List.Sorted.{answers_always}
use Rattle.wire.specs.Number.{num}
use Rattle.paper.specs.Table.{record_right, imsi_of}
use Rattle.paper.proofs.TableLaws.{header_parts}
use Rattle.table.proofs.RecordLaws.{valid-pass, not_valid-first}
use Rattle.table.proofs.valid.right_records.Goals as goal

pub records-records-requires : goal.records-records-requires
records-records-requires c = (header_parts _ c.requires).long

pub returns-then-is_none_or : goal.returns-then-is_none_or
returns-then-is_none_or c =
    let first : MatchOption c.first.result (c.is_none_or.result ≡ true) (λ r. c.is_none_or.result ≡ record_right r.now) = search rules in
    let pairs = c.is_sorted_by.ensures.cases (λ x y. record_right y && ltb (num (imsi_of x)) (num (imsi_of y))) (answers_always _ _ _ (λ f a r g called. search rules)) in
    valid-pass c.args.t.now c.requires c.first.result first _ c.first.ensures.item (search (rules, take-length)) _ c.is_sorted_by.result pairs (search (rules, take-length)) c.if-is_none_or.true

pub returns-else-is_none_or : goal.returns-else-is_none_or
returns-else-is_none_or c =
    let first : MatchOption c.first.result (c.is_none_or.result ≡ true) (λ r. c.is_none_or.result ≡ record_right r.now) = search rules in
    not_valid-first c.args.t.now c.requires c.first.result first _ c.first.ensures.item (search (rules, take-length)) c.if-is_none_or.false
