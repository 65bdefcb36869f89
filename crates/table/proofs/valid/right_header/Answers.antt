-- `right_header` meets its contract: the tests of the header, gathered.
-- Assumes nothing.
use mathlib.Core.Path.{sym}
use mathlib.Core.Bool.{and_assoc, and-false}
use Prim.Native.Nat.{◌≤◌, ◌<◌}
use borrow.Author.Tests.{le-leb, lt-leb}
use Rattle.paper.specs.Layout.{table_header, most_records}
use Rattle.paper.specs.Table.{count_of, header_right}
use Rattle.table.proofs.valid.right_header.Goals as goal

pub returns-then-t-lt-TABLE_HEADER : goal.returns-then-t-lt-TABLE_HEADER
unfolding header_right
returns-then-t-lt-TABLE_HEADER c = sym (rw (lt-leb table_header _ c.if-t-lt-TABLE_HEADER.true))

pub returns-then-n-gt-MOST_RECORDS : goal.returns-then-n-gt-MOST_RECORDS
unfolding header_right
returns-then-n-gt-MOST_RECORDS c =
    let t = c.args.t.now in
    let e = c.count_of-n.ensures in
    let many : most_records < count_of t = rw e at c.if-n-gt-MOST_RECORDS.true in
    sym (rw (lt-leb (count_of t) most_records many) (simp and-false))

pub returns : goal.returns
unfolding header_right
returns c =
    let t = c.args.t.now in
    let few : count_of t ≤ most_records = rw c.count_of-n.ensures at c.if-n-gt-MOST_RECORDS.false in
    rw (c.get-said.ensures.value, c.count_of-n.ensures, le-leb table_header _ c.if-t-lt-TABLE_HEADER.false, le-leb (count_of t) most_records few) (simp and_assoc)
