-- `admit` meets its contract: the tests in order, each refusal the first that applies.
-- Assumes nothing.
use mathlib.Core.Bool.{not}
use mathlib.Core.Path.{ap}
use Rattle.dymosaw.proofs.ServeLaws.{both_said, said, long_enough, refused_3, refused_5, refused_4, refused_1, refused_2, not-refused}
use Rattle.dymosaw.proofs.serve.admit.Goals as goal

pub returns-then-short : goal.returns-then-short
returns-then-short c = refused_3 _ c.if-short.true

pub returns-then-not-named : goal.returns-then-not-named
returns-then-not-named c =
    refused_5 _ c.if-short.false (both_said c.is_name.ensures c.is_name-2.ensures (ap not c.if-not-named.true))

pub returns-then-not-valid : goal.returns-then-not-valid
returns-then-not-valid c =
    refused_4 _ c.if-short.false (both_said c.is_name.ensures c.is_name-2.ensures (ap not c.if-not-named.false)) (said c.valid_table-valid.ensures (ap not c.if-not-valid.true))

pub returns-then-misfit : goal.returns-then-misfit
returns-then-misfit c =
    refused_1 _ c.if-short.false (both_said c.is_name.ensures c.is_name-2.ensures (ap not c.if-not-named.false)) (said c.valid_table-valid.ensures (ap not c.if-not-valid.false)) c.if-misfit.true

pub is_request-requires : goal.is_request-requires
is_request-requires c = long_enough _ 20 _ c.if-misfit.false

pub returns-then-not-is_request : goal.returns-then-not-is_request
returns-then-not-is_request c =
    refused_2 _ c.if-short.false (both_said c.is_name.ensures c.is_name-2.ensures (ap not c.if-not-named.false)) (said c.valid_table-valid.ensures (ap not c.if-not-valid.false)) c.if-misfit.false (said c.is_request.ensures (ap not c.if-not-is_request.true))

pub returns : goal.returns
returns c =
    not-refused _ c.if-short.false (both_said c.is_name.ensures c.is_name-2.ensures (ap not c.if-not-named.false)) (said c.valid_table-valid.ensures (ap not c.if-not-valid.false)) c.if-misfit.false (said c.is_request.ensures (ap not c.if-not-is_request.false))
