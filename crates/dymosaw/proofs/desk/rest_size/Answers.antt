-- `rest_size` meets its contract: what stands behind a length field.
-- Assumes nothing.
use Rattle.std.proofs.Common.{sym, ◌∙◌, arith}
use Rattle.dymosaw.proofs.DeskLaws.{rest-short, rest-right, rest-wrong, size-within}
use Rattle.dymosaw.proofs.desk.rest_size.Goals as goal

pub returns-then-length-lt-LENGTH_SIZE : goal.returns-then-length-lt-LENGTH_SIZE
returns-then-length-lt-LENGTH_SIZE c = record { value = rest-short c.args.length.now c.if-length-lt-LENGTH_SIZE.true; fits = omega arith }

pub overflow_sub-result : goal.overflow_sub-result
overflow_sub-result c = (size-within c.get-whole.result (sym c.size_right.ensures ∙ c.if-size_right.true)).0

pub returns-then-size_right : goal.returns-then-size_right
returns-then-size_right c =
    let right = sym c.size_right.ensures ∙ c.if-size_right.true in
    record { value = rest-right c.args.length.now c.if-length-lt-LENGTH_SIZE.false c.get-whole.ensures.value right; fits = (size-within c.get-whole.result right).1 }

pub returns-else-size_right : goal.returns-else-size_right
returns-else-size_right c =
    record { value = rest-wrong c.args.length.now c.if-length-lt-LENGTH_SIZE.false c.get-whole.ensures.value (sym c.size_right.ensures ∙ c.if-size_right.false); fits = omega arith }
