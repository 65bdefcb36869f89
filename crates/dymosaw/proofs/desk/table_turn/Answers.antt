-- `table_turn` meets its contract: a valid table is taken, another leaves the one that is there.
-- Assumes nothing.
use Rattle.std.proofs.Common.{take, sym, refl, ◌∙◌, arith, rules}
use Rattle.dymosaw.proofs.DeskLaws.{valid-fits, made, made_kept, table_taken, table-refused}
use Rattle.dymosaw.proofs.desk.table_turn.Goals as goal

pub returns-then-not-valid_table : goal.returns-then-not-valid_table
returns-then-not-valid_table c =
    made_kept (search rules) (table-refused (take c.args.used c.args.buffer.now) c.args.content.now (sym c.valid_table.ensures ∙ c.if-not-valid_table.true) c.plain.ensures)

pub put_bytes-requires : goal.put_bytes-requires
put_bytes-requires c =
    let fits = valid-fits c.args.content.now (sym c.valid_table.ensures ∙ c.if-not-valid_table.false) in
    search (rules, arith)

pub returns : goal.returns
returns c = made (table_taken (take c.args.used c.args.buffer.now) c.args.content.now (sym c.valid_table.ensures ∙ c.if-not-valid_table.false) c.plain-2.ensures) refl c.put_bytes.ensures.made
