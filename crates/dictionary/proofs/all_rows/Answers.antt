use Rattle.dictionary.proofs.Order.{rows_held}
use Rattle.dictionary.proofs.all_rows.Goals as goal

pub returns : goal.returns
returns c = rows_held
