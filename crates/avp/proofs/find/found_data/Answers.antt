-- `avp::find::found_data` meets its contract: what `find` found lies inside the stretch. Assumes nothing.
use mathlib.Core.Path.{◌∙◌}
use Rattle.avp.proofs.FindLaws.{lies-inside, found-lies, found-body}
use Rattle.avp.proofs.find.found_data.Goals as goal

pub data-requires : goal.data-requires
data-requires c = lies-inside (found-lies _ _ _ c.in-Some.ensures)

pub returns-in-Some : goal.returns-in-Some
returns-in-Some c =
    c.data.ensures ∙ found-body _ _ _ c.in-Some.ensures
