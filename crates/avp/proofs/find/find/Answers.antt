-- `avp::find::find` meets its contract: the first in the list that the walk gives is the paper's. Assumes nothing.
use mathlib.Core.Path.{sym, ◌∙◌}
use borrow.Author.Rules.{rules}
use borrow.Author.Tests.{tests}
use Rattle.std.proofs.lemmas.Iterator.Adapters.{option_map_id}
use Rattle.std.proofs.lemmas.Iterator.Consumers.{YieldsList-from_first}
use Rattle.std.proofs.lemmas.Iterator.Search.{find_from_yields_List}
use Rattle.avp.specs.Walk.{left}
use Rattle.avp.proofs.WalkLaws.{keyed, find-first}
use Rattle.avp.proofs.find.find.Goals as goal

pub returns : goal.returns
returns c =
    let k = c.args.key in
    let all = YieldsList-from_first (λ x. x) left {s = c.new.result} _ c.new.ensures in
    sym (option_map_id c.find.result)
    ∙ find_from_yields_List (keyed k.vendor k.code) c.find.new.self _ c.find.result c.find.ensures.ran all (λ x b q r. search (rules, tests))
    ∙ find-first _ _ _
