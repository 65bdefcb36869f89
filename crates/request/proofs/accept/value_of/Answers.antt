-- `request::accept::value_of` meets its contract. Assumes nothing.
use mathlib.Core.Path.{◌∙◌}
use Rattle.paper.specs.Request.{value_of}
use Rattle.request.proofs.accept.value_of.Goals as goal

pub returns : goal.returns
unfolding value_of
returns c = c.data_of.ensures ∙ c.find_top.ensures.value
