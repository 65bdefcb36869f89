-- `request::profile::Command::uses` meets its contract. Assumes nothing.
use mathlib.Core.Path.{ap, ◌∙◌}
use Rattle.paper.specs.Request.{has}
use Rattle.request.specs.Profile.{key_at}
use Rattle.request.proofs.ProfileLaws.{any-has}
use Rattle.request.proofs.profile.Command.uses.Goals as goal

pub returns : goal.returns
returns c =
    c.contains.ensures.value ∙ any-has c.args.key c.used.result.now ∙ ap (has (key_at c.args.key)) c.used.ensures.listed
