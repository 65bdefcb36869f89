-- `extra_of` meets its contract: the AVPs of a success by the command.
-- Assumes nothing.
use Rattle.std.proofs.Common.{◌≡◌, true, false, sym, ap, ◌∙◌, rules}
use Rattle.std.specs.Prelude.{Some, None}
use Rattle.paper.specs.Shown.{extra_of}
use Rattle.request.specs.Profile.{row_of}
use Rattle.dymosaw.proofs.ExtraLaws.{ula_extra, pua_extra, noa_extra, no_extra}
use Rattle.dymosaw.proofs.serve.extra_of.Goals as goal

pub returns-then-skips : goal.returns-then-skips
returns-then-skips c =
    λ m r d told a b e f. ula_extra _ m r d told (sym (ap row_of (c.in_ok-command_of.was ∙ ap Some c.in-Ulr.is)) ∙ c.command_of.ensures) {skip = true} (sym c.if-skips.true ∙ c.skips.ensures) a b e

pub returns-else-skips : goal.returns-else-skips
returns-else-skips c =
    λ m r d told a b e f. ula_extra _ m r d told (sym (ap row_of (c.in_ok-command_of.was ∙ ap Some c.in-Ulr.is)) ∙ c.command_of.ensures) {skip = false} (sym c.if-skips.false ∙ c.skips.ensures) a b e

pub returns-in-Pur : goal.returns-in-Pur
returns-in-Pur c = λ m r d told a b e f. pua_extra _ m r d told (sym (ap row_of (c.in_ok-command_of.was ∙ ap Some c.in-Pur.is)) ∙ c.command_of.ensures) f

pub returns-in-Nor : goal.returns-in-Nor
returns-in-Nor c = λ m r d told a b e f. noa_extra _ m r d told (sym (ap row_of (c.in_ok-command_of.was ∙ ap Some c.in-Nor.is)) ∙ c.command_of.ensures)

pub returns-in_err-command_of : goal.returns-in_err-command_of
returns-in_err-command_of c =
    let none : c.from_residual.result ≡ None = search rules in
    λ m r d told a b e f. ap extra_of none ∙ no_extra _ m r d told (sym (ap row_of c.in_err-command_of.was) ∙ c.command_of.ensures)
