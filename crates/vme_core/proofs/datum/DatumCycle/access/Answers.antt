use Rattle.std.proofs.Common.{Some, ap, sym, ◌∙◌}
use Rattle.vme_memory.specs.Data.{datum_command}
use Rattle.vme_memory.specs.Locals.{command_given}
use Rattle.vme_memory.proofs.lemmas.Data.{own_command}
use Rattle.vme_core.proofs.datum.DatumCycle.access.Goals as goal

-- the cycle is the request's own command
pub returns : goal.returns
returns c =
    let d = c.self.inside in
    let kept = c.self.invariant in
    let asked = c.of_datum.ensures ∙ ap (λ request. datum_command request d.i d.at) c.request.ensures.value in
    ap command_given (sym c.self.view_is) ∙ own_command d.plan d.i d.at kept.0 kept.1 kept.2 ∙ ap Some (sym asked)
