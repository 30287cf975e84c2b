use Rattle.std.proofs.Common.{ap, subst, sym, length, ◌<◌, ◌∙◌}
use Rattle.vme_script.specs.Configurations.{Configuration}
use Rattle.vme_line_task.specs.Scripts.{HasItsMailbox}
use Rattle.vme_serve.specs.Services.{ServiceView}
use Rattle.vme_serve.proofs.Asking.{servable}
use Rattle.vme_serve.proofs.service.Service.answer.Goals as goal

pub reply_to-requires-clause-board : goal.reply_to-requires-clause-board
reply_to-requires-clause-board c =
    subst (λ (config : Configuration). c.in-Request.board < length config.boards) (ap (λ (s : ServiceView). s.config) c.self.view_is)
    (servable c.self.inside.config.now c.args.line.now c.in-Request.board c.in-Request.line c.self.invariant.lawful
    (sym c.asked_of.ensures ∙ c.in-Request.is)).there

pub reply_to-requires-clause-mailbox : goal.reply_to-requires-clause-mailbox
reply_to-requires-clause-mailbox c =
    subst (λ (config : Configuration). HasItsMailbox config c.in-Request.line) (ap (λ (s : ServiceView). s.config) c.self.view_is)
    (servable c.self.inside.config.now c.args.line.now c.in-Request.board c.in-Request.line c.self.invariant.lawful
    (sym c.asked_of.ensures ∙ c.in-Request.is)).mailbox
