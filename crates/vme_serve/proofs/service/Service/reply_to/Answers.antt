use Rattle.std.proofs.Common.{◌<◌, length, ap, sym, subst, ◌∙◌}
use Rattle.vme_script.specs.Configurations.{Configuration}
use Rattle.vme_line_task.specs.Machine.{IsLineBelow}
use Rattle.vme_line_task.proofs.lemmas.Below.{started_below}
use Rattle.vme_serve.specs.Services.{ServiceView, line_served}
use Rattle.vme_serve.proofs.Serving.{line_is_served}
use Rattle.vme_serve.proofs.service.Service.reply_to.Goals as goal

pub make_calls-reply-requires-clause-below : goal.make_calls-reply-requires-clause-below
make_calls-reply-requires-clause-below c =
    let there : c.args.board < length c.self.inside.config.now.boards =
    subst (λ (config : Configuration). c.args.board < length config.boards) (sym (ap (λ (s : ServiceView). s.config) c.self.view_is)) c.requires.board in
    subst (λ n. IsLineBelow n c.of-task.result) (sym c.self.invariant.boards)
    (subst (IsLineBelow (length c.self.inside.config.now.boards)) (sym c.of-task.ensures)
    (started_below c.self.inside.config.now c.args.board 1 c.args.line.now there))

pub returns-clause-reply : goal.returns-clause-reply
returns-clause-reply c =
    let it = line_is_served (record { config = c.self.inside.config.now; machine = c.self.inside.core; left = c.self.inside.left }) c.args.board c.args.line.now
    c.of-task.result c.make_calls-reply.result c.unwrap_or.result c.make_calls-reply.new.core c.make_calls-reply.new.left c.of-task.ensures
    c.make_calls-reply.ensures.machine c.make_calls-reply.ensures.left c.make_calls-reply.ensures.reply c.unwrap_or.ensures in
    it.reply_is ∙ ap (λ (s : ServiceView). (line_served s c.args.board c.args.line.now).reply) c.self.view_is

pub returns-clause-service : goal.returns-clause-service
returns-clause-service c =
    let it = line_is_served (record { config = c.self.inside.config.now; machine = c.self.inside.core; left = c.self.inside.left }) c.args.board c.args.line.now
    c.of-task.result c.make_calls-reply.result c.unwrap_or.result c.make_calls-reply.new.core c.make_calls-reply.new.left c.of-task.ensures
    c.make_calls-reply.ensures.machine c.make_calls-reply.ensures.left c.make_calls-reply.ensures.reply c.unwrap_or.ensures in
    it.service_is ∙ ap (λ (s : ServiceView). (line_served s c.args.board c.args.line.now).service) c.self.view_is
