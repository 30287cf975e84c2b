use Rattle.std.proofs.Common.{ℕ, List, map, sym, ap, ◌∙◌}
use Rattle.std.proofs.lemmas.Option.{get_or_from_slice_get}
use Rattle.vme_core.proofs.lemmas.NextSteps.{its_call}
use Rattle.vme_script.specs.declared.board.BoardConfig.{BoardConfig}
use Rattle.vme_line_task.specs.declared.task.LineTask.{LineTask}
use Rattle.vme_line_task.specs.Machine.{line_to_do}
use Rattle.vme_trace.specs.Grants.{grant_of}
use Rattle.vme_trace.proofs.Observing.{observes}
use Rattle.vme_trace.proofs.observation.observe_turn.Goals as goal

pub returns-clause-observed : goal.returns-clause-observed
returns-clause-observed c =
    let task = c.in_ok-line.task.now in
    let line : ℕ × LineTask = (c.in_ok-line.line, task) in
    let call = its_call (line_to_do task) c.in_ok-line.ensures.makes in
    let boards : List BoardConfig = c.args.config.now.boards in
    observes c.args.config.now c.args.stepper.now c.begin_line.new.self c.args.board c.slot.result c.level.result line call.0
    c.activity_of-activity.result c.call-reply.result.0 c.call-reply.result.1 c.call-reply.new.self.machine c.grant_of-grant.result
    c.begin_line.ensures.begun c.in_ok-line.ensures.line call.1
    (c.call-reply.ensures.answered line call.0 (sym c.in_ok-line.ensures.line) (sym call.1))
    (c.call-reply.ensures.machine line call.0 (sym c.in_ok-line.ensures.line) (sym call.1))
    (get_or_from_slice_get (map (λ (b : BoardConfig). b.slot) boards) c.args.board c.slot.result 0 c.slot.ensures)
    (get_or_from_slice_get (map (λ (b : BoardConfig). b.level) boards) c.args.board c.level.result 0 c.level.ensures)
    (c.activity_of-activity.ensures call.0 (sym call.1))
    (c.grant_of-grant.ensures ∙ ap (grant_of c.args.config.now c.activity_of-activity.result c.call-reply.result.0) c.arbiter.ensures)
