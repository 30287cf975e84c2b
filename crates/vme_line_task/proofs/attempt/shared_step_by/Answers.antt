-- Attempts at a lock or a mailbox have the current one's call made, and another may begin if this one ends.
use Rattle.std.proofs.Common.{is_some, ap, sym, ◌∙◌}
use Rattle.vme_core.specs.EventRefs.{call_asked}
use Rattle.vme_core.specs.NextSteps.{call_in, result_in}
use Rattle.vme_core.proofs.lemmas.NextSteps.{map_call}
use Rattle.vme_master.proofs.lemmas.Callers.{event_called}
use Rattle.vme_shared.specs.declared.reply.LineReply.TheVariants as answers
use Rattle.vme_shared.specs.Machine.{shared_advance, shared_to_do}
use Rattle.vme_line_task.specs.Attempts.{shared_attempts}
use Rattle.vme_line_task.specs.Machine.{attempts_to_do}
use Rattle.vme_line_task.proofs.lemmas.Calls.{calls_going, called_then, map_result}
use Rattle.vme_line_task.proofs.lemmas.Callers.{shared_called}
use Rattle.vme_line_task.proofs.attempt.shared_step_by.Goals as goal

pub returns-clause-step : goal.returns-clause-step
returns-clause-step g c =
    let old = shared_attempts c.args.task.now c.args.left.now in
    shared_called g.C.Caller.performs c.args.caller.now c.call_event.new.caller c.args.task.now c.advance.new.self c.shared_retry.new.task
    c.args.left.now c.shared_retry.new.left
    (calls_going (attempts_to_do old)
    (ap is_some (map_call answers.Shared (shared_to_do c.args.task.now)) ∙ ap is_some (sym (rw c.in-Some.is at c.event_ref.ensures))))
    (event_called g.C.Caller.performs shared_to_do shared_advance c.args.caller.now c.call_event.new.caller c.args.task.now c.advance.new.self
    (call_asked c.in-Some.event) c.in_ok-reply.reply (rw c.in-Some.is at c.event_ref.ensures) c.in_ok-reply.ensures
    c.advance.ensures.task c.advance.ensures.begun)
    c.shared_retry.ensures.attempts c.shared_retry.ensures.begun

pub returns-clause-ended : goal.returns-clause-ended
returns-clause-ended g c =
    let old = shared_attempts c.args.task.now c.args.left.now in
    let new = shared_attempts c.shared_retry.new.task c.shared_retry.new.left in
    c.is_some.ensures
    ∙ ap is_some c.outcome.ensures
    ∙ map_result answers.Shared (shared_to_do c.shared_retry.new.task)
    ∙ called_then (is_some (call_in (attempts_to_do old))) (is_some (result_in (attempts_to_do new)))
    (ap is_some (map_call answers.Shared (shared_to_do c.args.task.now)) ∙ ap is_some (sym (rw c.in-Some.is at c.event_ref.ensures)))
