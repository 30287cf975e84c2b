-- Attempts at a lock or a mailbox make the current one's call, and another may begin if this one ends.
use Rattle.std.proofs.Common.{is_some, ap, sym, ◌∙◌}
use Rattle.vme_line_task.proofs.lemmas.Calls.{shared_advances, shared_ends, shared_no_call, shared_rests}
use Rattle.vme_line_task.proofs.attempt.shared_step_on.Goals as goal

pub returns-then-had_ended-clause-step : goal.returns-then-had_ended-clause-step
returns-then-had_ended-clause-step c =
    let made = c.advance_on_retrying in
    shared_rests c.args.who c.args.core.now made.new.core c.args.task.now made.new.self c.args.left.now
    (sym (c.is_some-had_ended.ensures ∙ ap is_some c.outcome.ensures) ∙ c.if-had_ended.true) (made.ensures.advanced c.if-advance_on_retrying.false)

pub returns-then-had_ended-clause-ended : goal.returns-then-had_ended-clause-ended
returns-then-had_ended-clause-ended c =
    shared_no_call c.args.task.now c.advance_on_retrying.new.self c.args.left.now
    (sym (c.is_some-had_ended.ensures ∙ ap is_some c.outcome.ensures) ∙ c.if-had_ended.true)

pub returns-clause-step : goal.returns-clause-step
returns-clause-step c =
    let made = c.advance_on_retrying in
    let again = c.shared_retry in
    shared_advances c.args.who c.args.core.now made.new.core c.args.task.now made.new.self again.new.task c.args.left.now again.new.left
    (sym (c.is_some-had_ended.ensures ∙ ap is_some c.outcome.ensures) ∙ c.if-had_ended.false)
    (made.ensures.advanced c.if-advance_on_retrying.false) again.ensures.attempts again.ensures.begun

pub returns-clause-ended : goal.returns-clause-ended
returns-clause-ended c =
    let made = c.advance_on_retrying in
    let again = c.shared_retry in
    let going = sym (c.is_some-had_ended.ensures ∙ ap is_some c.outcome.ensures) ∙ c.if-had_ended.false in
    c.is_some-2.ensures
    ∙ ap is_some c.outcome-2.ensures
    ∙ shared_ends c.args.who c.args.core.now made.new.core c.args.task.now again.new.task c.args.left.now again.new.left going
    (shared_advances c.args.who c.args.core.now made.new.core c.args.task.now made.new.self again.new.task c.args.left.now again.new.left going
    (made.ensures.advanced c.if-advance_on_retrying.false) again.ensures.attempts again.ensures.begun)
