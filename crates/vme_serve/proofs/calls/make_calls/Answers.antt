use Rattle.std.proofs.Common.{◌∷◌, [], None, inl, inr, sym, subst, ◌∙◌, arith}
use Rattle.vme_line_task.specs.Machine.{IsLineBelow}
use Rattle.vme_serve.specs.Calls.{calls_made, next_of_task}
use Rattle.vme_serve.proofs.Calling.{one_call_more, calls_end, line_can, one_step_more}
use Rattle.vme_serve.proofs.calls.make_calls.Goals as goal
use Rattle.vme_serve.proofs.calls.make_calls.Goals.{then-loop-left-test+else-not-is_finished, else-loop-left-test}

pub step_on-requires-clause-can : goal.step_on-requires-clause-can
step_on-requires-clause-can c =
    line_can c.loop-left.left c.loop-left.core c.loop-left.task c.loop-left-test.true c.loop-left.invariant.steps
    (subst (λ n. IsLineBelow n c.loop-left.task) (sym c.loop-left.invariant.boards) c.loop-left.invariant.below)

pub loop-left-preserved : goal.loop-left-preserved
loop-left-preserved c = record {
  made = one_call_more c.args.task c.args.who c.loop-left.left c.loop-left.core c.step_on.new.core c.loop-left.task c.step_on.new.self
      (calls_made (next_of_task c.args.task) c.args.who c.args.left.now c.args.core.now (None ∷ [])) c.loop-left-test.true
      (sym c.is_finished.ensures ∙ c.if-not-is_finished.true) c.loop-left.invariant.made c.step_on.ensures.step;
  below = c.step_on.ensures.below _ c.loop-left.invariant.below;
  boards = c.step_on.ensures.step.boards ∙ c.loop-left.invariant.boards;
  process_count = c.step_on.ensures.step.process_count ∙ c.loop-left.invariant.process_count;
  steps = one_step_more c.args.who c.loop-left.left c.loop-left.core c.step_on.new.core c.loop-left.task c.step_on.new.self
      c.loop-left-test.true c.loop-left.invariant.steps c.step_on.ensures.step;
}

pub returns-clause-machine : goal.returns-clause-machine
returns-clause-machine c =
    (calls_end c.args.task c.args.who c.loop-left.left c.loop-left.core c.loop-left.task
    (calls_made (next_of_task c.args.task) c.args.who c.args.left.now c.args.core.now (None ∷ []))
    (elim c.loop-left-test.branch [
      | then-loop-left-test+else-not-is_finished w ↦ inr (sym w.is_finished.ensures ∙ w.if-not-is_finished.false)
      | else-loop-left-test w ↦ inl (omega (arith, w.loop-left-test.false))
    ]) c.loop-left.invariant.made).machine_is

pub returns-clause-left : goal.returns-clause-left
returns-clause-left c =
    (calls_end c.args.task c.args.who c.loop-left.left c.loop-left.core c.loop-left.task
    (calls_made (next_of_task c.args.task) c.args.who c.args.left.now c.args.core.now (None ∷ []))
    (elim c.loop-left-test.branch [
      | then-loop-left-test+else-not-is_finished w ↦ inr (sym w.is_finished.ensures ∙ w.if-not-is_finished.false)
      | else-loop-left-test w ↦ inl (omega (arith, w.loop-left-test.false))
    ]) c.loop-left.invariant.made).left_is

pub returns-clause-reply : goal.returns-clause-reply
returns-clause-reply c =
    c.into_reply.ensures
    ∙ (calls_end c.args.task c.args.who c.loop-left.left c.loop-left.core c.loop-left.task
    (calls_made (next_of_task c.args.task) c.args.who c.args.left.now c.args.core.now (None ∷ []))
    (elim c.loop-left-test.branch [
      | then-loop-left-test+else-not-is_finished w ↦ inr (sym w.is_finished.ensures ∙ w.if-not-is_finished.false)
      | else-loop-left-test w ↦ inl (omega (arith, w.loop-left-test.false))
    ]) c.loop-left.invariant.made).reply_is
