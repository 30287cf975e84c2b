use Rattle.std.proofs.Common.{◌≡◌, ◌<◌, false, length, ◌∙◌, ap, sym, rules, arith, slice_set, slice_index_or}
use Rattle.std.specs.Vec.{with_items}
use Rattle.std.proofs.lemmas.List.{with_items_is, length-set}
use Rattle.vme_shared.specs.declared.reply.LineReply.TheVariants.{Refused}
use Rattle.vme_line_task.specs.Scripts.{lines_at}
use Rattle.vme_line_task.specs.Machine.{line_to_do}
use Rattle.vme_core.proofs.lemmas.NextSteps.{at_work, its_call, ends_so}
use Rattle.vme_stepper.proofs.Turning.{turn_begins, turn_passes}
use Rattle.vme_stepper.proofs.Beginning.{begun_begins, begun_passes}
use Rattle.vme_stepper.proofs.Refused.{turn_refused, begun_refused}
use Rattle.vme_stepper.proofs.NextBuffers.{draws}
use Rattle.vme_stepper.proofs.processor.Processor.seek.Goals as goal

pub start-task-requires-clause-none : goal.start-task-requires-clause-none
start-task-requires-clause-none c =
    let s = c.loop-self.self-inside in
    (draws c.args.config.now c.args.board s.lines.items s.ended s.buffers c.take-buffer.new.self c.take-buffer.result
    (omega (arith, c.loop-self-test.true, c.len.ensures, s.lines.ok.0)) c.loop-self.invariant.lines c.loop-self.invariant.buffers c.take-buffer.ensures).none

pub start-task-requires-clause-capacity : goal.start-task-requires-clause-capacity
start-task-requires-clause-capacity c =
    let s = c.loop-self.self-inside in
    (draws c.args.config.now c.args.board s.lines.items s.ended s.buffers c.take-buffer.new.self c.take-buffer.result
    (omega (arith, c.loop-self-test.true, c.len.ensures, s.lines.ok.0)) c.loop-self.invariant.lines c.loop-self.invariant.buffers c.take-buffer.ensures).enough

pub invariant_of-self-then-not-is_finished : goal.invariant_of-self-then-not-is_finished
invariant_of-self-then-not-is_finished c =
    let s = c.loop-self.self-inside in
    let within : s.ended < length s.lines.items = omega (arith, c.loop-self-test.true, c.len.ensures, s.lines.ok.0) in
    let after = (draws c.args.config.now c.args.board s.lines.items s.ended s.buffers c.take-buffer.new.self c.take-buffer.result
    within c.loop-self.invariant.lines c.loop-self.invariant.buffers c.take-buffer.ensures).after in
    let on : c.is_finished.result ≡ false = search rules in
    record {
      work = (within, at_work (line_to_do c.advance.new.self) c.advance.ensures.begun (sym c.is_finished.ensures ∙ on));
      left = rw c.loop-self.invariant.script after;
    }

pub returns-then-not-is_finished-clause-turn : goal.returns-then-not-is_finished-clause-turn
returns-then-not-is_finished-clause-turn c =
    let within : c.loop-self.self-inside.ended < length (lines_at c.args.config.now c.args.board)
    = omega (arith, c.loop-self-test.true, c.len.ensures, c.loop-self.invariant.lines, c.loop-self.self-inside.lines.ok.0) in
    let on : c.is_finished.result ≡ false = search rules in
    let next = its_call (line_to_do c.advance.new.self) (at_work (line_to_do c.advance.new.self) c.advance.ensures.begun (sym c.is_finished.ensures ∙ on)) in
    λ machine.
    turn_begins c.args.config.now c.args.board machine c.loop-self.self-inside.script.now c.loop-self.self-inside.lines.items
    c.loop-self.self-inside.ended c.start-task.result c.advance.new.self next.0 within c.start-task.ensures.line c.advance.ensures.task next.1
    ∙ c.loop-self.invariant.turn machine

pub returns-then-not-is_finished-clause-begun : goal.returns-then-not-is_finished-clause-begun
returns-then-not-is_finished-clause-begun c =
    let within : c.loop-self.self-inside.ended < length (lines_at c.args.config.now c.args.board)
    = omega (arith, c.loop-self-test.true, c.len.ensures, c.loop-self.invariant.lines, c.loop-self.self-inside.lines.ok.0) in
    let on : c.is_finished.result ≡ false = search rules in
    let next = its_call (line_to_do c.advance.new.self) (at_work (line_to_do c.advance.new.self) c.advance.ensures.begun (sym c.is_finished.ensures ∙ on)) in
    begun_begins c.args.config.now c.args.board c.loop-self.self-inside.script.now c.loop-self.self-inside.lines.items
    c.loop-self.self-inside.ended c.start-task.result c.advance.new.self next.0 within c.start-task.ensures.line c.advance.ensures.task next.1
    ∙ c.loop-self.invariant.begun

pub loop-self-preserved-in-Some : goal.loop-self-preserved-in-Some
loop-self-preserved-in-Some c =
    let s = c.loop-self.self-inside in
    let answer = Refused c.in-Some.fault in
    let lines : (with_items s.lines c.put_answer.new.lines).items ≡ c.put_answer.new.lines
    = with_items_is s.lines c.put_answer.new.lines (ap length c.put_answer.ensures ∙ length-set _ _ _ ∙ c.deref_mut.ensures.len) in
    let put : c.put_answer.new.lines ≡ slice_set s.lines.items s.ended ((slice_index_or s.lines.items s.ended (0, answer)).0, answer)
    = rw c.deref_mut.ensures.value at c.put_answer.ensures in
    record {
      script = c.loop-self.invariant.script;
      idle = c.loop-self.invariant.idle;
      lines = ap length (lines ∙ put) ∙ length-set _ _ _ ∙ c.loop-self.invariant.lines;
      buffers =
          (draws c.args.config.now c.args.board s.lines.items s.ended s.buffers c.take-buffer.new.self c.take-buffer.result
          (omega (arith, c.loop-self-test.true, c.len.ensures, s.lines.ok.0)) c.loop-self.invariant.lines c.loop-self.invariant.buffers c.take-buffer.ensures).after;
      turn = λ machine.
          rw (lines, put)
          (turn_refused c.args.config.now c.args.board s.script.now s.lines.items s.ended c.line.result.now c.in-Some.fault
          c.loop-self.invariant.script c.line.ensures (rw c.in-Some.is at c.refusal_if.ensures) machine
          ∙ c.loop-self.invariant.turn machine);
      begun =
          rw (lines, put)
          (begun_refused c.args.config.now c.args.board s.script.now s.lines.items s.ended c.line.result.now c.in-Some.fault
          c.loop-self.invariant.script c.line.ensures (rw c.in-Some.is at c.refusal_if.ensures)
          ∙ c.loop-self.invariant.begun);
    }

pub loop-self-preserved : goal.loop-self-preserved
loop-self-preserved c =
    let s = c.loop-self.self-inside in
    let answer = c.unwrap-answer.result in
    let within : s.ended < length (lines_at c.args.config.now c.args.board)
    = omega (arith, c.loop-self-test.true, c.len.ensures, c.loop-self.invariant.lines, s.lines.ok.0) in
    let lines : (with_items s.lines c.put_answer-in-loop-self.new.lines).items ≡ c.put_answer-in-loop-self.new.lines
    = with_items_is s.lines c.put_answer-in-loop-self.new.lines (ap length c.put_answer-in-loop-self.ensures ∙ length-set _ _ _ ∙ c.deref_mut-in-loop-self.ensures.len) in
    let put : c.put_answer-in-loop-self.new.lines ≡ slice_set s.lines.items s.ended ((slice_index_or s.lines.items s.ended (0, answer)).0, answer)
    = rw c.deref_mut-in-loop-self.ensures.value at c.put_answer-in-loop-self.ensures in
    record {
      script = c.loop-self.invariant.script;
      idle = c.loop-self.invariant.idle;
      lines = ap length (lines ∙ put) ∙ length-set _ _ _ ∙ c.loop-self.invariant.lines;
      buffers =
          (draws c.args.config.now c.args.board s.lines.items s.ended s.buffers c.take-buffer.new.self c.take-buffer.result
          (omega (arith, c.loop-self-test.true, c.len.ensures, s.lines.ok.0)) c.loop-self.invariant.lines c.loop-self.invariant.buffers c.take-buffer.ensures).after;
      turn = λ machine.
          rw (lines, put)
          (turn_passes c.args.config.now c.args.board machine s.script.now s.lines.items s.ended c.start-task.result
          c.advance.new.self answer within c.start-task.ensures.line c.advance.ensures.task
          (ends_so (line_to_do c.advance.new.self) answer (rw c.unwrap-answer.ensures at c.into_reply.ensures))
          ∙ c.loop-self.invariant.turn machine);
      begun =
          rw (lines, put)
          (begun_passes c.args.config.now c.args.board s.script.now s.lines.items s.ended c.start-task.result
          c.advance.new.self answer within c.start-task.ensures.line c.advance.ensures.task
          (ends_so (line_to_do c.advance.new.self) answer (rw c.unwrap-answer.ensures at c.into_reply.ensures))
          ∙ c.loop-self.invariant.begun);
    }
