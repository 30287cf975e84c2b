use Rattle.std.proofs.Common.{◌≡◌, ℕ, List, length, Option, refl, sym, ◌∙◌, ap, slice_set, slice_index_or}
use Rattle.std.specs.Vec.{with_items}
use Rattle.std.proofs.lemmas.List.{with_items_is}
use Rattle.vme_core.specs.Calls.{machine_step}
use Rattle.vme_core.specs.Runs.{Machine}
use Rattle.vme_core.proofs.lemmas.NextSteps.{is_begun, at_work, its_call, its_result}
use Rattle.vme_shared.specs.declared.reply.LineReply.{LineReply}
use Rattle.vme_script.specs.declared.script.ScriptLine.{ScriptLine}
use Rattle.vme_line_task.specs.declared.task.LineTask.{LineTask}
use Rattle.vme_line_task.specs.Machine.{line_to_do}
use Rattle.vme_stepper.specs.Steppers.{ProcessorView}
use Rattle.vme_stepper.proofs.Calls.{made_by, ends_if}
use Rattle.vme_stepper.proofs.Turning.{turn_goes_on, turn_ends}
use Rattle.vme_stepper.proofs.processor.Processor.advance_on.Goals as goal

-- the processor with these fields
abbrev processor_with : List ScriptLine → List (ℕ × LineReply) → ℕ → Option LineTask → ProcessorView
processor_with script lines ended at = record { script = script; lines = lines; ended = ended; at = at }

-- a task that has not ended has a call to make
pub invariant_of-self-else-step_on : goal.invariant_of-self-else-step_on
invariant_of-self-else-step_on c =
    let sound = rw c.in-Some.is at c.self.invariant.work in
    let begun = is_begun (line_to_do c.in-Some.task) sound.1 in
    record {
      work = (sound.0, at_work (line_to_do c.step_on.new.self) (c.step_on.ensures.step.begun begun) (ends_if (line_to_do c.in-Some.task) (line_to_do c.step_on.new.self) c.step_on.result sound.1 c.step_on.ensures.ended ∙ c.if-step_on.false));
      left = rw c.in-Some.is at c.self.invariant.left;
    }

pub returns-else-step_on-clause-below : goal.returns-else-step_on-clause-below
returns-else-step_on-clause-below c =
    c.step_on.ensures.below (length c.args.core.now.boards) (rw (← c.self.view_is, c.in-Some.is) at c.requires.below)

pub returns-else-step_on-clause-turn : goal.returns-else-step_on-clause-turn
returns-else-step_on-clause-turn c =
    let sound = rw c.in-Some.is at c.self.invariant.work in
    let is = ap (processor_with c.self.inside.script.now c.self.inside.lines.items c.self.inside.ended) (sym c.in-Some.is) ∙ c.self.view_is in
    let call = its_call (line_to_do c.in-Some.task) sound.1 in
    let reply = (machine_step c.args.core.now c.args.board call.0).1 in
    let begun = is_begun (line_to_do c.in-Some.task) sound.1 in
    let made =
    made_by c.args.board c.args.core.now c.step_on.new.core c.in-Some.task c.step_on.new.self call.0 call.1 c.step_on.ensures.step in
    let step = ap (λ (r : Machine × LineTask). (r.0, reply)) made in
    let given = ap (λ (r : Machine × LineTask). r.1) made in
    let next = its_call (line_to_do c.step_on.new.self)
    (at_work (line_to_do c.step_on.new.self) (c.step_on.ensures.step.begun begun) (ends_if (line_to_do c.in-Some.task) (line_to_do c.step_on.new.self) c.step_on.result sound.1 c.step_on.ensures.ended ∙ c.if-step_on.false)) in
    λ config processor over.
    turn_goes_on config c.args.board c.args.core.now c.step_on.new.core c.args.self.now c.self.inside.script.now c.self.inside.lines.items c.self.inside.ended c.in-Some.task
    c.step_on.new.self call.0 next.0 reply is processor.lines sound.0 (sym call.1) step given next.1

pub returns-then-step_on-clause-turn : goal.returns-then-step_on-clause-turn
returns-then-step_on-clause-turn c =
    let sound = rw c.in-Some.is at c.self.invariant.work in
    let ended = ends_if (line_to_do c.in-Some.task) (line_to_do c.step_on.new.self) c.step_on.result sound.1 c.step_on.ensures.ended in
    let end = its_result (line_to_do c.step_on.new.self) (ended ∙ c.if-step_on.true) in
    let is = ap (processor_with c.self.inside.script.now c.self.inside.lines.items c.self.inside.ended) (sym c.in-Some.is) ∙ c.self.view_is in
    let call = its_call (line_to_do c.in-Some.task) sound.1 in
    let reply = (machine_step c.args.core.now c.args.board call.0).1 in
    let made =
    made_by c.args.board c.args.core.now c.step_on.new.core c.in-Some.task c.step_on.new.self call.0 call.1 c.step_on.ensures.step in
    let step = ap (λ (r : Machine × LineTask). (r.0, reply)) made in
    let given = ap (λ (r : Machine × LineTask). r.1) made in
    let put : c.end_line.new.lines ≡ slice_set c.self.inside.lines.items c.self.inside.ended
    ((slice_index_or c.self.inside.lines.items c.self.inside.ended (0, end.0)).0, end.0)
    = rw c.deref_mut.ensures.value at c.end_line.ensures.put c.step_on.new.self end.0 refl (sym end.1) in
    let lines : (with_items c.self.inside.lines c.end_line.new.lines).items ≡ c.end_line.new.lines
    = with_items_is c.self.inside.lines c.end_line.new.lines (c.end_line.ensures.len ∙ c.deref_mut.ensures.len) in
    λ config processor over.
    rw (lines, put, c.end_line.ensures.idle)
    (turn_ends config c.args.board c.args.core.now c.step_on.new.core c.args.self.now c.self.inside.script.now c.self.inside.lines.items c.self.inside.ended c.in-Some.task
    c.step_on.new.self call.0 end.0 reply is processor.lines sound.0 (sym call.1) step given end.1)
