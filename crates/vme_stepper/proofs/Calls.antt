-- The calls of current lines: they go to boards of the configuration, and their objects can count them.
use Rattle.std.proofs.Common.{◌≡◌, ℕ, ◌-◌, ◌^◌, Bool, ◌&&◌, is_some, length, Some, refl, ap, sym, ◌∙◌}
use Rattle.vme_core.specs.declared.event.Target.TheVariants as at
use Rattle.vme_core.specs.Runs.{Machine}
use Rattle.vme_core.specs.Calls.{Call, OnBoard, OnBus}
use Rattle.vme_core.specs.EventRefs.{target_of_call, CanCount}
use Rattle.vme_core.specs.NextSteps.{NextStep, NotStarted, Invokes, Returns, MakesCall, call_in, result_in}
use Rattle.vme_core.specs.Advances.{CanMake, advanced_on, AdvancesOn}
use Rattle.vme_line_task.specs.declared.task.LineTask.{LineTask}
use Rattle.vme_shared.specs.declared.reply.LineReply.{LineReply}
use Rattle.vme_line_task.specs.Machine.{line_advance, line_to_do, IsLineBelow}
use Rattle.vme_line_task.proofs.lemmas.Below.{calls_below}
use Rattle.vme_stepper.specs.Steppers.{StepsWithin}
use Rattle.vme_stepper.proofs.Steps.{none_spent}

-- the object of a line's call exists and can count it
can_call : (machine : Machine) (task : LineTask) (call : Call) → IsLineBelow (length machine.boards) task → StepsWithin (2 ^ 64 - 2) machine
    → line_to_do task ≡ Invokes call → CanCount machine (target_of_call call)
can_call machine task (OnBoard board command) below steps makes = record {
  there = calls_below (length machine.boards) task _ below makes;
  unspent = λ spent. none_spent machine (at.Board board) steps spent;
}
can_call machine task (OnBus cmd) below steps makes = record {
  there = tt;
  unspent = λ spent. none_spent machine at.Bus steps spent;
}

-- the machine can make the call of a next step, if it has one
can_next : (machine : Machine) (task : LineTask) (next : NextStep LineReply) → line_to_do task ≡ next → IsLineBelow (length machine.boards) task
    → StepsWithin (2 ^ 64 - 2) machine → CanMake machine (call_in next)
can_next machine task NotStarted is below steps = tt
can_next machine task (Invokes call) is below steps = can_call machine task call below steps is
can_next machine task (Returns answer) is below steps = tt

-- the machine can make a line's call, if the line has one
pub can_make : (machine : Machine) (task : LineTask) → IsLineBelow (length machine.boards) task → StepsWithin (2 ^ 64 - 2) machine
    → CanMake machine (call_in (line_to_do task))
can_make machine task below steps = can_next machine task (line_to_do task) refl below steps

-- a task that had a call to make has ended with it if it has ended after it
pub ends_if : {R : Type 0} (old new : NextStep R) (ended : Bool) → MakesCall old → ended ≡ (is_some (call_in old) && is_some (result_in new))
    → is_some (result_in new) ≡ ended
ends_if NotStarted new ended makes is = absurd makes
ends_if (Invokes call) new ended makes is = sym is
ends_if (Returns result) new ended makes is = absurd makes

-- the machine and the line after the line's call
pub made_by : (who : ℕ) (before after : Machine) (task new : LineTask) (call : Call) → Invokes call ≡ line_to_do task
    → AdvancesOn line_to_do line_advance who before after task new
    → ◌≡◌ {A = Machine × LineTask} (after, new) (advanced_on line_advance (Some call) who before task)
made_by who before after task new call makes it =
    it.step ∙ ap (λ (next : NextStep LineReply). advanced_on line_advance (call_in next) who before task) (sym makes)
