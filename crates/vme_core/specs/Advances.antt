-- A task that makes its own call on the machine and advances by the reply.
use Rattle.std.specs.Prelude.{ℕ, ◌≡◌, ◌≢◌, Bool, ◌&&◌, length, is_some, Option, Some, None, IfSome}
use Rattle.vme_core.specs.declared.event.EventReply.{EventReply}
use Rattle.vme_core.specs.Runs.{Machine}
use Rattle.vme_core.specs.Calls.{Call, machine_step}
use Rattle.vme_core.specs.Machines.{process_count}
use Rattle.vme_core.specs.EventRefs.{target_of_call, CanCount}
use Rattle.vme_core.specs.NextSteps.{NextStep, NotStarted, call_in, result_in}

-- if there is a call, its object exists and can count a further step
abbrev pub CanMake : Machine → Option Call → Type 0
CanMake machine call = IfSome call (λ call. CanCount machine (target_of_call call))

-- the machine and a task after a call for a processor, if there is one: the task advances by the reply
abbrev pub advanced_on : {T : Type 0} → (T → Option EventReply → T) → Option Call → ℕ → Machine → T → Machine × T
advanced_on advance None who machine task = (machine, task)
advanced_on advance (Some call) who machine task =
    ((machine_step machine who call).0, advance task (Some (machine_step machine who call).1))

-- a task makes its next call for a processor and advances by the reply; without a next call nothing changes. A task
-- that has begun stays begun, and the numbers of boards and of processors stay
pub record AdvancesOn {T R : Type 0} (next : T → NextStep R) (advance : T → Option EventReply → T) (who : ℕ)
    (before after : Machine)
    (old new : T) : Type 0 where
  pub step : (after, new) ≡ advanced_on advance (call_in (next old)) who before old
  pub begun : next old ≢ NotStarted → next new ≢ NotStarted
  pub boards : length after.boards ≡ length before.boards
  pub process_count : process_count after ≡ process_count before

-- whether a task makes a call in its old state and has ended in its new one
abbrev pub ends_by_call : {T R : Type 0} → (T → NextStep R) → T → T → Bool
ends_by_call next old new = is_some (call_in (next old)) && is_some (result_in (next new))
