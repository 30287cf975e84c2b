-- The calls of a line, one after another, each with the reply to it.
use Rattle.std.specs.Prelude.{ℕ, ◌+◌, ◌-◌, ◌^◌, ◌≤◌, zero, suc, ◌∷◌, Option, Some, None}
use Rattle.vme_core.specs.Runs.{Machine}
use Rattle.vme_core.specs.Calls.{Call, machine_step}
use Rattle.vme_core.specs.NextSteps.{NextStep, call_in}
use Rattle.vme_master.specs.Tables.{Inputs}
use Rattle.vme_shared.specs.declared.reply.LineReply.{LineReply}
use Rattle.vme_line_task.specs.declared.task.LineTask.{LineTask}
use Rattle.vme_line_task.specs.Machine.{line_to_do, line_advanced}
use Rattle.vme_stepper.specs.Steppers.{StepsWithin}

-- each object can count so many further steps
pub record CanCountMore (left : ℕ) (machine : Machine) : Type 0 where
  pub most : ℕ
  pub within : StepsWithin most machine
  pub sum : most + left ≤ 2 ^ 64 - 1

-- a machine after calls, how many more can be counted, and what the line was given, the newest first
pub record CallsMade : Type 0 where
  pub machine : Machine
  pub left : ℕ
  pub given : Inputs

-- a call of the processor `who`, with which its line goes on; without a call nothing changes
abbrev pub call_made : Option Call → ℕ → ℕ → Machine → Inputs → (Machine → Inputs → CallsMade) → CallsMade
call_made None who left machine given after = record { machine = machine; left = suc left; given = given }
call_made (Some call) who left machine given after =
    let step = machine_step machine who call in after step.0 (Some step.1 ∷ given)

-- the calls of a line of the processor `who`, by what the line does next, from what it was given so far: until it makes
-- no further one, or no more can be counted
abbrev pub calls_made : (Inputs → NextStep LineReply) → ℕ → ℕ → Machine → Inputs → CallsMade
calls_made next who zero machine given = record { machine = machine; left = 0; given = given }
calls_made next who (suc left) machine given =
    call_made (call_in (next given)) who left machine given (calls_made next who left)

-- what a line with this task does next, by all that it is given
abbrev pub next_of_task : LineTask → Inputs → NextStep LineReply
next_of_task task given = line_to_do (line_advanced task given)
