-- Defines what holds at each transition of one order.
use Rattle.std.specs.Prelude.{ℕ, ◌≡◌, List, Some}
use Rattle.vme_arbiter.specs.declared.command.ArbCmd.TheVariants as commands
use Rattle.vme_core.specs.declared.event.Event.{Event}
use Rattle.vme_core.specs.declared.event.Event.TheVariants as events
use Rattle.vme_core.specs.Runs.{Transition}
use Rattle.vme_core.specs.Calls.{Call, OnBoard, OnBus, call_of, machine_step}
use Rattle.vme_script.specs.Configurations.{Configuration}
use Rattle.vme_line_task.specs.Scripts.{slot_at}
use Rattle.vme_line_task.specs.Tenures.{IsLocal}
use Rattle.vme_stepper.specs.Turns.{state_after}
use Rattle.vme_run.specs.Orders.{machine_after, slots_of}
use Rattle.vme_runner.specs.TurnCalls.{turn_call}

-- a transition is the call of a turn: turns of the slots of the processors before it lead to the machine there, the
-- next turn of its processor's slot makes its call, and its reply is that of the machine there
pub record IsTurnAfter (config : Configuration) (before : List Transition) (m : Transition) : Type 0 where
  pub machine : (state_after config (slots_of config before)).machine ≡ machine_after config before
  pub call :
      turn_call config (state_after config (slots_of config before)) (slot_at config m.who) ≡ Some (m.who, call_of m.event)
  pub reply : m.reply ≡ (machine_step (machine_after config before) m.who (call_of m.event)).1

-- a call goes over the bus: it is a command to a board, and not one of the local port
abbrev pub IsOverBus : Call → Type 0
IsOverBus (OnBoard place command) = IsLocal command → ⊥
IsOverBus (OnBus cmd) = ⊥

-- a transition moves data over the bus
abbrev pub MovesData : Transition → Type 0
MovesData m = IsOverBus (call_of m.event)

-- an event gives the bus back
abbrev pub IsRelease : Event → Type 0
IsRelease (events.Bus (commands.Done slot)) = Unit {0}
IsRelease event = ⊥

-- a transition of a processor gives the bus back
abbrev pub Releases : ℕ → Transition → Type 0
Releases who m = (m.who ≡ who) × IsRelease m.event
