-- A run of the machine as its events show it: each event is one step of a board's memory or of the arbiter.
use Rattle.std.specs.Prelude.{ℕ, ◌≡◌, ◌<◌, List, [], ◌∷◌, length, Option}
use Rattle.vme_memory.specs.Locals.{command_given}
use Rattle.vme_memory.specs.Steps.{Command}
use Rattle.vme_arbiter.specs.declared.command.ArbCmd.TheVariants.{Ask, Look, Done}
use Rattle.vme_core.specs.Runs.{Machine}
use Rattle.vme_core.specs.Calls.{Call, OnBoard, OnBus, machine_step}
use Rattle.vme_script.specs.Configurations.{Configuration}
use Rattle.vme_line_task.specs.Scripts.{slot_at, level_at}
use Rattle.vme_line_task.specs.Events.{IsCallBelow}
use Rattle.vme_trace.specs.declared.observation.activity.Activity.{Activity}
use Rattle.vme_trace.specs.declared.observation.activity.Activity.TheVariants.{Requests, Polls, Releases, Transfers, Local, Other}
use Rattle.vme_trace.specs.declared.observation.Observation.{Observation}
use Rattle.vme_trace.specs.Grants.{grant_of}
use Rattle.vme_trace.specs.Slots.{has_ended}
use Rattle.vme_trace_laws.specs.Transfers.{OpenTransfer}
use Rattle.vme_trace_laws.specs.Commands.{IsTransferShown, GoesOn}

-- what the processor of a board with this index, slot and level is shown to do is its call: a command of its slot to the
-- arbiter, a command to the selected board, or its command to its own local port
abbrev pub IsShownAs : ℕ → ℕ → ℕ → Activity → Call → Type 0
IsShownAs board slot level Requests call = call ≡ OnBus (Ask slot level)
IsShownAs board slot level Polls call = call ≡ OnBus (Look slot)
IsShownAs board slot level (Releases signals) call = call ≡ OnBus (Done slot)
IsShownAs board slot level (Transfers datum) call = (command : Option Command) × (call ≡ OnBoard datum.board command)
IsShownAs board slot level (Local cmd) call = call ≡ OnBoard board (command_given cmd)
IsShownAs board slot level Other call = ⊥

-- an event is one step of the machine: its processor's call, which it shows, with the reply and the grant; in a transfer it
-- shows the datum whose command the call is
pub record IsStepShown (config : Configuration) (before : Machine) (o : Observation) (after : Machine) : Type 0 where
  pub call : Call
  pub there : o.board < length config.boards
  pub below : IsCallBelow (length config.boards) call
  pub slot : o.slot ≡ slot_at config o.board
  pub level : o.level ≡ level_at config o.board
  pub shown : IsShownAs o.board (slot_at config o.board) (level_at config o.board) o.activity call
  pub datum : IsTransferShown config o.activity call
  pub step : (after, o.reply) ≡ machine_step before o.board call
  pub grant : o.grant ≡ grant_of config o.activity o.reply after.bus.object

-- events are the steps of a run of the machine, each shown once and in order
abbrev pub IsRunShown : Configuration → Machine → List Observation → Machine → Type 0
IsRunShown config before [] after = after ≡ before
IsRunShown config before (o ∷ events) after =
    (next : Machine) × IsStepShown config before o next × IsRunShown config next events after

-- events are steps of a run of the machine, and those of each transfer show its data, each once and in order
abbrev pub AreDataInOrder : Configuration → Machine → Option OpenTransfer → List Observation → Type 0
AreDataInOrder config before going [] = Unit {0}
AreDataInOrder config before going (o ∷ events) =
    (after : Machine) × (step : IsStepShown config before o after) × (next : Option OpenTransfer)
    × GoesOn config going o.board (has_ended o) o.activity step.call step.datum next × AreDataInOrder config after next events
