-- The call of an event that is given by reference, and the object that takes it.
use Rattle.std.specs.Prelude.{◌≢◌, ◌-◌, ◌^◌, Some}
use Rattle.vme_memory.specs.Locals.{command_given}
use Rattle.vme_core.specs.declared.event.EventRef.{EventRef}
use Rattle.vme_core.specs.declared.event.EventRef.TheVariants as refs
use Rattle.vme_core.specs.declared.event.Target.{Target}
use Rattle.vme_core.specs.declared.event.Target.TheVariants as at
use Rattle.vme_core.specs.Runs.{Machine}
use Rattle.vme_core.specs.Calls.{Call, OnBoard, OnBus}
use Rattle.vme_core.specs.Machines.{IsThere, steps_of}

-- the call of an event that is given by reference
abbrev pub call_asked : EventRef → Call
call_asked (refs.Board board cmd) = OnBoard board (command_given cmd.now)
call_asked (refs.Datum board cycle) = OnBoard board (command_given cycle)
call_asked (refs.Bus cmd) = OnBus cmd

-- the object that takes a call
abbrev pub target_of_call : Call → Target
target_of_call (OnBoard board command) = at.Board board
target_of_call (OnBus cmd) = at.Bus

-- an object exists and can count a further step
pub record CanCount (machine : Machine) (target : Target) : Type 0 where
  pub there : IsThere machine target
  pub unspent : steps_of machine target ≢ Some (2 ^ 64 - 1)
