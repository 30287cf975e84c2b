-- Defines turns as a run of transitions of the boards, the arbiter and the processors.
use Rattle.std.specs.Prelude.{ℕ, ◌≡◌, List, [], ◌∷◌, ◌++◌, length, map, slice_get, Some}
use Rattle.std.specs.Option.{option_to_list}
use Rattle.vme_object.specs.Each.{AllAt}
use Rattle.vme_memory.specs.Locals.{board_step}
use Rattle.vme_arbiter.specs.Arbitration.{opening_bus, arbiter_step}
use Rattle.vme_core.specs.CountedStates.{IsCountedReplay}
use Rattle.vme_core.specs.Runs.{Transition, board_part, bus_part}
use Rattle.vme_core.specs.Calls.{Call, call_of}
use Rattle.vme_script.specs.Configurations.{Configuration, opening_memory}
use Rattle.vme_line_task.specs.Traces.{ScriptState, IsTracePrefix}
use Rattle.vme_bus_objects.specs.Runs.{transitions_of}
use Rattle.vme_stepper.specs.Turns.{SystemState, turn, initial_state, state_after}
use Rattle.vme_runner.specs.TurnCalls.{turn_call}

-- the calls that turns of these slots make, in order, each with the place of the board whose processor makes it
abbrev pub calls_from : Configuration → SystemState → List ℕ → List (ℕ × Call)
calls_from config system [] = []
calls_from config system (slot ∷ slots) =
    option_to_list (turn_call config system slot) ++ calls_from config (turn config system slot) slots

-- the calls of a run, each with the processor that makes it
abbrev pub calls_in : List Transition → List (ℕ × Call)
calls_in run = map (λ m. (m.who, call_of m.event)) run

-- turns of these slots are this run: its calls are theirs, each object is the replay of its own part and has counted
-- it, and each processor has followed its script by its own transitions
pub record AreRun (config : Configuration) (slots : List ℕ) (run : List Transition) : Type 0 where
  pub calls : calls_in run ≡ calls_from config (initial_state config) slots
  pub boards :
      AllAt (λ x memory board. IsCountedReplay board_step memory (board_part x run) (length config.boards) board)
      (map opening_memory config.boards) (state_after config slots).machine.boards
  pub bus :
      IsCountedReplay arbiter_step (opening_bus config.arbiter) (bus_part run) (length config.boards)
      (state_after config slots).machine.bus
  pub script_states :
      (b : ℕ) (c : ScriptState) → slice_get (state_after config slots).script_states b ≡ Some c
      → IsTracePrefix config b (transitions_of b run) c
