-- A turn of the stepper is the turn of its system.
use Rattle.std.proofs.Common.{◌≡◌, ℕ, zero, suc, ◌+◌, List, [], ◌∷◌, ◌++◌, Option, Some, None, refl, ap, sym, ◌∙◌, arith}
use Rattle.std.specs.Prelude.{slice_get, slice_set, option_map}
use Rattle.vme_script.specs.Configurations.{Configuration}
use Rattle.vme_line_task.specs.Traces.{ScriptState}
use Rattle.vme_stepper.specs.Turns.{SystemState, turn_in, turn_at, turn, board_in_slot, run, initial_state, state_after}
use Rattle.vme_stepper.specs.Steppers.{stepper_turned, stepper_turn_at, processor_of, processors_from, stepper_of}
use Rattle.vme_stepper.proofs.Processors.{turn_is as processor_turn_is}

module _ (config : Configuration) where
  -- the processor at an index is that of the script state there
  pub processors_get : (from b place : ℕ) (script_states : List ScriptState) → place ≡ from + b
      → slice_get (processors_from config from script_states) b ≡ option_map (processor_of config place) (slice_get script_states b)
  processors_get from b place [] at = refl
  processors_get from zero place (c ∷ script_states) at = let same : from ≡ place = omega arith in ap (λ p. Some (processor_of config p c)) same
  processors_get from (suc b) place (c ∷ script_states) at = processors_get (from + 1) b place script_states (omega arith)

  -- the processors with one replaced are those of the script states with one replaced
  pub processors_set : (from b place : ℕ) (script_states : List ScriptState) (new : ScriptState) → place ≡ from + b
      → slice_set (processors_from config from script_states) b (processor_of config place new) ≡ processors_from config from (slice_set script_states b new)
  processors_set from b place [] new at = refl
  processors_set from zero place (c ∷ script_states) new at =
      let same : place ≡ from = omega arith in ap (λ p. processor_of config p new ∷ processors_from config (from + 1) script_states) same
  processors_set from (suc b) place (c ∷ script_states) new at =
      ap (λ processors. processor_of config from c ∷ processors) (processors_set (from + 1) b place script_states new (omega arith))

  -- a turn of the processor at an index, if there is one, is the turn of the system
  turned_is : (system : SystemState) (board : ℕ) (found : Option ScriptState)
      → stepper_turned config (stepper_of config system) board (option_map (processor_of config board) found) ≡ stepper_of config (turn_in config system board found)
  turned_is system board None = refl
  turned_is system board (Some c) =
      rw (processor_turn_is config board system.machine c)
      (ap (λ processors. record { machine = (turn_in config system board (Some c)).machine; processors = processors })
      (processors_set 0 board board system.script_states _ (omega arith)))

  -- a turn of the stepper at an index is the turn of its system there
  pub turn_at_is : (system : SystemState) (place : Option ℕ) → stepper_turn_at config (stepper_of config system) place ≡ stepper_of config (turn_at config system place)
  turn_at_is system None = refl
  turn_at_is system (Some board) = rw (processors_get 0 board board system.script_states (omega arith)) (turned_is system board (slice_get system.script_states board))

  -- a run with one more turn is a turn after the run
  run_more : (system : SystemState) (slots : List ℕ) (slot : ℕ) → run config system (slots ++ slot ∷ []) ≡ turn config (run config system slots) slot
  run_more system [] slot = refl
  run_more system (first ∷ slots) slot = run_more (turn config system first) slots slot

  -- the stepper of a system after one more turn is the stepper after one more turn
  pub system_more : (slots : List ℕ) (slot : ℕ)
      → stepper_of config (state_after config (slots ++ slot ∷ [])) ≡ stepper_turn_at config (stepper_of config (state_after config slots)) (board_in_slot config slot)
  unfolding state_after turn
  system_more slots slot =
      ap (stepper_of config) (run_more (initial_state config) slots slot) ∙ sym (turn_at_is (run config (initial_state config) slots) (board_in_slot config slot))

  -- the state after no turn is the initial state
  pub system_none : state_after config [] ≡ initial_state config
  unfolding state_after
  system_none = refl
