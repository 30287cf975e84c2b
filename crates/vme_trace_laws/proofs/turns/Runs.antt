-- A run is the run that its events show.
use Rattle.std.proofs.Common.{◌≡◌, ℕ, ◌<◌, List, [], ◌∷◌, ◌++◌, length, Option, Some, None, refl, ap, sym, subst, append_assoc}
use Rattle.std.specs.Prelude.{slice_get, ◌==◌}
use Rattle.std.specs.List.{position}
use Rattle.std.specs.Option.{option_to_list}
use Rattle.std.proofs.lemmas.List.{append-nil}
use Rattle.std.proofs.lemmas.List.Quantifiers.{position-Some}
use Rattle.vme_core.specs.Runs.{Machine}
use Rattle.vme_script.specs.declared.board.BoardConfig.{BoardConfig}
use Rattle.vme_script.specs.Configurations.{Configuration}
use Rattle.vme_stepper.specs.Turns.{SystemState, board_in_slot, initial_state, state_after}
use Rattle.vme_stepper.specs.Steppers.{StepperView, stepper_turn_at, stepper_of}
use Rattle.vme_stepper.proofs.lemmas.Runs.{turn_more}
use Rattle.vme_trace.specs.declared.observation.Observation.{Observation}
use Rattle.vme_trace.specs.Observations.{observed_at, observed_from, observations}
use Rattle.vme_trace_laws.specs.Steps.{IsRunShown}
use Rattle.vme_trace_laws.proofs.turns.Turns.{IsTurnShown, turn_shown}

-- the index of the board in a slot is that of a board
pub place_below : (boards : List BoardConfig) (slot board : ℕ) → position (λ b. b.slot == slot) boards ≡ Some board → board < length boards
place_below [] slot board found = absurd (cc found)
place_below (first ∷ boards) slot board found = (position-Some (λ (b : BoardConfig). b.slot == slot) (first ∷ boards) board first found).0

module _ (config : Configuration) where
  -- a turn at the index of a board, if there is one, is one step of the machine, if it did something
  at_shown : (system : SystemState) (slot : ℕ) (place : Option ℕ) → board_in_slot config slot ≡ place
      → IsTurnShown config system.machine (observed_at config (stepper_of config system) place) (stepper_turn_at config (stepper_of config system) place).machine
  at_shown system slot None is = refl
  at_shown system slot (Some board) is =
      turn_shown config system board (slice_get system.script_states board) (place_below config.boards slot board is) refl

  -- what a turn did, if it did something, is shown before what later turns did
  joined : (before next after : Machine) (found : Option Observation) (later : List Observation) → IsTurnShown config before found next
      → IsRunShown config next later after → IsRunShown config before (option_to_list found ++ later) after
  joined before next after None later same run = subst (λ (m : Machine). IsRunShown config m later after) same run
  joined before next after (Some o) later step run = (next, step, run)

  -- after some turns, what later turns did is a run of the machine
  later_shown : (before slots : List ℕ)
      → IsRunShown config (state_after config before).machine (observed_from config (stepper_of config (state_after config before)) slots)
      (state_after config (before ++ slots)).machine
  later_shown before [] = ap (λ (all : List ℕ). (state_after config all).machine) (append-nil before)
  later_shown before (slot ∷ slots) =
      let system = state_after config before in
      let stepper : StepperView = stepper_of config system in
      let place = board_in_slot config slot in
      let all = state_after config (before ++ (slot ∷ slots)) in
      let next : stepper_turn_at config stepper place ≡ stepper_of config (state_after config (before ++ slot ∷ []))
      = turn_more config stepper before slot place refl refl in
      let rest : IsRunShown config (state_after config (before ++ slot ∷ [])).machine
      (observed_from config (stepper_of config (state_after config (before ++ slot ∷ []))) slots) all.machine
      = subst (λ (turns : List ℕ). IsRunShown config (state_after config (before ++ slot ∷ [])).machine
      (observed_from config (stepper_of config (state_after config (before ++ slot ∷ []))) slots) (state_after config turns).machine)
      (append_assoc before (slot ∷ []) slots) (later_shown (before ++ slot ∷ []) slots) in
      joined system.machine (stepper_turn_at config stepper place).machine all.machine (observed_at config stepper place)
      (observed_from config (stepper_turn_at config stepper place) slots) (at_shown system slot place refl)
      (subst (λ (s : StepperView). IsRunShown config s.machine (observed_from config s slots) all.machine) (sym next) rest)

  -- the events of turns are a run of the machine from the start
  pub run_shown : (slots : List ℕ) → IsRunShown config (initial_state config).machine (observations config slots) (state_after config slots).machine
  unfolding observations state_after
  run_shown slots = later_shown [] slots
