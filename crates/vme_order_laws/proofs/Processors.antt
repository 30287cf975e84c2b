-- A turn of a slot is a turn of its processor.
use Rattle.std.proofs.Common.{◌≡◌, ℕ, ◌<◌, List, [], ◌∷◌, ◌++◌, length, map, Option, Some, None, All, refl, ap, sym, ◌∙◌}
use Rattle.std.specs.Prelude.{slice_get, slice_set}
use Rattle.std.proofs.lemmas.List.Elements.{All-head, All-tail}
use Rattle.vme_core.specs.Runs.{Machine}
use Rattle.vme_core.specs.NextSteps.{NextStep, NotStarted, Invokes, Returns}
use Rattle.vme_shared.specs.declared.reply.LineReply.{LineReply}
use Rattle.vme_grammar.specs.declared.line.Line.{Line}
use Rattle.vme_script.specs.Configurations.{Configuration}
use Rattle.vme_script.specs.Lawful.{IsLawful}
use Rattle.vme_line_task.specs.Scripts.{slot_at}
use Rattle.vme_line_task.specs.Tables.{line_next}
use Rattle.vme_line_task.specs.Traces.{ScriptState}
use Rattle.vme_stepper.specs.Turns as stepper
use Rattle.vme_stepper.specs.Turns.{SystemState, script_state, script_state_turn, lines_left, turn}
use Rattle.vme_run.proofs.lemmas.Turns.{own_board}
use Rattle.vme_explore.specs.Runs.{after_turns}
use Rattle.vme_order.specs.Systems.{system_of, next_made, turn_from, turn_of}
use Rattle.vme_order_laws.specs.Processors.{line_course, lines_course, processor_course, machine_takes, stepper_system}

module _ (config : Configuration) where
  -- a turn of a processor with these lines left is the turn of its process
  lines_turn : (b : ℕ) (lines : List Line) (machine : Machine) (c : ScriptState) (states : List ScriptState)
      → next_made machine_takes (system_of machine states) b (lines_course config b lines c)
      ≡ system_of (script_state_turn config b lines machine c).0 (slice_set states b
      (script_state_turn config b lines machine c).1)
  lines_turn b [] machine c states = refl
  lines_turn b (line ∷ lines) machine c states =
      by_next (λ c. lines_turn b lines machine c states) (line_next config b line c.replies)
    where
      by_next : ((c : ScriptState)
          → next_made machine_takes (system_of machine states) b (lines_course config b lines c)
          ≡ system_of (script_state_turn config b lines machine c).0 (slice_set states b
          (script_state_turn config b lines machine c).1))
          → (next : NextStep LineReply)
          → next_made machine_takes (system_of machine states) b (line_course config b line c next (lines_course config b lines))
          ≡ system_of (stepper.turn_by config b line machine c next (script_state_turn config b lines machine)).0
          (slice_set states b (stepper.turn_by config b line machine c next (script_state_turn config b lines machine)).1)
      by_next again NotStarted = refl
      by_next again (Invokes call) = refl
      by_next again (Returns answer) = again (script_state (c.ended ++ answer ∷ []) [])

  -- a turn of a processor in a state, if there is one, is the turn of its process
  state_turn : (s : SystemState) (b : ℕ) (found : Option ScriptState)
      → turn_from machine_takes (processor_course config) (stepper_system s) b found ≡ stepper_system
      (stepper.turn_in config s b found)
  state_turn s b None = refl
  state_turn s b (Some c) = lines_turn b (lines_left config b c) s.machine c s.script_states

  module _ (lawful : IsLawful config) where
    -- a turn of a board's slot is a turn of its processor
    slot_turn : (s : SystemState) (b : ℕ) → b < length config.boards
        → turn_of machine_takes (processor_course config) (stepper_system s) b ≡ stepper_system (turn config s (slot_at config b))
    unfolding turn
    slot_turn s b there =
        state_turn s b (slice_get s.script_states b)
        ∙ ap (λ found. stepper_system (stepper.turn_at config s found)) (sym (own_board config lawful b there))

    -- turns of processors are turns of their slots
    pub slot_turns : (turns : List ℕ) (s : SystemState) → All (λ who. who < length config.boards) turns
        → after_turns (turn_of machine_takes (processor_course config)) (stepper_system s) turns
        ≡ stepper_system (stepper.run config s (map (slot_at config) turns))
    slot_turns [] s known = refl
    slot_turns (who ∷ turns) s known =
        let below = λ (who : ℕ). who < length config.boards in
        ap (λ w. after_turns (turn_of machine_takes (processor_course config)) w turns) (slot_turn s who
        (All-head below who turns known))
        ∙ slot_turns turns (turn config s (slot_at config who)) (All-tail below who turns known)
