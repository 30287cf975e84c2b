-- The stepper before the first turn.
use Rattle.std.proofs.Common.{◌≡◌, ℕ, suc, ◌+◌, List, [], ◌∷◌, ◌++◌, length, map, take, Option, Some, None, refl, sym, ap, subst, ◌∙◌, arith}
use Rattle.std.specs.Prelude.{slice_get, option_map}
use Rattle.std.proofs.lemmas.List.{length-map, length-replicate, length-take-le}
use Rattle.std.proofs.lemmas.Option.{same_Some, slice_get_within, get_or_from_slice_get}
use Rattle.vme_memory.specs.Boards.{Board}
use Rattle.vme_core.specs.Runs.{Machine}
use Rattle.vme_core.specs.CountedStates.{fresh_count}
use Rattle.vme_arbiter.specs.Arbitration.{Arbitration, opening_bus}
use Rattle.vme_core.specs.Machines.{opening}
use Rattle.vme_script.specs.declared.script.ScriptLine.{ScriptLine}
use Rattle.vme_script.specs.Configurations.{Configuration, opening_memory}
use Rattle.vme_script.specs.Lawful.{IsLawful}
use Rattle.vme_line_task.specs.Scripts.{script_at}
use Rattle.vme_line_task.specs.Traces.{ScriptState}
use Rattle.vme_stepper.specs.Reports.{numbered_replies}
use Rattle.vme_stepper.specs.Turns.{script_state, initial_state}
use Rattle.vme_stepper.specs.Steppers.{ProcessorView, processor_of, processors_from, stepper_of, IsProcessorOf, IsStepperOf}
use Rattle.vme_stepper.proofs.Reported.{reported_length, reported_none, unfinished, get_map, map_next}
use Rattle.vme_stepper.proofs.SystemStates.{processors_get}

-- the script state in which no line has a reply
abbrev pub fresh_script_state : List ScriptLine → ScriptState
fresh_script_state script = script_state [] []

module _ (config : Configuration) where
  -- the processors of script states, with the processor of one more appended, are those of all of them
  processors_push : (from place : ℕ) (script_states : List ScriptState) (c : ScriptState) → place ≡ from + length script_states
      → processors_from config from (script_states ++ c ∷ []) ≡ processors_from config from script_states ++ processor_of config place c ∷ []
  processors_push from place [] c at = let same : from ≡ place = omega arith in ap (λ p. processor_of config p c ∷ []) same
  processors_push from place (first ∷ script_states) c at = ap (λ processors. processor_of config from first ∷ processors) (processors_push (from + 1) place script_states c (omega arith))

  -- there are as many processors as script states
  processors_length : (from : ℕ) (script_states : List ScriptState) → length (processors_from config from script_states) ≡ length script_states
  processors_length from [] = refl
  processors_length from (c ∷ script_states) = ap suc (processors_length (from + 1) script_states)

  -- the processor of a script of which no line has ended
  fresh_processor : (board : ℕ) (script : List ScriptLine) → slice_get config.scripts board ≡ Some script
      → record { script = script; lines = map unfinished script; ended = 0; at = None } ≡ processor_of config board (script_state [] [])
  fresh_processor board script found =
      let processor : List ScriptLine → ProcessorView = λ s. record { script = s; lines = numbered_replies s []; ended = 0; at = None } in
      let unreported : ProcessorView = record { script = script; lines = map unfinished script; ended = 0; at = None } in
      let at_none : unreported ≡ processor script = rw (reported_none script) refl in
      at_none ∙ ap processor (sym (get_or_from_slice_get config.scripts board script [] found))

  -- the processors before their first lines, with that of the next board appended, are those of one board more
  pub processors_next : (board : ℕ) (script : List ScriptLine) → slice_get config.scripts board ≡ Some script
      → processors_from config 0 (map fresh_script_state (take board config.scripts)) ++ record { script = script; lines = map unfinished script; ended = 0; at = None } ∷ []
      ≡ processors_from config 0 (map fresh_script_state (take (board + 1) config.scripts))
  processors_next board script found =
      let within = slice_get_within config.scripts board script found in
      let script_states : List ScriptState = map fresh_script_state (take board config.scripts) in
      ap (λ processor. processors_from config 0 script_states ++ processor ∷ []) (fresh_processor board script found)
      ∙ sym (processors_push 0 board script_states (script_state [] []) (omega (arith, length-map (take board config.scripts) fresh_script_state, length-take-le board config.scripts (omega arith))))
      ∙ ap (processors_from config 0)
      (sym (map_next fresh_script_state config.scripts board (script_state [] []) (get_map fresh_script_state config.scripts board ∙ ap (option_map fresh_script_state) found)))

  -- a machine of zero memories and processors before their first lines are the stepper of the initial state
  pub opens : (machine : Machine) (processors : List ProcessorView) (memories : List Board) (bus : Arbitration) (k : ℕ) → machine ≡ opening memories bus k
      → memories ≡ map opening_memory config.boards → bus ≡ opening_bus config.arbiter → k ≡ length config.boards → processors ≡ processors_from config 0 (initial_state config).script_states
      → record { machine = machine; processors = processors } ≡ stepper_of config (initial_state config)
  opens machine processors memories bus k is zeros kind process_count own = rw (is, zeros, kind, process_count, own) refl

  -- the processor of a script before its first line is one of the configuration
  by_script : (b : ℕ) (processor : ProcessorView) (found : Option (List ScriptLine)) → slice_get config.scripts b ≡ found
      → option_map (processor_of config b) (option_map fresh_script_state found) ≡ Some processor → IsProcessorOf config b processor
  by_script b processor None is at = absurd (cc at)
  by_script b processor (Some script) is at =
      subst (IsProcessorOf config b) (same_Some _ _ at)
      (record {
        script = refl;
        lines = reported_length (script_at config b) [] ∙ sym (length-map (script_at config b) (λ (one : ScriptLine). one.line));
        below = tt;
      })

  -- the stepper of the initial state is one of the configuration
  pub opens_soundly : IsLawful config → IsStepperOf config (stepper_of config (initial_state config))
  opens_soundly lawful = record {
    boards = length-map (map opening_memory config.boards) (fresh_count (length config.boards)) ∙ length-map config.boards opening_memory;
    process_count = length-replicate (length config.boards) 0;
    count = processors_length 0 (map fresh_script_state config.scripts) ∙ length-map config.scripts fresh_script_state ∙ lawful.scripts;
    each = λ b processor found.
        by_script b processor (slice_get config.scripts b) refl
        (ap (option_map (processor_of config b)) (sym (get_map fresh_script_state config.scripts b))
        ∙ sym (processors_get config 0 b b (map fresh_script_state config.scripts) (omega arith)) ∙ found);
  }
