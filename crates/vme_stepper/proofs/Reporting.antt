-- The report's entries for the boards, one after another.
use Rattle.std.proofs.Common.{◌≡◌, ℕ, ◌+◌, ◌<◌, ◌≤◌, List, [], ◌∷◌, ◌++◌, length, map, drop, get_or, Some, refl, sym, ap, ◌∙◌, arith, inl, inr}
use Rattle.std.specs.Prelude.{slice_get}
use Rattle.std.proofs.lemmas.List.{append-nil, drop_all, drop-drop, get_or-drop}
use Rattle.std.proofs.lemmas.Option.{same_Some, slice_get_read, slice_get_cases}
use Rattle.vme_memory.specs.Boards.{Board}
use Rattle.vme_core.specs.CountedStates.{CountedState}
use Rattle.vme_shared.specs.declared.reply.LineReply.{LineReply}
use Rattle.vme_report.specs.Boards.{BoardText}
use Rattle.vme_script.specs.declared.board.BoardConfig.{BoardConfig}
use Rattle.vme_script.specs.declared.script.ScriptLine.{ScriptLine}
use Rattle.vme_script.specs.Configurations.{Configuration}
use Rattle.vme_script.specs.Lawful.{IsLawful}
use Rattle.vme_line_task.specs.Scripts.{script_at}
use Rattle.vme_line_task.specs.Traces.{ScriptState}
use Rattle.vme_stepper.specs.Reports.{texts_of_boards, texts_of_system}
use Rattle.vme_stepper.specs.Turns.{SystemState, state_after}
use Rattle.vme_stepper.specs.Steppers.{ProcessorView, StepperView, texts_of_processors, processors_from, stepper_of}
use Rattle.vme_stepper.proofs.Reported.{get_map}
use Rattle.vme_stepper.proofs.lemmas.Places.{slot_found}
use Rattle.vme_stepper.proofs.Turning.{next_first}

-- the value of a counted state is the one at its index in the list of these values
counted_is : {B : Type 0} (f : CountedState Board → B) (counted_states : List (CountedState Board)) (i : ℕ) (counted : CountedState Board) (y : B) → slice_get counted_states i ≡ Some counted
    → slice_get (map f counted_states) i ≡ Some y → f counted ≡ y
counted_is f counted_states i counted y at found = same_Some _ _ (sym (rw at at (get_map f counted_states i)) ∙ found)

-- the entries from board i on are that of board i and those of the boards after it
pub board_more : (boards : List BoardConfig) (processors : List ProcessorView) (counted_states : List (CountedState Board)) (i slot steps : ℕ) (processor : ProcessorView) (lines : List (ℕ × LineReply)) (object : Board)
    (made : List ℕ)
    → slice_get (map (λ board. board.slot) boards) i ≡ Some slot → i < length processors → processor ≡ get_or processors i processor → lines ≡ processor.lines
    → i < length counted_states
    → slice_get (map (λ t. t.object) counted_states) i ≡ Some object → slice_get (map (λ t. t.steps) counted_states) i ≡ Some steps
    → slice_get (map (λ t. t.made) counted_states) i ≡ Some made
    → texts_of_processors (drop i boards) (drop i processors) (drop i counted_states)
    ≡ record { slot = slot; lines = lines; bytes = object.bytes; steps = steps; made = made }
    ∷ texts_of_processors (drop (i + 1) boards) (drop (i + 1) processors) (drop (i + 1) counted_states)
board_more boards processors counted_states i slot steps processor lines object made of_slot there read of_processor within of_object of_steps of_made =
    let own = slot_found boards i slot of_slot in
    elim (slice_get_cases counted_states i).1 [
      | inl at ↦
          rw (next_first boards i own.0 own.1, next_first processors i processor (slice_get_read processors (length processors) i processor refl there read), next_first counted_states i at.0 at.2)
          (rw (
            own.2,
            counted_is (λ t. t.steps) counted_states i at.0 steps at.2 of_steps,
            counted_is (λ t. t.made) counted_states i at.0 made at.2 of_made,
            counted_is (λ t. t.object) counted_states i at.0 object at.2 of_object,
            of_processor,
          ) refl)
      | inr past ↦ absurd (omega (arith, past.0))
    ]

-- after the last board, the entries so far are all entries
pub board_over : (boards : List BoardConfig) (processors : List ProcessorView) (counted_states : List (CountedState Board)) (i : ℕ) (reported : List BoardText) → length boards ≤ i
    → reported ++ texts_of_processors (drop i boards) (drop i processors) (drop i counted_states) ≡ texts_of_processors boards processors counted_states → reported ≡ texts_of_processors boards processors counted_states
board_over boards processors counted_states i reported over whole = sym (append-nil reported) ∙ ap (λ ts. reported ++ ts) (sym (rw (drop_all i boards over) refl)) ∙ whole

-- the report's entries by processors of script states are those by the script states
script_states_reported : (config : Configuration) (boards : List BoardConfig) (scripts : List (List ScriptLine)) (script_states : List ScriptState) (counted_states : List (CountedState Board)) (from : ℕ)
    → drop from config.scripts ≡ scripts → length scripts ≡ length boards
    → texts_of_processors boards (processors_from config from script_states) counted_states ≡ texts_of_boards boards scripts script_states counted_states
script_states_reported config [] scripts script_states counted_states from are count = refl
script_states_reported config (board ∷ boards) [] script_states counted_states from are count = absurd (omega (arith, count))
script_states_reported config (board ∷ boards) (script ∷ scripts) [] counted_states from are count = refl
script_states_reported config (board ∷ boards) (script ∷ scripts) (c ∷ script_states) [] from are count = refl
script_states_reported config (board ∷ boards) (script ∷ scripts) (c ∷ script_states) (counted ∷ counted_states) from are count =
    let there : from + 0 ≡ from = omega arith in
    let own : script_at config from ≡ script
    = ap (λ n. get_or config.scripts n []) (sym there) ∙ sym (get_or-drop from config.scripts 0 []) ∙ ap (λ (ss : List (List ScriptLine)). get_or ss 0 []) are in
    let after : drop (from + 1) config.scripts ≡ scripts = sym (drop-drop 1 from config.scripts) ∙ ap (λ (ss : List (List ScriptLine)). drop 1 ss) are in
    rw (own, script_states_reported config boards scripts script_states counted_states (from + 1) after (omega (arith, count))) refl

-- the entries of the stepper of a system are those of the system
pub system_reported : (config : Configuration) (system : SystemState) → length config.scripts ≡ length config.boards
    → texts_of_processors config.boards (stepper_of config system).processors (stepper_of config system).machine.boards ≡ texts_of_system config system
system_reported config system count = script_states_reported config config.boards config.scripts system.script_states system.machine.boards 0 refl count

-- the entries of a stepper after turns are those of its system
pub stepper_reported : (config : Configuration) (stepper : StepperView) (slots : List ℕ) → IsLawful config → stepper ≡ stepper_of config (state_after config slots)
    → texts_of_processors config.boards stepper.processors stepper.machine.boards ≡ texts_of_system config (state_after config slots)
stepper_reported config stepper slots lawful is =
    ap (λ (d : StepperView). texts_of_processors config.boards d.processors d.machine.boards) is ∙ system_reported config (state_after config slots) lawful.scripts
