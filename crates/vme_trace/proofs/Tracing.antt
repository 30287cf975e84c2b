-- The text of a run, turn by turn.
use Rattle.std.proofs.Common.{◌≡◌, ℕ, ◌+◌, ◌≤◌, List, [], ◌∷◌, ◌++◌, length, Option, Some, None, IfSome, Result, Ok, Err, OnErr, refl, ap, sym, inl, inr, ◌∙◌, arith, append_assoc}
use Rattle.std.specs.Option.{option_to_list}
use Rattle.std.proofs.lemmas.Bool.{cases_Bool}
use Rattle.std.proofs.lemmas.List.{append-nil}
use Rattle.vme_io.specs.Prefixes.{AppendsPrefix, Gathers}
use Rattle.vme_io.proofs.lemmas.Gathering.{SoFar}
use Rattle.vme_io.proofs.lemmas.Appending.{Appends-none}
use Rattle.vme_script.specs.Configurations.{Configuration}
use Rattle.vme_stepper.specs.Turns.{board_in_slot, initial_state, state_after}
use Rattle.vme_stepper.specs.Schedules.{file_turns}
use Rattle.vme_stepper.specs.Steppers.{StepperView, stepper_of, stepper_turn_at}
use Rattle.vme_trace.specs.Observations.{observed_at, observed_from, observations}
use Rattle.vme_trace.specs.declared.observation.Observation.{Observation}
use Rattle.vme_trace.specs.declared.dump.values.Shown.{Shown}
use Rattle.vme_trace.specs.declared.progress.Selection.{Selection}
use Rattle.vme_trace.specs.declared.progress.Progress.{Progress}
use Rattle.vme_trace.specs.Values.{start_values}
use Rattle.vme_trace.specs.Selections.{start_progress, is_shown}
use Rattle.vme_trace.specs.Dumps.{rest_text, vcd_text}
use Rattle.vme_engines.specs.declared.fault.ProgramFault.{ProgramFault}
use Rattle.vme_engines.specs.Files.{Configures}
use Rattle.vme_engines.specs.Faults.{WritesPrefix}
use Rattle.vme_trace.specs.Traces.{turn_text, turn_progress, turn_values, IsTraceText}

-- the text of what is left begins with that of the next turn
turn_first : (config : Configuration) (p : Progress) (values : List Shown) (found : Option Observation) (later : List Observation)
    → rest_text config p values (option_to_list found ++ later)
    ≡ turn_text config p values found ++ rest_text config (turn_progress p found) (turn_values config p found values) later
turn_first config p values None later = refl
turn_first config p values (Some event) later = refl

-- the text of the turns that are left is that of the next turn, and of those after it
pub turn_next :
    (config : Configuration) (stepper : StepperView) (p : Progress) (values : List Shown) (slot : ℕ) (turns rest : List ℕ) → turns ≡ slot ∷ rest
    → rest_text config p values (observed_from config stepper turns)
    ≡ turn_text config p values (observed_at config stepper (board_in_slot config slot))
    ++ rest_text config (turn_progress p (observed_at config stepper (board_in_slot config slot)))
    (turn_values config p (observed_at config stepper (board_in_slot config slot)) values)
    (observed_from config (stepper_turn_at config stepper (board_in_slot config slot)) rest)
turn_next config stepper p values slot turns rest next =
    ap (λ (all : List ℕ). rest_text config p values (observed_from config stepper all)) next
    ∙ turn_first config p values (observed_at config stepper (board_in_slot config slot))
    (observed_from config (stepper_turn_at config stepper (board_in_slot config slot)) rest)

-- a turn has at most one event
pub number_grows : (p : Progress) (found : Option Observation) → (turn_progress p found).number ≤ p.number + 1
number_grows p None = omega arith
number_grows p (Some event) = omega arith

-- not more events are shown than there are
pub shown_within : (p : Progress) (found : Option Observation) → p.shown ≤ p.number → (turn_progress p found).shown ≤ (turn_progress p found).number
shown_within p None within = within
shown_within p (Some event) within =
    elim (cases_Bool (is_shown p event)) [
      | inl shown ↦ rw shown (omega (arith, within))
      | inr hidden ↦ rw hidden (omega (arith, within))
    ]

-- at the start what is left is the text of the whole run
pub rest_opens : (config : Configuration) (selection : Selection) (stepper : StepperView) (turns : List ℕ) (p : Progress) (values : List Shown)
    → stepper ≡ stepper_of config (initial_state config) → turns ≡ file_turns config → p ≡ start_progress selection
    → values ≡ start_values (length config.boards)
    → rest_text config p values (observed_from config stepper turns) ≡ vcd_text selection config (file_turns config)
unfolding observations vcd_text
rest_opens config selection stepper turns p values is all start first = rw (is, all, start, first) refl

-- before the first turn the text of the run is left
pub so_far_opens : (reported : Option (List ℕ)) (gathered left whole : List ℕ) → left ≡ whole → SoFar reported reported gathered left (gathered ++ whole)
so_far_opens reported gathered left whole same = record {
  prefix = [];
  appends = Appends-none reported;
  split = ap (λ l. gathered ++ l) same;
}

-- if a prefix of the text of the file's own turns was written before a fault, it is that of the trace of the input
pub trace_prefix_written : (selection : Selection) (reported old new : Option (List ℕ)) (end : Result Unit ProgramFault) (config : Configuration)
    → IfSome reported (λ input. Configures input config) → AppendsPrefix old new (vcd_text selection config (file_turns config))
    → IfSome reported (λ input. OnErr end (WritesPrefix (IsTraceText selection input) old new))
trace_prefix_written selection None old new end config configures written = tt
trace_prefix_written selection (Some input) old new (Ok done) config configures written = tt
trace_prefix_written selection (Some input) old new (Err fault) config configures written =
    inr (vcd_text selection config (file_turns config), record { config = config; configures = configures; whole = refl }, written)

-- the state before the first turn
pub opens_state : (config : Configuration) → state_after config [] ≡ initial_state config
unfolding state_after
opens_state config = refl

-- if the call stops after some turns, a prefix of the whole was written
pub so_far_stops : (old new : Option (List ℕ)) (gathered left whole : List ℕ) → SoFar old new gathered left whole → AppendsPrefix old new whole
so_far_stops old new gathered left whole so_far = record {
  prefix = so_far.prefix;
  rest = gathered ++ left;
  split = sym so_far.split ∙ append_assoc so_far.prefix gathered left;
  appends = so_far.appends;
}

-- if all of the text was gathered, nothing is left
pub so_far_over : (old new : Option (List ℕ)) (before after text whole : List ℕ) → Gathers old new before after text → before ++ text ≡ whole
    → SoFar old new after [] whole
so_far_over old new before after text whole gathers same = record {
  prefix = gathers.prefix;
  appends = gathers.appends;
  split = append-nil (gathers.prefix ++ after) ∙ sym gathers.split ∙ same;
}
