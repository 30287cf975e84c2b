-- The diagrams after the events of a run have the values of the dump.
use Rattle.std.proofs.Common.{◌≡◌, ℕ, suc, ◌+◌, Bool, true, false, List, [], ◌∷◌, ◌++◌, length, map, refl, ap, sym, subst, ◌∙◌, arith, append_assoc, length-append}
use Rattle.std.specs.Prelude.{if◌then◌else◌, Option}
use Rattle.std.specs.List.{list_any, flat_map, range_with_len}
use Rattle.std.specs.Option.{option_to_list}
use Rattle.std.specs.Io.KnownBytes.{Appends}
use Rattle.vme_io.proofs.lemmas.Appending.{Appends-none, Appends-more}
use Rattle.vme_script.specs.Configurations.{Configuration}
use Rattle.vme_line_task.specs.Scripts.{lines_at}
use Rattle.vme_stepper.specs.Turns.{board_in_slot, initial_state, state_after}
use Rattle.vme_stepper.specs.Steppers.{StepperView, stepper_of, stepper_turn_at}
use Rattle.vme_stepper.specs.Schedules.{file_turns}
use Rattle.vme_stepper.specs.Reports.{run_text}
use Rattle.vme_trace.specs.declared.observation.Observation.{Observation}
use Rattle.vme_trace.specs.Observations.{observed_at, observed_from, observations}
use Rattle.vme_trace.specs.declared.dump.change.Code.{Code}
use Rattle.vme_trace.specs.declared.dump.change.Change.{Change}
use Rattle.vme_trace.specs.declared.dump.change.Value.{Value}
use Rattle.vme_trace.specs.declared.dump.change.Value.TheVariants.{High}
use Rattle.vme_trace.specs.declared.dump.variable.Variable.TheVariants.{RequestLine, BusyLine}
use Rattle.vme_trace.specs.Variables.{code_of}
use Rattle.vme_trace.specs.Events.{event_changes}
use Rattle.vme_trace.specs.Shown.{value_over, after_event, after_events, value_after_run}
use Rattle.vme_page.specs.declared.diagram.layout.Bar.{Bar}
use Rattle.vme_page.specs.declared.diagram.window.Window.TheVariants.{Whole}
use Rattle.vme_page.specs.Levels.{levels_over, levels_after_run}
use Rattle.vme_page.specs.Layouts.{LayoutView, is_kind, bar_with, bar_of, bars_after_run, bar_past}
use Rattle.vme_page.specs.Diagrams.{IsWholeEvent}
use Rattle.vme_page.specs.Drawings.{DrawingView, ShowsRun}
use Rattle.vme_page.specs.Pages.{Grows, AppendsPage}
use Rattle.vme_page.proofs.Edges.{at_over}

-- the value after one more event of those that follow n others
value_more : (code : Code) (boards n : ℕ) (events : List Observation) (o : Observation) (v : Value)
    → after_events code boards n (events ++ o ∷ []) v
    ≡ value_over code (event_changes boards (n + length events + 1) o) 0 20 (after_events code boards n events v)
value_more code boards n [] o v =
    let number : n + 1 ≡ n + 0 + 1 = omega arith in
    sym (at_over code (event_changes boards (n + 1) o) 19 v) ∙ ap (λ (m : ℕ). value_over code (event_changes boards m o) 0 20 v) number
value_more code boards n (first ∷ events) o v =
    let number : (n + 1) + length events + 1 ≡ n + suc (length events) + 1 = omega arith in
    let next = after_event code boards (n + 1) first v in
    value_more code boards (n + 1) events o next
    ∙ ap (λ (m : ℕ). value_over code (event_changes boards m o) 0 20 (after_events code boards (n + 1) events next)) number

-- the value after one more event of a run
run_more : (code : Code) (boards : ℕ) (events : List Observation) (o : Observation) (v : Value)
    → value_after_run code boards (events ++ o ∷ []) v
    ≡ value_over code (event_changes boards (length events + 1) o) 0 20 (value_after_run code boards events v)
run_more code boards events o v =
    let number : 0 + length events + 1 ≡ length events + 1 = omega arith in
    value_more code boards 0 events o v
    ∙ ap (λ (m : ℕ). value_over code (event_changes boards m o) 0 20 (value_after_run code boards events v)) number

-- the values of the lines of the bus after one more event
levels_next : (boards : ℕ) (events : List Observation) (o : Observation)
    → levels_after_run boards (events ++ o ∷ []) ≡ levels_over (event_changes boards (length events + 1) o) 0 20 (levels_after_run boards events)
unfolding levels_after_run levels_over
levels_next boards events o = simp run_more

-- the changes of an event that follows others of a run
abbrev next_changes : Configuration → List Observation → Observation → List Change
next_changes config events o = event_changes (length config.boards) (length events + 1) o

-- a bar after one more event
bar_next : (config : Configuration) (events : List Observation) (o : Observation) (board : ℕ)
    → bar_past Whole (next_changes config events o) (bar_with config events board) ≡ bar_with config (events ++ o ∷ []) board
bar_next config events o board =
    let boards = length config.boards in
    let request = value_over (code_of (RequestLine board)) (next_changes config events o) 0 20 (value_after_run (code_of (RequestLine board)) boards events High) in
    let busy = value_after_run (code_of (BusyLine board)) boards (events ++ o ∷ []) High in
    ap (λ (v : Value). record (bar_with config events board) { request = request; busy = v }) (sym (run_more (code_of (BusyLine board)) boards events o High))
    ∙ ap (λ (v : Value). record (bar_with config events board) { request = v; busy = busy }) (sym (run_more (code_of (RequestLine board)) boards events o High))

-- a function of each item of a list that has one or none
map_if : {A : Type 0} (b : Bool) (f : A → A) (x y : A) → f x ≡ y → map f (if b then x ∷ [] else []) ≡ (if b then y ∷ [] else [])
map_if true f x y same = ap (λ z. z ∷ []) same
map_if false f x y same = refl

-- a function of each item of two lists
map_append : {A : Type 0} (f : A → A) (xs ys : List A) → map f (xs ++ ys) ≡ map f xs ++ map f ys
map_append f [] ys = refl
map_append f (x ∷ xs) ys = ap (λ rest. f x ∷ rest) (map_append f xs ys)

-- the bars of some boards after one more event
bars_of_next : (config : Configuration) (events : List Observation) (o : Observation) (boards : List ℕ)
    → map (bar_past Whole (next_changes config events o)) (flat_map (bar_of config events) boards) ≡ flat_map (bar_of config (events ++ o ∷ [])) boards
bars_of_next config events o [] = refl
bars_of_next config events o (board ∷ boards) =
    let f = bar_past Whole (next_changes config events o) in
    map_append f (bar_of config events board) (flat_map (bar_of config events) boards)
    ∙ ap (λ (rest : List Bar). map f (bar_of config events board) ++ rest) (bars_of_next config events o boards)
    ∙ ap (λ (first : List Bar). first ++ flat_map (bar_of config (events ++ o ∷ [])) boards)
    (map_if (list_any (is_kind false) (lines_at config board)) f (bar_with config events board) (bar_with config (events ++ o ∷ []) board)
    (bar_next config events o board))

-- the bars after one more event
bars_next : (config : Configuration) (events : List Observation) (o : Observation)
    → map (bar_past Whole (next_changes config events o)) (bars_after_run config events) ≡ bars_after_run config (events ++ o ∷ [])
unfolding bars_after_run
bars_next config events o = bars_of_next config events o (range_with_len 0 (length config.boards))

-- a drawing that shows a run shows one more event of it after all edges of the event
pub shows_more : (config : Configuration) (events : List Observation) (o : Observation) (old new : DrawingView)
    → ShowsRun config events old → new.count ≡ old.count + 1
    → IsWholeEvent (event_changes (length config.boards) (old.count + 1) o) old.diagram new.diagram
    → ShowsRun config (events ++ o ∷ []) new
shows_more config events o old new shows one whole =
    let boards = length config.boards in
    record {
      count = one ∙ ap (λ (n : ℕ). n + 1) shows.count ∙ sym (length-append events (o ∷ []));
      levels = whole.levels
          ∙ ap (λ (n : ℕ). levels_over (event_changes boards (n + 1) o) 0 20 old.diagram.levels) shows.count
          ∙ ap (levels_over (next_changes config events o) 0 20) shows.levels ∙ sym (levels_next boards events o);
      bars = ap (λ (layout : LayoutView). layout.bars) whole.layout
          ∙ ap (λ (n : ℕ). map (bar_past Whole (event_changes boards (n + 1) o)) old.diagram.layout.bars) shows.count
          ∙ ap (map (bar_past Whole (next_changes config events o))) shows.bars ∙ bars_next config events o;
    }

-- the same, by the changes that were pushed
pub shows_drawn :
    (config : Configuration) (events : List Observation) (o : Observation) (given old new : DrawingView) (boards : ℕ) (cleared pushed seen : List Change)
    → given ≡ old → boards ≡ length config.boards → cleared ≡ [] → pushed ≡ cleared ++ event_changes boards (old.count + 1) o → seen ≡ pushed
    → new.count ≡ old.count + 1 → IsWholeEvent seen old.diagram new.diagram → ShowsRun config events given → ShowsRun config (events ++ o ∷ []) new
shows_drawn config events o given old new boards cleared pushed seen same all none push slice one whole shows =
    let changes : seen ≡ event_changes (length config.boards) (old.count + 1) o
    = slice ∙ push ∙ ap (λ (before : List Change). before ++ event_changes boards (old.count + 1) o) none
    ∙ ap (λ (n : ℕ). event_changes n (old.count + 1) o) all in
    shows_more config events o old new (subst (λ (d : DrawingView). ShowsRun config events d) same shows) one
    (subst (λ (cs : List Change). IsWholeEvent cs old.diagram new.diagram) changes whole)

-- the end of a strip changes nothing that is shown
pub kept : (config : Configuration) (events : List Observation) (old new : DrawingView) → new ≡ record old { diagram = record old.diagram { column = 0 } }
    → ShowsRun config events old → ShowsRun config events new
kept config events old new same shows = record {
  count = ap (λ (d : DrawingView). d.count) same ∙ shows.count;
  levels = ap (λ (d : DrawingView). d.diagram.levels) same ∙ shows.levels;
  bars = ap (λ (d : DrawingView). d.diagram.layout.bars) same ∙ shows.bars;
}

-- at the start all events of the run are left
pub all_left : (config : Configuration) (stepper : StepperView) (turns : List ℕ) → stepper ≡ stepper_of config (initial_state config)
    → turns ≡ file_turns config → [] ++ observed_from config stepper turns ≡ observations config (file_turns config)
unfolding observations
all_left config stepper turns is all = rw (is, all) refl

-- the event of a turn, if it has one, and those that are left after it are those that were left before it
pub next_left :
    (config : Configuration) (events : List Observation) (stepper : StepperView) (slot : ℕ) (turns rest : List ℕ) (after : StepperView)
    → turns ≡ slot ∷ rest → after ≡ stepper_turn_at config stepper (board_in_slot config slot)
    → (events ++ option_to_list (observed_at config stepper (board_in_slot config slot))) ++ observed_from config after rest
    ≡ events ++ observed_from config stepper turns
next_left config events stepper slot turns rest after next is =
    let found : List Observation = option_to_list (observed_at config stepper (board_in_slot config slot)) in
    append_assoc events found (observed_from config after rest)
    ∙ ap (λ (s : StepperView). events ++ (found ++ observed_from config s rest)) is
    ∙ ap (λ (all : List ℕ). events ++ observed_from config stepper all) (sym next)

-- the state before the first turn
pub starts_state : (config : Configuration) → state_after config [] ≡ initial_state config
unfolding state_after
starts_state config = refl

-- a byte model that stays has grown by nothing
pub grows_none : (a : Option (List ℕ)) → Grows a a
grows_none a = record { text = []; appends = Appends-none a }

-- a byte model that grew twice has grown
pub grows_more : (a b c : Option (List ℕ)) → Grows a b → Grows b c → Grows a c
grows_more a b c first next = record { text = first.text ++ next.text; appends = Appends-more a b c first.text next.text first.appends next.appends }

-- the head, the diagrams, the report and the end, written one after another, are a page
pub page_written : (config : Configuration) (old headed drawn reported new : Option (List ℕ)) (head end : List ℕ) → Appends old headed head
    → Grows headed drawn → Appends drawn reported (run_text config (file_turns config)) → Appends reported new end → AppendsPage config old new
page_written config old headed drawn reported new head end first second third last = record {
  head = head ++ second.text;
  end = end;
  appends = Appends-more old drawn new (head ++ second.text) (run_text config (file_turns config) ++ end)
      (Appends-more old headed drawn head second.text first second.appends)
      (Appends-more drawn reported new (run_text config (file_turns config)) end third last);
}
