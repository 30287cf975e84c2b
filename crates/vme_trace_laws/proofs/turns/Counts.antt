-- How many events of a run are shown on each object.
use Rattle.std.proofs.Common.{◌≡◌, ℕ, zero, suc, ◌+◌, ◌<◌, Bool, true, false, if◌then◌else◌, List, [], ◌∷◌, length, map, Option, Some, refl, ap, sym, subst, ◌∙◌, arith, inl, inr}
use Rattle.std.specs.Prelude.{slice_get, slice_set, option_map, filter, ◌==◌}
use Rattle.std.specs.List.{sum_by}
use Rattle.std.proofs.lemmas.Bool.Decides.{eqb_tells}
use Rattle.std.proofs.lemmas.List.{length-set, length-map}
use Rattle.std.proofs.lemmas.List.Sums.{sum_by-cons}
use Rattle.std.proofs.lemmas.Option.{same_Some, slice_get_cases}
use Rattle.vme_memory.specs.Boards.{Board}
use Rattle.vme_memory.specs.Steps.{Command}
use Rattle.vme_core.specs.declared.event.EventReply.{EventReply}
use Rattle.vme_core.specs.declared.event.Target.{Target}
use Rattle.vme_core.specs.declared.event.Target.TheVariants as at
use Rattle.vme_core.specs.CountedStates.{CountedState, fresh_count}
use Rattle.vme_core.specs.Runs.{Machine}
use Rattle.vme_core.specs.Calls.{Call, OnBoard, OnBus, command_step, counted_step, board_after, machine_step}
use Rattle.vme_core.specs.Machines.{IsThere, steps_of}
use Rattle.vme_script.specs.Configurations.{Configuration, opening_memory}
use Rattle.vme_line_task.specs.Scripts.{slot_at, level_at}
use Rattle.vme_line_task.specs.Events.{IsCallBelow}
use Rattle.vme_stepper.specs.Turns.{initial_state, state_after}
use Rattle.vme_trace.specs.declared.observation.activity.Activity.{Activity}
use Rattle.vme_trace.specs.declared.observation.activity.Activity.TheVariants.{Requests, Polls, Releases, Transfers, Local, Other}
use Rattle.vme_trace.specs.declared.observation.Observation.{Observation}
use Rattle.vme_trace.specs.Observations.{observations}
use Rattle.vme_trace_laws.specs.Steps.{IsShownAs, IsStepShown, IsRunShown}
use Rattle.vme_trace_laws.specs.Counts.{is_on, is_shown_on, all_steps}
use Rattle.vme_trace_laws.proofs.turns.Elements.{get_map, get_set, get_other}
use Rattle.vme_trace_laws.proofs.turns.Runs.{run_shown}

-- 1 for what is counted
abbrev counted : Bool → ℕ
counted b = if b then 1 else 0

-- whether a call is a step of an object
abbrev takes : Call → Target → Bool
takes (OnBus cmd) at.Bus = true
takes (OnBoard x command) (at.Board board) = x == board
takes call target = false

-- an event is shown on the object that its call is a step of
shown_on : (board slot level : ℕ) (activity : Activity) (call : Call) (target : Target) → IsShownAs board slot level activity call
    → is_on board activity target ≡ takes call target
shown_on board slot level Requests call at.Bus is = rw is refl
shown_on board slot level Requests call (at.Board x) is = rw is refl
shown_on board slot level Polls call at.Bus is = rw is refl
shown_on board slot level Polls call (at.Board x) is = rw is refl
shown_on board slot level (Releases signals) call at.Bus is = rw is refl
shown_on board slot level (Releases signals) call (at.Board x) is = rw is refl
shown_on board slot level (Transfers datum) call at.Bus is = rw is.1 refl
shown_on board slot level (Transfers datum) call (at.Board x) is = rw is.1 refl
shown_on board slot level (Local cmd) call at.Bus is = rw is refl
shown_on board slot level (Local cmd) call (at.Board x) is = rw is refl
shown_on board slot level Other call target is = absurd is

-- the steps of a board
abbrev steps_in : CountedState Board → ℕ
steps_in board = board.steps

-- one more step of one board is one more step of all
set_sum : (boards : List (CountedState Board)) (x : ℕ) (old new : CountedState Board) → slice_get boards x ≡ Some old → new.steps ≡ old.steps + 1
    → sum_by steps_in (slice_set boards x new) ≡ sum_by steps_in boards + 1
set_sum [] x old new found more = absurd (cc found)
set_sum (b ∷ boards) zero old new found more =
    let same : b.steps ≡ old.steps = ap steps_in (same_Some _ _ found) in
    omega (arith, sum_by-cons steps_in new boards, sum_by-cons steps_in b boards, same, more)
set_sum (b ∷ boards) (suc x) old new found more =
    omega (arith, sum_by-cons steps_in b (slice_set boards x new), sum_by-cons steps_in b boards, set_sum boards x old new found more)

-- the steps of a board before the first step
fresh_steps : (k : ℕ) (memories : List Board) (x : ℕ) → x < length memories → slice_get (map steps_in (map (fresh_count k) memories)) x ≡ Some 0
fresh_steps k [] x within = absurd (omega (arith, within))
fresh_steps k (m ∷ memories) zero within = refl
fresh_steps k (m ∷ memories) (suc x) within = fresh_steps k memories x (omega (arith, within))

-- the steps of all boards before the first step
fresh_sum : (k : ℕ) (memories : List Board) → sum_by steps_in (map (fresh_count k) memories) ≡ 0
fresh_sum k [] = refl
fresh_sum k (m ∷ memories) =
    let first : sum_by steps_in (map (fresh_count k) (m ∷ memories)) ≡ 0 + sum_by steps_in (map (fresh_count k) memories)
    = sum_by-cons steps_in (fresh_count k m) (map (fresh_count k) memories) in
    omega (arith, first, fresh_sum k memories)

-- a call is one step of its object
record IsOneStep (before : Machine) (call : Call) (after : Machine) : Type 0 where
  boards : length after.boards ≡ length before.boards
  each : (target : Target) (n : ℕ) → steps_of before target ≡ Some n → steps_of after target ≡ Some (n + counted (takes call target))
  all : all_steps after ≡ all_steps before + 1

-- the same number, and nothing more
same_number : (a b : ℕ) → Some a ≡ Some b → Some a ≡ Some (b + 0)
same_number a b same = let is : a ≡ b = same_Some _ _ same in ap Some (omega (arith, is))

-- one more
one_more : (a b : ℕ) → Some a ≡ Some b → Some (a + 1) ≡ Some (b + 1)
one_more a b same = ap (λ n. Some (n + 1)) (same_Some _ _ same)

-- a command to a board is one step of it
board_step_one : (machine : Machine) (who x : ℕ) (command : Option Command) (b : CountedState Board) → slice_get machine.boards x ≡ Some b
    → IsOneStep machine (OnBoard x command) (board_after machine who x command (Some b)).0
board_step_one machine who x command b found =
    let new = (counted_step command_step b who command).0 in
    record {
      boards = length-set machine.boards x new;
      each = λ target n steps. by target n steps;
      all = omega (arith, set_sum machine.boards x b new found refl);
    }
  where
    by : (target : Target) (n : ℕ) → steps_of machine target ≡ Some n
        → steps_of (board_after machine who x command (Some b)).0 target ≡ Some (n + counted (takes (OnBoard x command) target))
    by at.Bus n steps = same_number machine.bus.steps n steps
    by (at.Board y) n steps =
        let new = (counted_step command_step b who command).0 in
        let was : option_map steps_in (slice_get machine.boards y) ≡ Some n = sym (get_map steps_in machine.boards y) ∙ steps in
        elim (eqb_tells x y) [
          | inl same ↦
              let here : slice_get machine.boards y ≡ Some b = subst (λ i. slice_get machine.boards i ≡ Some b) same.1 found in
              let first : Some b.steps ≡ Some n = ap (option_map steps_in) (sym here) ∙ was in
              get_map steps_in (slice_set machine.boards x new) y
              ∙ ap (λ i. option_map steps_in (slice_get (slice_set machine.boards i new) y)) same.1
              ∙ ap (option_map steps_in) (get_set machine.boards y new b here)
              ∙ rw same.0 (one_more b.steps n first)
          | inr other ↦
              get_map steps_in (slice_set machine.boards x new) y
              ∙ ap (option_map steps_in) (get_other machine.boards x y new other.1)
              ∙ was ∙ rw other.0 (same_number n n refl)
        ]

-- a call is one step of its object, if the board is there
call_one : (machine : Machine) (who : ℕ) (call : Call) → IsCallBelow (length machine.boards) call → IsOneStep machine call (machine_step machine who call).0
call_one machine who (OnBus cmd) below = record {
  boards = refl;
  each = λ target n steps. by target n steps;
  all = omega arith;
}
  where
    by : (target : Target) (n : ℕ) → steps_of machine target ≡ Some n
        → steps_of (machine_step machine who (OnBus cmd)).0 target ≡ Some (n + counted (takes (OnBus cmd) target))
    by at.Bus n steps = one_more machine.bus.steps n steps
    by (at.Board y) n steps = steps ∙ same_number n n refl
call_one machine who (OnBoard x command) below =
    elim (slice_get_cases machine.boards x).1 [
      | inl found ↦ rw found.2 (board_step_one machine who x command found.0 found.2)
      | inr past ↦ absurd (omega (arith, past.0, below))
    ]

module _ (config : Configuration) where
  -- an event is one step of the object that it is shown on
  step_one : (before after : Machine) (o : Observation) → length before.boards ≡ length config.boards → IsStepShown config before o after
      → (call : Call) × IsOneStep before call after × ((target : Target) → is_shown_on target o ≡ takes call target)
  step_one before after o count step =
      let made : after ≡ (machine_step before o.board step.call).0 = ap (λ (r : Machine × EventReply). r.0) step.step in (
        step.call,
        subst (IsOneStep before step.call) (sym made)
            (call_one before o.board step.call (subst (λ n. IsCallBelow n step.call) (sym count) step.below)),
        λ target. shown_on o.board (slot_at config o.board) (level_at config o.board) o.activity step.call target step.shown,
      )

  -- the events of a run are the steps of each object
  record IsCounted (before : Machine) (events : List Observation) (after : Machine) : Type 0 where
    boards : length after.boards ≡ length before.boards
    each : (target : Target) (n : ℕ) → steps_of before target ≡ Some n
        → steps_of after target ≡ Some (n + length (filter (is_shown_on target) events))
    all : all_steps after ≡ all_steps before + length events

  -- one more event that is shown on an object is one more in number
  filter_more : (target : Target) (o : Observation) (events : List Observation) (shown : Bool) (n : ℕ) → is_shown_on target o ≡ shown
      → (n + counted shown) + length (filter (is_shown_on target) events) ≡ n + length (filter (is_shown_on target) (o ∷ events))
  filter_more target o events true n is = rw is (omega arith)
  filter_more target o events false n is = rw is (omega arith)

  -- the events of a run are the steps of each object
  run_counted : (before : Machine) (events : List Observation) (after : Machine) → length before.boards ≡ length config.boards
      → IsRunShown config before events after → IsCounted before events after
  run_counted before [] after count same = subst (IsCounted before []) (sym same) (record {
    boards = refl;
    each = λ target n steps. steps ∙ same_number n n refl;
    all = omega arith;
  })
  run_counted before (o ∷ events) after count run =
      let step = step_one before run.0 o count run.1 in
      let one = step.1 in
      let rest = run_counted run.0 events after (one.boards ∙ count) run.2 in
      record {
        boards = rest.boards ∙ one.boards;
        each = λ target n steps.
            rest.each target (n + counted (takes step.0 target)) (one.each target n steps)
            ∙ ap Some (filter_more target o events (takes step.0 target) n (step.2 target));
        all = omega (arith, rest.all, one.all);
      }

  -- the number of boards at the start
  opening_boards : length (initial_state config).machine.boards ≡ length config.boards
  opening_boards =
      length-map (map opening_memory config.boards) (fresh_count (length config.boards)) ∙ length-map config.boards opening_memory

  -- the events of a run from the start are the steps of each object
  counted_run : (slots : List ℕ) → IsCounted (initial_state config).machine (observations config slots) (state_after config slots).machine
  counted_run slots =
      run_counted (initial_state config).machine (observations config slots) (state_after config slots).machine opening_boards (run_shown config slots)

  -- no object has made a step at the start
  opening_steps : (target : Target) → IsThere (initial_state config).machine target → steps_of (initial_state config).machine target ≡ Some 0
  opening_steps at.Bus there = refl
  opening_steps (at.Board x) there =
      fresh_steps (length config.boards) (map opening_memory config.boards) x
      (omega (arith, there, length-map (map opening_memory config.boards) (fresh_count {S = Board} (length config.boards))))

  -- an object that is there after a run was there at the start
  there_before : (slots : List ℕ) (target : Target) → IsThere (state_after config slots).machine target → IsThere (initial_state config).machine target
  there_before slots at.Bus there = tt
  there_before slots (at.Board x) there = omega (arith, there, (counted_run slots).boards)

  -- each object has made as many steps as events are shown on it
  pub steps_are_shown : (slots : List ℕ) (target : Target) → IsThere (state_after config slots).machine target
      → steps_of (state_after config slots).machine target ≡ Some (length (filter (is_shown_on target) (observations config slots)))
  steps_are_shown slots target there =
      (counted_run slots).each target 0 (opening_steps target (there_before slots target there)) ∙ ap Some (omega arith)

  -- all objects have made as many steps as events are shown
  pub all_are_shown : (slots : List ℕ) → all_steps (state_after config slots).machine ≡ length (observations config slots)
  all_are_shown slots =
      let none = fresh_sum (length config.boards) (map opening_memory config.boards) in
      omega (arith, (counted_run slots).all, none)
