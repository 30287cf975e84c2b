-- Turns are a run of transitions.
use Rattle.std.proofs.Common.{◌≡◌, ◌≢◌, ℕ, ◌<◌, List, [], ◌∷◌, ◌++◌, length, map, Option, Some, None, refl, ap, sym, subst, ◌∙◌, append_assoc, inl, inr}
use Rattle.std.specs.Prelude.{slice_get, slice_set, ◌==◌}
use Rattle.std.specs.Option.{option_to_list}
use Rattle.std.proofs.lemmas.Bool.Decides.{eqb_tells}
use Rattle.std.proofs.lemmas.List.{append-nil, map-append, length-map}
use Rattle.std.proofs.lemmas.List.Elements.{filter-append}
use Rattle.vme_arbiter.specs.Arbitration.{opening_bus, arbiter_step}
use Rattle.vme_core.specs.CountedStates.{fresh_count}
use Rattle.vme_core.specs.Runs.{Machine, Transition, IsRun, bus_part}
use Rattle.vme_core.specs.Calls.{Call, call_of}
use Rattle.vme_core.proofs.lemmas.RunSteps.{did_nil, did_trans, opened_boards}
use Rattle.vme_core.proofs.lemmas.CountedStates.{run_replays}
use Rattle.vme_script.specs.Configurations.{Configuration, opening_memory}
use Rattle.vme_script.specs.Lawful.{IsLawful}
use Rattle.vme_line_task.specs.Traces.{ScriptState, IsTracePrefix}
use Rattle.vme_line_task.proofs.lemmas.Traces.{follows_nothing}
use Rattle.vme_bus_objects.specs.Runs.{transitions_of}
use Rattle.vme_stepper.specs.Turns.{SystemState, script_state_turn, lines_left, turn_in, turn_at, board_in_slot, turn, run, initial_state, state_after}
use Rattle.vme_runner.specs.TurnCalls.{first_call, script_state_call, place_call, turn_call}
use Rattle.vme_runner.specs.Transitions.{calls_from, calls_in, AreRun}
use Rattle.vme_runner.proofs.Places.{set_same, set_other, place_is}
use Rattle.vme_runner.proofs.Moving.{Moved, script_state_moved}
use Rattle.vme_runner.proofs.Runs.{script_state_begun}

-- each processor has followed its script by its own transitions
abbrev pub AllFollow : Configuration → List Transition → SystemState → Type 0
AllFollow config moves system = (b : ℕ) (c : ScriptState) → slice_get system.script_states b ≡ Some c → IsTracePrefix config b (transitions_of b moves) c

-- the system advances from one state to another by transitions whose calls are these, after the transitions `before`
pub record AdvancesBy (config : Configuration) (before : List Transition) (calls : List (ℕ × Call)) (from to : SystemState) : Type 0 where
  pub more : List Transition
  pub same : calls_in more ≡ calls
  pub did : IsRun more from.machine to.machine
  pub follow : AllFollow config (before ++ more) to
  pub count : length to.machine.boards ≡ length from.machine.boards

-- without a call, the system stays in its state
no_advance : (config : Configuration) (before : List Transition) (system : SystemState) → AllFollow config before system
    → AdvancesBy config before [] system system
no_advance config before system follow = record {
  more = [];
  same = refl;
  did = did_nil system.machine;
  follow = subst (λ (ms : List Transition). AllFollow config ms system) (sym (append-nil before)) follow;
  count = refl;
}

-- the system advances by the turn of a board's processor
by_script_state : (config : Configuration) (before : List Transition) (system : SystemState) (board : ℕ) (found : Option ScriptState) → IsLawful config
    → board < length config.boards → length system.machine.boards ≡ length config.boards → AllFollow config before system
    → slice_get system.script_states board ≡ found
    → AdvancesBy config before (option_to_list (script_state_call config board found)) system (turn_in config system board found)
by_script_state config before system board None lawful there count follow is = no_advance config before system follow
by_script_state config before system board (Some c) lawful there count follow is =
    record { more = moved.more; same = moved.calls; did = moved.did; follow = each; count = moved.count }
  where
    next : Machine × ScriptState
    next = script_state_turn config board (lines_left config board c) system.machine c

    moved : Moved config board system.machine (transitions_of board before) (first_call config board (lines_left config board c) c.replies) next
    moved = script_state_moved config lawful board there (lines_left config board c) system.machine (transitions_of board before) c refl count (follow board c is)

    own : IsTracePrefix config board (transitions_of board (before ++ moved.more)) next.1
    own =
        subst (λ (ms : List Transition). IsTracePrefix config board ms next.1)
        (ap (λ ms. transitions_of board before ++ ms) (sym moved.own) ∙ sym (filter-append (λ (m : Transition). m.who == board) before moved.more))
        moved.follows

    other : (b : ℕ) (one : ScriptState) → b ≢ board → slice_get system.script_states b ≡ Some one
        → IsTracePrefix config b (transitions_of b (before ++ moved.more)) one
    other b one apart at =
        subst (λ (ms : List Transition). IsTracePrefix config b ms one)
        (sym (append-nil (transitions_of b before)) ∙ ap (λ ms. transitions_of b before ++ ms) (sym (moved.others b (λ same. apart (sym same))))
        ∙ sym (filter-append (λ (m : Transition). m.who == b) before moved.more))
        (follow b one at)

    each : (b : ℕ) (one : ScriptState) → slice_get (slice_set system.script_states board next.1) b ≡ Some one
        → IsTracePrefix config b (transitions_of b (before ++ moved.more)) one
    each b one at =
        elim (eqb_tells b board) [
          | inl same ↦
              let mine : next.1 ≡ one = set_same system.script_states board next.1 one
              (ap (slice_get (slice_set system.script_states board next.1)) (sym same.1) ∙ at) in
              subst (λ (p : ℕ). IsTracePrefix config p (transitions_of p (before ++ moved.more)) one) (sym same.1)
              (subst (IsTracePrefix config board (transitions_of board (before ++ moved.more))) mine own)
          | inr apart ↦ other b one apart.1 (sym (set_other system.script_states board b next.1 (λ same. apart.1 (sym same))) ∙ at)
        ]

-- the system advances by the turn of a slot, whether it has a board or not
by_place : (config : Configuration) (before : List Transition) (system : SystemState) (slot : ℕ) (place : Option ℕ)
    → IsLawful config
    → length system.machine.boards ≡ length config.boards → AllFollow config before system → board_in_slot config slot ≡ place
    → AdvancesBy config before (option_to_list (place_call config system place)) system (turn_at config system place)
by_place config before system slot None lawful count follow is = no_advance config before system follow
by_place config before system slot (Some board) lawful count follow is =
    by_script_state config before system board (slice_get system.script_states board) lawful (place_is config slot board is).there count follow refl

-- the system advances by each turn
turn_advances : (config : Configuration) (before : List Transition) (system : SystemState) (slot : ℕ) → IsLawful config
    → length system.machine.boards ≡ length config.boards → AllFollow config before system
    → AdvancesBy config before (option_to_list (turn_call config system slot)) system (turn config system slot)
unfolding turn turn_call
turn_advances config before system slot lawful count follow = by_place config before system slot (board_in_slot config slot) lawful count follow refl

-- the system advances by turns, one after another
run_advances : (config : Configuration) (before : List Transition) (system : SystemState) (slots : List ℕ) → IsLawful config
    → length system.machine.boards ≡ length config.boards → AllFollow config before system
    → AdvancesBy config before (calls_from config system slots) system (run config system slots)
run_advances config before system [] lawful count follow = no_advance config before system follow
run_advances config before system (slot ∷ slots) lawful count follow =
    let one = turn_advances config before system slot lawful count follow in
    let next = turn config system slot in
    let then = run_advances config (before ++ one.more) next slots lawful (one.count ∙ count) one.follow in
    record {
      more = one.more ++ then.more;
      same = map-append (λ (m : Transition). (m.who, call_of m.event)) one.more then.more
          ∙ ap (λ calls. calls ++ calls_in then.more) one.same ∙ ap (λ calls. option_to_list (turn_call config system slot) ++ calls) then.same;
      did = did_trans one.more then.more system.machine next.machine (run config next slots).machine one.did then.did;
      follow = subst (λ (ms : List Transition). AllFollow config ms (run config next slots)) (append_assoc before one.more then.more) then.follow;
      count = then.count ∙ one.count;
    }

-- before the first turn, each processor has followed its script by no transition
opening_follow : (config : Configuration) → AllFollow config [] (initial_state config)
opening_follow config b c found = subst (IsTracePrefix config b []) (script_state_begun config.scripts b c found) (follows_nothing config b)

-- before the first turn, the machine has the boards of the configuration
opening_count : (config : Configuration) → length (initial_state config).machine.boards ≡ length config.boards
opening_count config =
    length-map (map opening_memory config.boards) (fresh_count (length config.boards)) ∙ length-map config.boards opening_memory

-- turns of a lawful configuration are a run of transitions
pub are_run : (config : Configuration) (slots : List ℕ) → IsLawful config → (run : List Transition) × AreRun config slots run
unfolding state_after
are_run config slots lawful =
    let all = run_advances config [] (initial_state config) slots lawful (opening_count config) (opening_follow config) in
    let memories = map opening_memory config.boards in
    let after = run config (initial_state config) slots in (
      all.more,
      record {
        calls = all.same;
        boards = opened_boards memories (opening_bus config.arbiter) (length config.boards) all.more after.machine all.did;
        bus = run_replays arbiter_step (opening_bus config.arbiter) (bus_part all.more) (length config.boards) after.machine.bus all.did.bus;
        script_states = all.follow;
      },
    )
