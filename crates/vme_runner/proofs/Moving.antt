-- The transition of a turn, and how a processor follows its script by it.
use Rattle.std.proofs.Common.{◌≡◌, ◌≢◌, ℕ, zero, suc, ◌<◌, true, false, List, [], ◌∷◌, ◌++◌, length, drop, Option, Some, None, refl, ap, sym, subst, ◌∙◌, inl, inr}
use Rattle.std.specs.Prelude.{slice_get, option_map, ◌==◌}
use Rattle.std.specs.Option.{option_to_list}
use Rattle.std.proofs.lemmas.Bool.{eq-eqb}
use Rattle.std.proofs.lemmas.Bool.Decides.{eqb_tells}
use Rattle.std.proofs.lemmas.List.{append-nil, length-set}
use Rattle.vme_memory.specs.Boards.{Board}
use Rattle.vme_memory.specs.Steps.{Command}
use Rattle.vme_core.specs.declared.event.Event.{Event}
use Rattle.vme_core.specs.declared.event.EventReply.{EventReply}
use Rattle.vme_core.specs.CountedStates.{CountedState}
use Rattle.vme_core.specs.Runs.{Machine, Transition, IsRun, move}
use Rattle.vme_core.specs.Calls.{Call, OnBoard, OnBus, call_of, board_after, machine_step}
use Rattle.vme_core.proofs.lemmas.Calls.{did_call}
use Rattle.vme_core.proofs.lemmas.RunSteps.{did_nil}
use Rattle.vme_core.specs.NextSteps.{NextStep, NotStarted, Invokes, Returns}
use Rattle.vme_shared.specs.declared.reply.LineReply.{LineReply}
use Rattle.vme_grammar.specs.declared.line.Line.{Line}
use Rattle.vme_script.specs.Configurations.{Configuration}
use Rattle.vme_script.specs.Lawful.{IsLawful}
use Rattle.vme_line_task.specs.Scripts.{lines_at}
use Rattle.vme_line_task.specs.Tables.{line_next, given_of}
use Rattle.vme_line_task.specs.Traces.{ScriptState, IsTracePrefix}
use Rattle.vme_line_task.specs.Events.{IsCallBelow}
use Rattle.vme_line_task.proofs.lemmas.Below.{next_below}
use Rattle.vme_line_task.proofs.lemmas.Traces.{follows_call, follows_answer}
use Rattle.vme_bus_objects.specs.Runs.{transitions_of}
use Rattle.vme_stepper.specs.Turns.{script_state, settled, call_made, turn_by, script_state_turn, lines_left}
use Rattle.vme_runner.specs.TurnCalls.{call_or, first_call}
use Rattle.vme_runner.specs.Transitions.{calls_in}
use Rattle.vme_runner.proofs.Places.{left_after}
use Rattle.vme_runner.proofs.Events.{has_event, event_there}

-- the first of the lines after the first n is the line at index n
pub first_left : (n : ℕ) (lines : List Line) (line : Line) (rest : List Line) → drop n lines ≡ line ∷ rest
    → slice_get lines n ≡ Some line
first_left zero [] line rest left = absurd cc
first_left zero (first ∷ lines) line rest left = cc
first_left (suc n) [] line rest left = absurd cc
first_left (suc n) (first ∷ lines) line rest left = first_left n lines line rest left

-- a call on a board keeps the number of boards
board_count : (machine : Machine) (who x : ℕ) (command : Option Command) (found : Option (CountedState Board))
    → length (board_after machine who x command found).0.boards ≡ length machine.boards
board_count machine who x command None = refl
board_count machine who x command (Some board) = length-set machine.boards x _

-- each call keeps the number of boards
pub step_count : (machine : Machine) (who : ℕ) (call : Call)
    → length (machine_step machine who call).0.boards ≡ length machine.boards
step_count machine who (OnBoard x command) = board_count machine who x command (slice_get machine.boards x)
step_count machine who (OnBus cmd) = refl

-- a transition of a processor is one of its own
pub own_move : (who : ℕ) (event : Event) (reply : EventReply)
    → transitions_of who (move who event reply ∷ []) ≡ move who event reply ∷ []
own_move who event reply = let same : (who == who) ≡ true = eq-eqb who who refl in rw same refl

-- a transition of a processor is none of another processor
pub other_move : (who other : ℕ) (event : Event) (reply : EventReply) → who ≢ other
    → transitions_of other (move who event reply ∷ []) ≡ []
other_move who other event reply apart =
    elim (eqb_tells who other) [ inl same ↦ absurd (apart same.1) | inr not_same ↦ let no : (who == other) ≡ false = not_same.0 in rw no refl ]

-- a turn of a board's processor makes at most one transition
pub record Moved (config : Configuration) (board : ℕ) (machine : Machine) (mine : List Transition) (call : Option Call) (after : Machine × ScriptState) : Type 0 where
  pub more : List Transition
  pub calls : calls_in more ≡ option_to_list (option_map {U = ℕ × Call} (λ one. (board, one)) call)
  pub did : IsRun more machine after.0
  pub follows : IsTracePrefix config board (mine ++ more) after.1
  pub own : transitions_of board more ≡ more
  pub others : (b : ℕ) → board ≢ b → transitions_of b more ≡ []
  pub count : length after.0.boards ≡ length machine.boards

module _ (config : Configuration) (lawful : IsLawful config) (board : ℕ) (there : board < length config.boards) where
  -- a turn without a call makes no transition
  nothing_moved : (machine : Machine) (mine : List Transition) (c : ScriptState) → IsTracePrefix config board mine c
      → Moved config board machine mine None (machine, c)
  nothing_moved machine mine c follows = record {
    more = [];
    calls = refl;
    did = did_nil machine;
    follows = subst (λ (ms : List Transition). IsTracePrefix config board ms c) (sym (append-nil mine)) follows;
    own = refl;
    others = λ b apart. refl;
    count = refl;
  }

  -- the processor has followed its script, whether the line with these replies has ended or not
  settled_follows : (mine : List Transition) (ended : List LineReply) (replies : List EventReply) (line : Line) (next : NextStep LineReply)
      → slice_get (lines_at config board) (length ended) ≡ Some line
      → IsTracePrefix config board mine (script_state ended replies)
      → line_next config board line replies ≡ next → IsTracePrefix config board mine (settled ended replies next)
  settled_follows mine ended replies line (Returns answer) found follows is =
      follows_answer config board mine (script_state ended replies) line answer follows found is
  settled_follows mine ended replies line (Invokes call) found follows is = follows
  settled_follows mine ended replies line NotStarted found follows is = follows

  -- a turn with a call makes the transition of that call
  call_moved : (machine : Machine) (mine : List Transition) (c : ScriptState) (line : Line) (call : Call)
      → slice_get (lines_at config board) (length c.ended) ≡ Some line → length machine.boards ≡ length config.boards
      → IsTracePrefix config board mine c → line_next config board line c.replies ≡ Invokes call
      → Moved config board machine mine (Some call) (call_made config board line machine c call)
  call_moved machine mine c line call found count follows made =
      let has = has_event config lawful board line (given_of c.replies) call made in
      let step = machine_step machine board call in
      let m = move board has.event step.1 in
      let below = next_below config board line (given_of c.replies) call there made in
      let is_there = event_there machine has.event call has.is (subst (λ (n : ℕ). IsCallBelow n call) (sym count) below) in
      let did : IsRun (m ∷ []) machine step.0 =
      subst (λ (one : Call). IsRun (move board has.event (machine_step machine board one).1 ∷ []) machine (machine_step machine board one).0) has.is
      (did_call machine board has.event is_there) in
      let next : line_next config board line c.replies ≡ Invokes (call_of m.event) = made ∙ ap Invokes (sym has.is) in
      record {
        more = m ∷ [];
        calls = ap (λ one. (board, one) ∷ []) has.is;
        did = did;
        follows = settled_follows (mine ++ m ∷ []) c.ended (step.1 ∷ c.replies) line _ found
            (follows_call config board mine c line m follows found next) refl;
        own = own_move board has.event step.1;
        others = λ b apart. other_move board b has.event step.1 apart;
        count = step_count machine board call;
      }

  -- a turn makes at most one transition, by the next step of the first remaining line
  by_next : (machine : Machine) (mine : List Transition) (c : ScriptState) (line : Line) (rest : List Line) (next : NextStep LineReply) (after : ScriptState → Machine × ScriptState)
      → lines_left config board c ≡ line ∷ rest → length machine.boards ≡ length config.boards → IsTracePrefix config board mine c
      → line_next config board line c.replies ≡ next
      → ((now : ScriptState) → now.replies ≡ [] → lines_left config board now ≡ rest → IsTracePrefix config board mine now
      → Moved config board machine mine (first_call config board rest []) (after now))
      → Moved config board machine mine (call_or next (first_call config board rest [])) (turn_by config board line machine c next after)
  by_next machine mine c line rest (Invokes call) after left count follows is then =
      call_moved machine mine c line call (first_left (length c.ended) (lines_at config board) line rest left) count follows is
  by_next machine mine c line rest (Returns answer) after left count follows is then =
      then (script_state (c.ended ++ answer ∷ []) []) refl (left_after config board c.ended answer line rest left)
      (follows_answer config board mine c line answer follows (first_left (length c.ended) (lines_at config board) line rest left) is)
  by_next machine mine c line rest NotStarted after left count follows is then = nothing_moved machine mine c follows

  -- a turn of a processor with these remaining lines makes at most one transition
  pub script_state_moved : (lines : List Line) (machine : Machine) (mine : List Transition) (c : ScriptState)
      → lines_left config board c ≡ lines
      → length machine.boards ≡ length config.boards → IsTracePrefix config board mine c
      → Moved config board machine mine (first_call config board lines c.replies) (script_state_turn config board lines machine c)
  script_state_moved [] machine mine c left count follows = nothing_moved machine mine c follows
  script_state_moved (line ∷ rest) machine mine c left count follows =
      by_next machine mine c line rest (line_next config board line c.replies) (λ now. script_state_turn config board rest machine now) left count follows refl
      (λ now none left_now follows_now.
      subst (λ (rs : List EventReply). Moved config board machine mine (first_call config board rest rs) (script_state_turn config board rest machine now)) none
      (script_state_moved rest machine mine now left_now count follows_now))
