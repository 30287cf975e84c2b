-- A line that is served, as turns of its slot.
use Rattle.std.proofs.Common.{◌≡◌, ◌≢◌, ℕ, zero, suc, ◌<◌, List, [], ◌∷◌, ◌++◌, length, map, replicate, Some, None, refl, ap, sym, subst, ◌∙◌, length-set}
use Rattle.std.specs.Prelude.{slice_get, slice_set, unwrap_or}
use Rattle.std.proofs.lemmas.Option.{slice_get-get_or, slice_get_within}
use Rattle.std.proofs.lemmas.List.{get_or-set_same, set-set, length-map}
use Rattle.vme_core.specs.declared.event.EventReply.{EventReply}
use Rattle.vme_core.specs.Runs.{Machine}
use Rattle.vme_core.specs.Calls.{Call, machine_step}
use Rattle.vme_core.specs.NextSteps.{NextStep, NotStarted, Invokes, Returns, call_in, result_in}
use Rattle.vme_master.specs.Tables.{Inputs}
use Rattle.vme_shared.specs.declared.reply.LineReply.{LineReply}
use Rattle.vme_shared.specs.declared.reply.LineReply.TheVariants as replies
use Rattle.vme_grammar.specs.declared.line.Line.{Line}
use Rattle.vme_grammar.specs.declared.line.Line.TheVariants as lines
use Rattle.vme_script.specs.declared.board.BoardConfig.{BoardConfig}
use Rattle.vme_script.specs.declared.script.ScriptLine.{ScriptLine}
use Rattle.vme_script.specs.Configurations.{Configuration}
use Rattle.vme_script.specs.Lawful.{IsLawful}
use Rattle.vme_line_task.specs.Scripts.{slot_at, line_attempt}
use Rattle.vme_line_task.specs.Tables.{lawful_next, next_given_with, next_given, given_of, line_next}
use Rattle.vme_line_task.specs.Traces.{ScriptState}
use Rattle.vme_stepper.specs.Turns.{SystemState, script_state, settled, lines_left, turn_in, turn_at, board_in_slot, turn, run}
use Rattle.vme_stepper.proofs.lemmas.Places.{own_place}
use Rattle.vme_serve.specs.Calls.{CallsMade, call_made, calls_made}
use Rattle.vme_serve.specs.Services.{ServiceView, line_end, line_served}
use Rattle.vme_serve.specs.Runs.{with_scripts, with_reply, IsNext, IsRunOfSlot}
use Rattle.vme_serve.proofs.Calling.{no_call}

-- the attempt at a line does not depend on the scripts
same_attempt : (config : Configuration) (scripts : List (List ScriptLine)) (board : ℕ) (line : Line)
    → line_attempt (with_scripts config scripts) board line ≡ line_attempt config board line
same_attempt config scripts board (lines.Bus request) = refl
same_attempt config scripts board (lines.Local cmd) = refl
same_attempt config scripts board (lines.Await am addr bytes) = refl
same_attempt config scripts board (lines.Lock am addr) = refl
same_attempt config scripts board (lines.Unlock am addr) = refl
same_attempt config scripts board (lines.Put box word) = refl
same_attempt config scripts board (lines.Take box) = refl

-- with one attempt, a line of a file with these scripts does next what the line of the session does
same_next : (config : Configuration) (scripts : List (List ScriptLine)) (board : ℕ) (line : Line) (reply_list : List EventReply)
    → line_next (with_scripts config scripts) board line reply_list ≡ next_given_with config board 1 line (given_of reply_list)
unfolding next_given
same_next config scripts board line reply_list =
    ap (λ one. lawful_next 1 one (given_of reply_list)) (same_attempt config scripts board line)

-- the board in the slot of a board is that board
own_board : (config : Configuration) (board : ℕ) → IsLawful config → board < length config.boards
    → board_in_slot config (slot_at config board) ≡ Some board
own_board config board lawful there =
    let slots : List ℕ = map (λ (one : BoardConfig). one.slot) config.boards in
    own_place config board (slot_at config board) lawful
    (slice_get-get_or slots board 0 (subst (λ n. board < n) (sym (length-map config.boards (λ (one : BoardConfig). one.slot))) there))

-- an element that was set is there
set_there : {A : Type 0} (xs : List A) (i : ℕ) (old new : A) → slice_get xs i ≡ Some old → slice_get (slice_set xs i new) i ≡ Some new
set_there xs i old new found =
    let less : i < length xs = slice_get_within xs i old found in
    slice_get-get_or (slice_set xs i new) i new (subst (λ n. i < n) (sym (length-set xs i new)) less)
    ∙ ap Some (get_or-set_same xs i new new less)

module _ (config : Configuration) (scripts : List (List ScriptLine)) (board : ℕ) (line : Line) (lawful : IsLawful config)
    (there : board < length config.boards) where
  -- the file, and the slot of the processor
  abbrev file : Configuration
  file = with_scripts config scripts

  abbrev slot : ℕ
  slot = slot_at file board

  -- what the line does next, by all that it was given
  abbrev next_step : Inputs → NextStep LineReply
  next_step = next_given_with config board 1 line

  -- a call of the processor, with the reply to it
  abbrev step_of : SystemState → Call → Machine × EventReply
  step_of system call = machine_step system.machine board call

  -- what the line was given after the reply to a call
  abbrev given_after : SystemState → List EventReply → Call → Inputs
  given_after system reply_list call = given_of ((step_of system call).1 ∷ reply_list)

  -- the calls after a call
  abbrev calls_after : ℕ → SystemState → List EventReply → Call → CallsMade
  calls_after left system reply_list call =
      calls_made next_step board left (step_of system call).0 (given_after system reply_list call)

  -- the system after a call, by what the line does next
  abbrev called : SystemState → List LineReply → List EventReply → Call → NextStep LineReply → SystemState
  called system ended reply_list call next = record {
    machine = (step_of system call).0;
    script_states = slice_set system.script_states board (settled ended ((step_of system call).1 ∷ reply_list) next);
  }

  -- a turn of the slot is the next call of the line
  turn_calls : (system : SystemState) (ended : List LineReply) (more : List Line) (reply_list : List EventReply) (call : Call)
      → slice_get system.script_states board ≡ Some (script_state ended reply_list)
      → lines_left file board (script_state ended reply_list) ≡ line ∷ more → next_step (given_of reply_list) ≡ Invokes call
      → turn file system slot ≡ called system ended reply_list call (next_step (given_after system reply_list call))
  unfolding turn
  turn_calls system ended more reply_list call state left makes =
      ap (turn_at file system) (own_board config board lawful there) ∙ ap (turn_in file system board) state
      ∙ rw left (rw (same_next config scripts board line reply_list ∙ makes)
      (rw (same_next config scripts board line ((step_of system call).1 ∷ reply_list)) refl))

  -- a call is a turn, and the rest of the calls are turns if they are after it
  turns_by : (left : ℕ) (system : SystemState) (ended : List LineReply) (more : List Line) (reply_list : List EventReply) (call : Call)
      (reply : LineReply) (next : NextStep LineReply) → next_step (given_after system reply_list call) ≡ next
      → turn file system slot ≡ called system ended reply_list call (next_step (given_after system reply_list call))
      → next_step (calls_after left system reply_list call).given ≡ Returns reply
      → ((other : Call) → next_step (given_after system reply_list call) ≡ Invokes other
      → IsRunOfSlot file board (called system ended reply_list call (Invokes other))
      (with_reply (called system ended reply_list call (Invokes other)) board ended reply (calls_after left system reply_list call).machine))
      → IsRunOfSlot file board system (with_reply system board ended reply (calls_after left system reply_list call).machine)
  turns_by left system ended more reply_list call reply NotStarted is_next turn_is ends others =
      let over = no_call next_step board left (step_of system call).0 (given_after system reply_list call) (ap call_in is_next) in
      absurd (let bad = sym is_next ∙ ap (λ (all : CallsMade). next_step all.given) (sym over) ∙ ends in cc)
  turns_by left system ended more reply_list call reply (Returns answer) is_next turn_is ends others =
      let over = no_call next_step board left (step_of system call).0 (given_after system reply_list call) (ap call_in is_next) in
      let same : answer ≡ reply =
      (let both = sym is_next ∙ ap (λ (all : CallsMade). next_step all.given) (sym over) ∙ ends in cc) in
      record {
        turns = 1;
        run_is = turn_is ∙ ap (called system ended reply_list call) is_next
            ∙ ap (λ (one : LineReply). with_reply system board ended one (step_of system call).0) same
            ∙ ap (λ (m : Machine). with_reply system board ended reply m) (sym (ap (λ (all : CallsMade). all.machine) over));
      }
  turns_by left system ended more reply_list call reply (Invokes other) is_next turn_is ends others =
      let rest = others other is_next in
      record {
        turns = suc rest.turns;
        run_is = ap (λ (one : SystemState). run file one (replicate rest.turns slot)) (turn_is ∙ ap (called system ended reply_list call) is_next)
            ∙ rest.run_is
            ∙ ap (λ (states : List ScriptState). let one : SystemState = record {
              machine = (calls_after left system reply_list call).machine;
              script_states = states;
            } in one)
            (set-set system.script_states board (script_state ended ((step_of system call).1 ∷ reply_list)) (script_state (ended ++ reply ∷ []) []));
      }

  -- the turns that make the rest of a line's calls
  pub turns : (left : ℕ) (system : SystemState) (ended : List LineReply) (more : List Line) (reply_list : List EventReply) (call : Call)
      (reply : LineReply) → slice_get system.script_states board ≡ Some (script_state ended reply_list)
      → lines_left file board (script_state ended reply_list) ≡ line ∷ more → next_step (given_of reply_list) ≡ Invokes call
      → next_step (calls_made next_step board left system.machine (given_of reply_list)).given ≡ Returns reply
      → IsRunOfSlot file board system
      (with_reply system board ended reply (calls_made next_step board left system.machine (given_of reply_list)).machine)
  turns zero system ended more reply_list call reply state left_lines makes ends = absurd (let bad = sym makes ∙ ends in cc)
  turns (suc left) system ended more reply_list call reply state left_lines makes ends =
      let first : calls_made next_step board (suc left) system.machine (given_of reply_list) ≡ calls_after left system reply_list call =
      ap (λ one. call_made one board left system.machine (given_of reply_list) (calls_made next_step board left)) (ap call_in makes) in
      let ends_after : next_step (calls_after left system reply_list call).given ≡ Returns reply =
      ap (λ (all : CallsMade). next_step all.given) (sym first) ∙ ends in
      subst (λ (all : CallsMade). IsRunOfSlot file board system (with_reply system board ended reply all.machine)) (sym first)
      (turns_by left system ended more reply_list call reply (next_step (given_after system reply_list call)) refl
      (turn_calls system ended more reply_list call state left_lines makes) ends_after
      (λ other is_next.
      turns left (called system ended reply_list call (Invokes other)) ended more ((step_of system call).1 ∷ reply_list) other reply
      (set_there system.script_states board (script_state ended reply_list) (script_state ended ((step_of system call).1 ∷ reply_list)) state)
      left_lines is_next ends_after))

-- the reply of a line that has ended
returned : (next : NextStep LineReply) → unwrap_or (result_in next) replies.Unfinished ≢ replies.Unfinished
    → next ≡ Returns (unwrap_or (result_in next) replies.Unfinished)
returned NotStarted finished = absurd (finished refl)
returned (Invokes call) finished = absurd (finished refl)
returned (Returns reply) finished = refl

-- a line that makes a call is a run of turns of its slot
pub line_turns : (service : ServiceView) (scripts : List (List ScriptLine)) (board : ℕ) (line : Line) (ended : List LineReply) (system : SystemState)
    (call : Call) → IsLawful service.config → board < length service.config.boards
    → IsNext (with_scripts service.config scripts) board line ended system → system.machine ≡ service.machine
    → line_next (with_scripts service.config scripts) board line [] ≡ Invokes call → (line_served service board line).reply ≢ replies.Unfinished
    → IsRunOfSlot (with_scripts service.config scripts) board system
    (with_reply system board ended (line_served service board line).reply (line_served service board line).service.machine)
unfolding line_served
line_turns service scripts board line ended system call lawful there next same makes finished =
    let table : Inputs → NextStep LineReply = next_given_with service.config board 1 line in
    let made : Machine → CallsMade = λ m. calls_made table board service.left m (None ∷ []) in
    let reply : LineReply = unwrap_or (result_in (table (made service.machine).given)) replies.Unfinished in
    subst (λ m. IsRunOfSlot (with_scripts service.config scripts) board system (with_reply system board ended reply (made m).machine)) same
    (turns service.config scripts board line lawful there service.left system ended next.more [] call reply next.state next.left
    (sym (same_next service.config scripts board line []) ∙ makes)
    (subst (λ m. table (made m).given ≡ Returns reply) (sym same) (returned (table (made service.machine).given) finished)))

-- a line that makes no call has its reply at once
pub line_refused : (service : ServiceView) (scripts : List (List ScriptLine)) (board : ℕ) (line : Line) (reply : LineReply)
    → line_next (with_scripts service.config scripts) board line [] ≡ Returns reply
    → ((line_served service board line).reply ≡ reply) × ((line_served service board line).service ≡ service)
unfolding line_served
line_refused service scripts board line reply ends =
    let table : Inputs → NextStep LineReply = next_given_with service.config board 1 line in
    let returns : table (None ∷ []) ≡ Returns reply = sym (same_next service.config scripts board line []) ∙ ends in
    let none = no_call table board service.left service.machine (None ∷ []) (ap call_in returns) in (
      ap (λ (made : CallsMade). unwrap_or (result_in (table made.given)) replies.Unfinished) none
          ∙ ap (λ next. unwrap_or (result_in next) replies.Unfinished) returns,
      ap (λ (made : CallsMade). (line_end service table made).service) none,
    )
