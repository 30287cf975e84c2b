-- Turns of the processors on one backplane, one after another. A run on one thread consists of turns.
use Rattle.std.specs.Prelude.{ℕ, ◌==◌, List, [], ◌∷◌, ◌++◌, length, map, drop, slice_get, slice_set, Option, Some, None}
use Rattle.std.specs.List.{position}
use Rattle.vme_core.specs.declared.event.EventReply.{EventReply}
use Rattle.vme_core.specs.Runs.{Machine}
use Rattle.vme_core.specs.Calls.{Call, machine_step}
use Rattle.vme_arbiter.specs.Arbitration.{opening_bus}
use Rattle.vme_core.specs.Machines.{opening}
use Rattle.vme_core.specs.NextSteps.{NextStep, Invokes, Returns}
use Rattle.vme_shared.specs.declared.reply.LineReply.{LineReply}
use Rattle.vme_grammar.specs.declared.line.Line.{Line}
use Rattle.vme_script.specs.Configurations.{Configuration, opening_memory}
use Rattle.vme_line_task.specs.Scripts.{lines_at}
use Rattle.vme_line_task.specs.Tables.{line_next}
use Rattle.vme_line_task.specs.Traces.{ScriptState}

-- the boards and the arbiter with their counts, and the script state of each processor, in the order of the boards
pub record SystemState : Type 0 where
  pub machine : Machine
  pub script_states : List ScriptState

-- the script state with these replies to lines, and these replies to the calls of the current line
abbrev pub script_state : List LineReply → List EventReply → ScriptState
script_state ended replies = record { ended = ended; replies = replies }

-- the script state of a line with these replies: if the line has ended, its reply is recorded and the next line is
-- current
abbrev pub settled : List LineReply → List EventReply → NextStep LineReply → ScriptState
settled ended replies (Returns answer) = script_state (ended ++ answer ∷ []) []
settled ended replies next = script_state ended replies

-- the current line makes its call as its board's processor, and the reply is added to its replies
abbrev pub call_made : Configuration → ℕ → Line → Machine → ScriptState → Call → Machine × ScriptState
call_made config board line machine c call =
    let step = machine_step machine board call in
    (step.0, settled c.ended (step.1 ∷ c.replies) (line_next config board line (step.1 ∷ c.replies)))

-- a turn by the next step of the current line: it makes its call, or its reply is recorded and the next lines go on;
-- nothing happens with `NotStarted`, which is never the value of `line_next`
abbrev pub turn_by : Configuration → ℕ → Line → Machine → ScriptState → NextStep LineReply
    → (ScriptState → Machine × ScriptState) → Machine × ScriptState
turn_by config board line machine c (Invokes call) after = call_made config board line machine c call
turn_by config board line machine c (Returns answer) after = after (script_state (c.ended ++ answer ∷ []) [])
turn_by config board line machine c next after = (machine, c)

-- a turn of a processor with these lines left: the replies of lines without a call are recorded, and the first line
-- with a call makes it; if no line is left, nothing happens
abbrev pub script_state_turn : Configuration → ℕ → List Line → Machine → ScriptState → Machine × ScriptState
script_state_turn config board [] machine c = (machine, c)
script_state_turn config board (line ∷ lines) machine c =
    turn_by config board line machine c (line_next config board line c.replies) (script_state_turn config board lines machine)

-- the lines of a processor's script that have no reply yet
abbrev pub lines_left : Configuration → ℕ → ScriptState → List Line
lines_left config board c = drop (length c.ended) (lines_at config board)

-- a turn of a processor in the system, if there is one
abbrev pub turn_in : Configuration → SystemState → ℕ → Option ScriptState → SystemState
turn_in config system board None = system
turn_in config system board (Some c) =
    let next = script_state_turn config board (lines_left config board c) system.machine c in
    record { machine = next.0; script_states = slice_set system.script_states board next.1 }

-- a turn at the index of a board, if there is one
abbrev pub turn_at : Configuration → SystemState → Option ℕ → SystemState
turn_at config system None = system
turn_at config system (Some board) = turn_in config system board (slice_get system.script_states board)

-- the index of the board in a slot, if there is one
abbrev pub board_in_slot : Configuration → ℕ → Option ℕ
board_in_slot config slot = position (λ board. board.slot == slot) config.boards

-- a turn of a slot; nothing happens if the slot has no board
unfoldable pub turn : Configuration → SystemState → ℕ → SystemState
turn config system slot = turn_at config system (board_in_slot config slot)

-- turns of slots, one after another
abbrev pub run : Configuration → SystemState → List ℕ → SystemState
run config system [] = system
run config system (slot ∷ slots) = run config (turn config system slot) slots

-- the state before the first turn: memories of zeros, a free bus with its kind of arbiter, no step counted, and no line
-- ended
abbrev pub initial_state : Configuration → SystemState
initial_state config = record {
  machine = opening (map opening_memory config.boards) (opening_bus config.arbiter) (length config.boards);
  script_states = map (λ script. script_state [] []) config.scripts;
}

-- the state after turns of these slots
unfoldable pub state_after : Configuration → List ℕ → SystemState
state_after config slots = run config (initial_state config) slots
