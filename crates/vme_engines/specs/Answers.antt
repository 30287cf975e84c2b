-- The output of `vme cycles` for a line: its text, the board after it, and its status.
use Rattle.std.specs.Prelude.{ℕ, zero, suc, ◌+◌, ◌*◌, false, if◌then◌else◌, List, [], ◌∷◌, ◌++◌, is_some, option_map, Option, Some, None, Result, Ok, Err, codes}
use Rattle.vme_am.specs.declared.code.Space.TheVariants.{A32}
use Rattle.vme_cycle.specs.declared.request.Request.{Request}
use Rattle.vme_cycle.specs.declared.modify.Modify.{Modify}
use Rattle.vme_cycle.specs.declared.fault.CycleFault.{CycleFault}
use Rattle.vme_cycle.specs.Lawful.{Transfer, transfer_of}
use Rattle.vme_cycle.specs.Requests.{datum_len, function_of, count_of, reads}
use Rattle.vme_cycle.specs.SignalLines.{SignalLines, answered_lines}
use Rattle.vme_cycle.specs.Functions.{value}
use Rattle.vme_cycle.specs.Plans.{signals_of, write_half_of}
use Rattle.vme_decode.specs.declared.entry.Entry.{Entry}
use Rattle.vme_decode.specs.Select.{selection}
use Rattle.vme_memory.specs.declared.reply.Reply.{Reply}
use Rattle.vme_memory.specs.declared.reply.Reply.TheVariants.{Bytes, Done, Berr}
use Rattle.vme_memory.specs.Boards.{Board}
use Rattle.vme_memory.specs.Steps.{cycle}
use Rattle.vme_grammar.specs.declared.fault.LineFault.{LineFault}
use Rattle.vme_shared.specs.declared.status.Status.{Status}
use Rattle.vme_shared.specs.declared.status.Status.TheVariants.{Clean, Marked}
use Rattle.vme_engines.specs.Lines.{request_of}
use Rattle.vme_grammar.specs.Texts as outcomes
use Rattle.vme_grammar.specs.Texts.{signals_text, OutcomeText, outcome_text, cycle_fault_text, line_fault_text, output_line}

-- the output of a line: its text, the board after it, and its status
pub record Answer : Type 0 where
  pub text : List ℕ
  pub board : Board
  pub status : Status

-- the status of an outcome: Clean unless it is a bus error
abbrev pub status_of : OutcomeText → Status
status_of (outcomes.Read bytes) = Clean
status_of outcomes.Done = Clean
status_of (outcomes.Old bytes) = Clean
status_of (outcomes.Berr count bytes) = Marked

-- the signals at the end of a cycle: in a read, with the data that the board drives
abbrev pub final_signals : SignalLines → Reply → SignalLines
final_signals s (Bytes datum) = answered_lines s datum.items
final_signals s Done = s
final_signals s Berr = s

-- the address map of the one board: 4,096 addresses from 0 on in the extended space, for all codes of that space
abbrev pub board_map : List Entry
board_map = record { space = A32; base = 0; size = 4096; supervisory = false } ∷ []

-- the offset of a transfer's first byte, if that byte selects the board (IEEE 1014-1987, 2.3.5 (addressing))
abbrev pub offset_of : Transfer → Option ℕ
offset_of t = option_map (λ found. found.1) (selection board_map (signals_of t 0))

-- the reply to datum i and the board after it, by the offset of the transfer; with no board selected, the bus timer
-- drives BERR* (IEEE 1014-1987, 2.3.3 (bus timer))
abbrev pub reply_at : Board → Transfer → ℕ → Option ℕ → Reply × Board
reply_at board t i None = (Berr, board)
reply_at board t i (Some offset) = cycle board (signals_of t i) (offset + i * datum_len t.request) (function_of t.request)

-- the reply to datum i and the board after it
abbrev pub reply_to : Board → Transfer → ℕ → Reply × Board
reply_to board t i = reply_at board t i (offset_of t)

-- the text of the write half of a read-modify-write, if its read half returned bytes
abbrev pub write_half_text : Transfer → Option Modify → Reply → List ℕ
write_half_text t (Some f) (Bytes old) = output_line (signals_text (write_half_of t (value f old.items)))
write_half_text t (Some f) Done = []
write_half_text t (Some f) Berr = []
write_half_text t None reply = []

-- the text of datum i, by the reply to it
abbrev pub datum_text : Transfer → ℕ → Reply → List ℕ
datum_text t i reply =
    output_line (signals_text (final_signals (signals_of t i) reply)) ++ write_half_text t (function_of t.request) reply

-- the output that consists of an outcome alone
abbrev pub outcome_answer : Board → OutcomeText → Answer
outcome_answer board outcome = record { text = output_line (outcome_text outcome); board = board; status = status_of outcome }

-- the output that consists of the text of a refusal alone
abbrev pub refusal_answer : Board → List ℕ → Answer
refusal_answer board text = record { text = output_line text; board = board; status = Marked }

-- an output with this text before it
abbrev pub after_text : List ℕ → Answer → Answer
after_text text answer = record answer { text = text ++ answer.text }

-- the outcome of a transfer without a bus error, with the bytes that it read
abbrev pub outcome_of : Transfer → List ℕ → OutcomeText
outcome_of t replied =
    if reads t.request then outcomes.Read replied else
    (if is_some (function_of t.request) then outcomes.Old replied else outcomes.Done)

-- the output after the reply to a datum: `stopped` after a bus error, else `next` with the bytes that were read
abbrev pub after_datum : Reply → Answer → (List ℕ → Answer) → Answer
after_datum (Bytes datum) stopped next = next datum.items
after_datum Done stopped next = next []
after_datum Berr stopped next = stopped

-- the output of the last data of a transfer, from datum i on and with the bytes read before: the signals of each datum,
-- and then the outcome
abbrev pub data_answer : ℕ → Board → Transfer → ℕ → List ℕ → Answer
data_answer zero board t i read = outcome_answer board (outcome_of t read)
data_answer (suc left) board t i read =
    let reply = reply_to board t i in
    after_text (datum_text t i reply.0)
    (after_datum reply.0 (outcome_answer reply.1 (outcomes.Berr i read))
    (λ bytes. data_answer left reply.1 t (i + 1) (read ++ bytes)))

-- the output of a lawful request
unfoldable pub transfer_answer : Board → Transfer → Answer
transfer_answer board t = data_answer (count_of t.request) board t 0 []

-- the output of a lawful request; that of any other request is its refusal alone, without signals
abbrev pub planned_answer : Board → Result Transfer CycleFault → Answer
planned_answer board (Ok t) = transfer_answer board t
planned_answer board (Err fault) = refusal_answer board (codes "refused " ++ cycle_fault_text fault)

-- the output of a request
abbrev pub request_answer : Board → Request → Answer
request_answer board request = planned_answer board (transfer_of request)

-- the output of a line, by the result of reading it
abbrev pub line_answer : Board → Result (Option Request) LineFault → Answer
line_answer board (Ok None) = record { text = []; board = board; status = Clean }
line_answer board (Ok (Some request)) = request_answer board request
line_answer board (Err fault) = refusal_answer board (codes "line refused " ++ line_fault_text fault)

-- the output of a line on a board
unfoldable pub answer : Board → List ℕ → Answer
answer board line = line_answer board (request_of line)
