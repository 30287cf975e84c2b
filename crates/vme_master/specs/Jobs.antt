-- What a task is to do: its calls, the replies that fit them, and its outcome.
use Rattle.std.specs.Prelude.{ℕ, ◌+◌, ◌*◌, Bool, true, false, List, Option, Some, None}
use Rattle.std.specs.Option.{option_and_then}
use Rattle.vme_cycle.specs.declared.request.Request.{Request}
use Rattle.vme_cycle.specs.declared.request.Request.TheVariants as requests
use Rattle.vme_cycle.specs.Requests.{addr_of, datum_len}
use Rattle.vme_cycle.specs.Lawful.{Transfer}
use Rattle.vme_decode.specs.declared.entry.Entry.{Entry}
use Rattle.vme_decode.specs.Select.{selection_at}
use Rattle.vme_memory.specs.declared.command.BoardCmd.{BoardCmd}
use Rattle.vme_memory.specs.Steps.{Command, LocalRead, LocalWrite, LocalModify, Read, Write, Modify, BlockRead, BlockWrite}
use Rattle.vme_memory.specs.Locals.{command_given}
use Rattle.vme_memory.specs.Data.{datum_command, reply_len, has_form}
use Rattle.vme_arbiter.specs.declared.command.ArbCmd.{ArbCmd}
use Rattle.vme_arbiter.specs.declared.command.ArbCmd.TheVariants.{Ask, Look, Done}
use Rattle.vme_arbiter.specs.declared.command.ArbReply.{ArbReply}
use Rattle.vme_arbiter.specs.declared.command.ArbReply.TheVariants.{Granted, Waiting, Freed}
use Rattle.vme_core.specs.declared.event.EventReply.{EventReply}
use Rattle.vme_core.specs.declared.event.EventReply.TheVariants as replies
use Rattle.vme_core.specs.Calls.{Call, OnBoard, OnBus}
use Rattle.vme_master.specs.declared.job.BusJob.{BusJob}
use Rattle.vme_master.specs.declared.job.LocalJob.{LocalJob}
use Rattle.vme_master.specs.declared.job.Job.{Job}
use Rattle.vme_master.specs.declared.job.Job.TheVariants.{Bus, Local}
use Rattle.vme_master.specs.declared.expected.ExpectedReply.{ExpectedReply}
use Rattle.vme_master.specs.declared.expected.ExpectedReply.TheVariants as expected_replies
use Rattle.vme_master.specs.declared.outcome.Outcome.{Outcome}
use Rattle.vme_master.specs.declared.outcome.Outcome.TheVariants as outcomes

-- the job of a slot's lawful request on a level, with the board that its first byte selects, if any;
-- IEEE 1014-1987, 2.3.5 (addressing)
abbrev pub bus_job : List Entry → ℕ → ℕ → Transfer → Job
bus_job map slot level t =
    Bus (record { slot = slot; level = level; transfer = t; place = selection_at map t.am (addr_of t.request) })

-- the job of a command to the local port of the board with an index
abbrev pub local_job : ℕ → BoardCmd → Job
local_job board cmd = Local (record { board = board; cmd = cmd })

-- the slot requests the bus on its level; IEEE 1014-1987, 3.2 (arbitration bus lines)
abbrev pub ask_call : BusJob → Call
ask_call job = OnBus (Ask job.slot job.level)

-- the slot polls whether it holds the bus
abbrev pub look_call : BusJob → Call
look_call job = OnBus (Look job.slot)

-- the slot releases the bus
abbrev pub done_call : BusJob → Call
done_call job = OnBus (Done job.slot)

-- the call of datum i: its command to the selected board at its offset, or with no board the release of the bus;
-- IEEE 1014-1987, 2.3.7 (block transfer)
abbrev pub datum_call : BusJob → Option (ℕ × ℕ) → ℕ → Call
datum_call job None i = done_call job
datum_call job (Some place) i =
    OnBoard place.0 (Some (datum_command job.transfer.request i (place.1 + i * datum_len job.transfer.request)))

-- the one call of a command to a board's local port
abbrev pub local_call : LocalJob → Call
local_call job = OnBoard job.board (command_given job.cmd)

-- whether the arbiter can give a reply to a command: `Freed` only to a release, `Granted` and `Waiting` only to a request
-- or a poll
abbrev pub answers_command : ArbCmd → ArbReply → Bool
answers_command (Ask slot level) Freed = false
answers_command (Look slot) Freed = false
answers_command (Done slot) Granted = false
answers_command (Done slot) Waiting = false
answers_command cmd reply = true

-- whether a reply fits a call: the arbiter can give it to the command; a board's has as many bytes as the command reads,
-- is done if it reads none, or is a bus error
abbrev pub fits_call : Call → EventReply → Bool
fits_call (OnBus cmd) (replies.Bus reply) = answers_command cmd reply
fits_call (OnBoard board command) (replies.Board reply) = has_form (option_and_then reply_len command) reply
fits_call call reply = false

-- the reply that each datum of a request expects, with the number of bytes
abbrev pub request_expected : Request → ExpectedReply
request_expected (requests.Read am addr n) = expected_replies.Read n
request_expected (requests.BlockRead am addr n count) = expected_replies.Read n
request_expected (requests.Modify am addr n f) = expected_replies.Modify n
request_expected (requests.Write am addr bytes) = expected_replies.Write
request_expected (requests.BlockWrite am addr n bytes) = expected_replies.Write
request_expected (requests.BlockFill am addr n count bytes) = expected_replies.Write

-- the reply that a board command expects; an absent command expects no bytes, since its reply is a bus error
abbrev pub command_expected : Option Command → ExpectedReply
command_expected (Some (LocalRead at n)) = expected_replies.Read n
command_expected (Some (Read at n)) = expected_replies.Read n
command_expected (Some (BlockRead at n)) = expected_replies.Read n
command_expected (Some (LocalModify at n f)) = expected_replies.Modify n
command_expected (Some (Modify at n f)) = expected_replies.Modify n
command_expected (Some (LocalWrite at new)) = expected_replies.Write
command_expected (Some (Write at new)) = expected_replies.Write
command_expected (Some (BlockWrite at new)) = expected_replies.Write
command_expected None = expected_replies.Write

-- the outcome if no bus error came, with the bytes that were read
abbrev pub expected_outcome : ExpectedReply → List ℕ → Outcome
expected_outcome (expected_replies.Read n) bytes = outcomes.Read (record { items = bytes })
expected_outcome (expected_replies.Modify n) bytes = outcomes.Old (record { items = bytes })
expected_outcome expected_replies.Write bytes = outcomes.Done

-- the outcome if a bus error came after so many data, with the bytes that were read before it
abbrev pub error_outcome : ℕ → List ℕ → Outcome
error_outcome count bytes = outcomes.Berr count (record { items = bytes })
