-- What a processor does in a turn.
use Rattle.std.specs.Prelude.{ℕ, ◌+◌, ◌==◌, if◌then◌else◌, Option, Some, None}
use Rattle.vme_cycle.specs.Requests.{count_of, function_of}
use Rattle.vme_cycle.specs.SignalLines.{SignalLines}
use Rattle.vme_cycle.specs.Plans.{signals_of}
use Rattle.vme_memory.specs.declared.command.BoardCmd.{BoardCmd}
use Rattle.vme_arbiter.specs.declared.command.ArbCmd.TheVariants.{Ask, Look, Done}
use Rattle.vme_core.specs.Calls.{Call, OnBoard, OnBus}
use Rattle.vme_master.specs.CurrentData.{DatumAt}
use Rattle.vme_line_task.specs.declared.task.LineTask.{LineTask}
use Rattle.vme_line_task.specs.CurrentData.{line_datum, line_command}
use Rattle.vme_trace.specs.declared.observation.activity.TransferredDatum.{TransferredDatum}
use Rattle.vme_trace.specs.declared.observation.activity.Activity.{Activity}
use Rattle.vme_trace.specs.declared.observation.activity.Activity.TheVariants.{Requests, Polls, Releases, Transfers, Local, Other}

-- the signals of the cycle that no board answers, if the transfer selects none; IEEE 1014-1987, 2.3.3 (bus timer)
abbrev pub unanswered : Option DatumAt → Option SignalLines
unanswered None = None
unanswered (Some d) = if d.selected then None else Some (signals_of d.transfer 0)

-- the datum that a transfer is at, for the board that is selected
abbrev pub transferred : ℕ → DatumAt → TransferredDatum
transferred board d = record {
  board = board;
  signals = signals_of d.transfer d.number;
  function = function_of d.transfer.request;
  first = d.number == 0;
  last = d.number + 1 == count_of d.transfer.request;
}

-- what a line does on a board: the datum of its transfer, or else its command to the local port
abbrev pub board_activity : ℕ → Option DatumAt → Option BoardCmd → Activity
board_activity board (Some d) cmd = Transfers (transferred board d)
board_activity board None (Some cmd) = Local cmd
board_activity board None None = Other

-- what a line does with a call
abbrev pub activity_of : LineTask → Call → Activity
activity_of task (OnBus (Ask slot level)) = Requests
activity_of task (OnBus (Look slot)) = Polls
activity_of task (OnBus (Done slot)) = Releases (unanswered (line_datum task))
activity_of task (OnBoard board command) = board_activity board (line_datum task) (line_command task)
