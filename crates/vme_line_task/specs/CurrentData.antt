-- The datum that a line is at, or its command to the local port.
use Rattle.std.specs.Prelude.{Option, None}
use Rattle.vme_memory.specs.declared.command.BoardCmd.{BoardCmd}
use Rattle.vme_master.specs.CurrentData.{DatumAt, task_datum, job_command}
use Rattle.vme_shared.specs.CurrentData.{shared_datum}
use Rattle.vme_line_task.specs.declared.attempt.AttemptTask.{AttemptTask}
use Rattle.vme_line_task.specs.declared.attempt.AttemptTask.TheVariants as tasks
use Rattle.vme_line_task.specs.declared.task.LineTask.{LineTask}
use Rattle.vme_line_task.specs.declared.task.LineTask.TheVariants.{Refused, Running}

-- the datum of an attempt, if it is at a transfer over the bus
abbrev pub attempt_datum : AttemptTask → Option DatumAt
attempt_datum (tasks.Transfer t) = task_datum t
attempt_datum (tasks.Await w) = task_datum w.task
attempt_datum (tasks.Shared v) = shared_datum v

-- the datum of a line, if it is at a transfer over the bus
abbrev pub line_datum : LineTask → Option DatumAt
line_datum (Refused fault) = None
line_datum (Running a) = attempt_datum a.attempt

-- the command of an attempt to the local port, if it is one
abbrev pub attempt_command : AttemptTask → Option BoardCmd
attempt_command (tasks.Transfer t) = job_command t.job
attempt_command (tasks.Await w) = None
attempt_command (tasks.Shared v) = None

-- the command of a line to the local port, if it is one
abbrev pub line_command : LineTask → Option BoardCmd
line_command (Refused fault) = None
line_command (Running a) = attempt_command a.attempt
