-- The datum that a task is at, or its command to a local port.
use Rattle.std.specs.Prelude.{ℕ, Bool, Option, Some, None, is_some}
use Rattle.vme_cycle.specs.Lawful.{Transfer}
use Rattle.vme_memory.specs.declared.command.BoardCmd.{BoardCmd}
use Rattle.vme_master.specs.declared.job.BusJob.{BusJob}
use Rattle.vme_master.specs.declared.job.Job.{Job}
use Rattle.vme_master.specs.declared.job.Job.TheVariants.{Bus, Local}
use Rattle.vme_master.specs.declared.phase.Phase.{Phase}
use Rattle.vme_master.specs.declared.phase.Phase.TheVariants.{Transferring}
use Rattle.vme_master.specs.Machine.{TaskView}

-- how far a transfer has come: its lawful request, the number of the datum that it transfers next, and whether a board
-- is selected
pub record DatumAt : Type 0 where
  pub transfer : Transfer
  pub number : ℕ
  pub selected : Bool

-- the same from its parts
abbrev pub datum_at : Transfer → ℕ → Bool → DatumAt
datum_at transfer number selected = record { transfer = transfer; number = number; selected = selected }

-- the number of the datum that is transferred in a phase; 0 if none is
abbrev pub datum_number : Phase → ℕ
datum_number (Transferring i) = i
datum_number phase = 0

-- the datum of a transfer in a phase
abbrev pub bus_datum : BusJob → Phase → DatumAt
bus_datum job phase = datum_at job.transfer (datum_number phase) (is_some job.place)

-- the datum of a job in a phase; a local command has none
abbrev pub job_datum : Job → Phase → Option DatumAt
job_datum (Bus job) phase = Some (bus_datum job phase)
job_datum (Local job) phase = None

-- the datum of a task, if it is a transfer over the bus
abbrev pub task_datum : TaskView → Option DatumAt
task_datum t = job_datum t.job t.phase

-- the command of a job to a local port, if it is one
abbrev pub job_command : Job → Option BoardCmd
job_command (Bus job) = None
job_command (Local job) = Some job.cmd
