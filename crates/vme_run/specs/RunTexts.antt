-- The texts of runs on one thread and on threads, and the faults of the engines.
use Rattle.std.specs.Prelude.{ℕ, ◌≡◌, List}
use Rattle.vme_shared.specs.declared.status.Status.{Status}
use Rattle.vme_script.specs.Configurations.{Configuration}
use Rattle.vme_stepper.specs.Turns.{state_after}
use Rattle.vme_stepper.specs.Schedules.{file_turns}
use Rattle.vme_stepper.specs.Reports.{run_text, run_status}
use Rattle.vme_threads.specs.declared.report.Report.{Report}
use Rattle.vme_threads.specs.OneOrder.{IsReportOfOneOrder}
use Rattle.vme_engines.specs.declared.fault.ProgramFault.{ProgramFault}
use Rattle.vme_engines.specs.declared.fault.ProgramFault.TheVariants.{Write, Thread, Spent}
use Rattle.vme_engines.specs.Faults.{IsConfigFault, IsStepFault}
use Rattle.vme_engines.specs.Files.{Configures}
use Rattle.vme_run.specs.Orders.{IsReportOfState}

-- a text is that of the run on one thread, by the file's own turns, of the configuration that the bytes of a file encode
pub record IsStepText (input text : List ℕ) : Type 0 where
  pub config : Configuration
  pub configures : Configures input config
  pub text_is : text ≡ run_text config (file_turns config)

-- a text and a status are those of some turns of slots on one thread, of the configuration that the bytes of a file
-- encode; some report of one order is that of the state after these turns, so each line has its reply
pub record IsRunText (input text : List ℕ) (status : Status) : Type 0 where
  pub config : Configuration
  pub configures : Configures input config
  pub slots : List ℕ
  pub text_is : text ≡ run_text config slots
  pub status_is : status ≡ run_status config slots
  pub report : Report
  pub order : IsReportOfOneOrder config report
  pub state : IsReportOfState config report (state_after config slots)

-- a text is that of some run on threads
abbrev pub IsSomeRunText : List ℕ → List ℕ → Type 0
IsSomeRunText input text = (status : Status) × IsRunText input text status

-- the faults of reading a file, running its scripts on threads and writing the report
abbrev pub IsRunEngineFault : ProgramFault → Type 0
IsRunEngineFault Thread = Unit {0}
IsRunEngineFault Spent = Unit {0}
IsRunEngineFault fault = IsStepFault fault

-- the faults of running the scripts of a file that was read, on one thread, and writing the report
abbrev pub IsStepFileFault : ProgramFault → Type 0
IsStepFileFault Write = Unit {0}
IsStepFileFault fault = IsConfigFault fault

-- the same on threads
abbrev pub IsRunFileFault : ProgramFault → Type 0
IsRunFileFault Thread = Unit {0}
IsRunFileFault Spent = Unit {0}
IsRunFileFault fault = IsStepFileFault fault
