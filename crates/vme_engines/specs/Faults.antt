-- How a run of an engine ends, and the exit status of the program.
use Rattle.std.specs.Prelude.{◌≡◌, ◌⊎◌, ℕ, ◌+◌, ◌<◌, ◌≤◌, Bool, true, false, List, [], length, Option, IfSome, Result, Ok, Err}
use Rattle.std.specs.Io.KnownBytes.{Consumes}
use Rattle.vme_io.specs.Prefixes.{AppendsPrefix}
use Rattle.vme_report.specs.declared.fault.RunFault.{RunFault}
use Rattle.vme_report.specs.declared.fault.RunFault.TheVariants as run
use Rattle.vme_script.specs.declared.fault.ConfigFault.TheVariants.{OutOfMemory}
use Rattle.vme_shared.specs.declared.status.Status.{Status}
use Rattle.vme_shared.specs.declared.status.Status.TheVariants.{Clean, Marked}
use Rattle.vme_engines.specs.declared.fault.ProgramFault.{ProgramFault}
use Rattle.vme_engines.specs.declared.fault.ProgramFault.TheVariants.{Read, TooLong, Write, Memory, Thread, Spent, Config}

-- the faults of reading an input
abbrev pub IsInputFault : ProgramFault → Type 0
IsInputFault Read = Unit {0}
IsInputFault TooLong = Unit {0}
IsInputFault Memory = Unit {0}
IsInputFault fault = ⊥

-- the faults of reading an input and processing its lines
abbrev pub IsCyclesFault : ProgramFault → Type 0
IsCyclesFault Write = Unit {0}
IsCyclesFault fault = IsInputFault fault

-- the faults of a configuration file whose bytes were read; a failed allocation is always `Memory`
abbrev pub IsConfigFault : ProgramFault → Type 0
IsConfigFault Memory = Unit {0}
IsConfigFault (Config OutOfMemory) = ⊥
IsConfigFault (Config fault) = Unit {0}
IsConfigFault fault = ⊥

-- the faults of reading a configuration file
abbrev pub IsFileFault : ProgramFault → Type 0
IsFileFault Read = Unit {0}
IsFileFault TooLong = Unit {0}
IsFileFault fault = IsConfigFault fault

-- the faults of reading a file, running its scripts on one thread and writing the report
abbrev pub IsStepFault : ProgramFault → Type 0
IsStepFault Write = Unit {0}
IsStepFault fault = IsFileFault fault

-- whether a fault is a failure of the reader
abbrev pub is_read : ProgramFault → Bool
is_read Read = true
is_read fault = false

-- whether a fault is a failure of the writer
abbrev pub is_write : ProgramFault → Bool
is_write Write = true
is_write fault = false

-- whether a result reports a failure of the reader
abbrev pub is_read_failure : {T : Type 0} → Result T ProgramFault → Bool
is_read_failure (Ok x) = false
is_read_failure (Err fault) = is_read fault

-- whether a result reports a failure of the writer
abbrev pub is_write_failure : {T : Type 0} → Result T ProgramFault → Bool
is_write_failure (Ok x) = false
is_write_failure (Err fault) = is_write fault

-- a run ended before anything could be written
abbrev pub EndsUnwritten : Result Status ProgramFault → Type 0
EndsUnwritten (Err Read) = Unit {0}
EndsUnwritten (Err TooLong) = Unit {0}
EndsUnwritten (Err Thread) = Unit {0}
EndsUnwritten (Err Spent) = Unit {0}
EndsUnwritten (Err (Config fault)) = Unit {0}
EndsUnwritten end = ⊥

-- nothing was written, or a prefix of a text of this kind
abbrev pub WritesPrefix : (List ℕ → Type 0) → Option (List ℕ) → Option (List ℕ) → Type 0
WritesPrefix IsText old new = AppendsPrefix old new [] ⊎ ((text : List ℕ) × IsText text × AppendsPrefix old new text)

-- the bytes that were read are exactly one more than the limit
abbrev pub ReadsPastLimit : ℕ → Option (List ℕ) → Option (List ℕ) → Type 0
ReadsPastLimit limit old new = (bytes : List ℕ) × (length bytes ≡ limit + 1) × Consumes old new bytes

-- after `TooLong` the input has more bytes than the limit, of which `limit + 1` were read; a file is refused as a
-- configuration only if it has no more bytes than the limit
abbrev pub StopsWithin : ℕ → Option (List ℕ) → Option (List ℕ) → ProgramFault → Type 0
StopsWithin limit old new TooLong = IfSome old (λ input. limit < length input) × ReadsPastLimit limit old new
StopsWithin limit old new (Config fault) = IfSome old (λ input. length input ≤ limit)
StopsWithin limit old new fault = Unit {0}

-- an input is processed only if it has no more bytes than the limit, and `TooLong` is returned only if it has more
abbrev pub ReadsWithin : {T : Type 0} → ℕ → Option (List ℕ) → Option (List ℕ) → Result T ProgramFault → Type 0
ReadsWithin limit old new (Ok x) = IfSome old (λ input. length input ≤ limit)
ReadsWithin limit old new (Err fault) = StopsWithin limit old new fault

-- the program's fault for the fault of a run of scripts
abbrev pub fault_of_run : RunFault → ProgramFault
fault_of_run run.Thread = Thread
fault_of_run run.Memory = Memory
fault_of_run run.Spent = Spent
fault_of_run run.Write = Write

-- the exit status of the program
abbrev pub exit_status_of : Result Status ProgramFault → ℕ
exit_status_of (Ok Clean) = 0
exit_status_of (Ok Marked) = 1
exit_status_of (Err (Config fault)) = 2
exit_status_of (Err fault) = 3
