-- The faults that end a run of scripts before its whole report is written.
use Rattle.std.specs.Prelude.{◌≢◌, Bool, true, false, Result, Err}
use Rattle.vme_report.specs.declared.fault.RunFault.{RunFault}
use Rattle.vme_report.specs.declared.fault.RunFault.TheVariants.{Thread, Spent, Write}

-- a fault that can occur while a report is written: any fault but `Thread` and `Spent`
abbrev pub IsReportFault : RunFault → Type 0
IsReportFault fault = (fault ≢ Thread) × (fault ≢ Spent)

-- whether a result is the fault `Write`: the sink failed
abbrev pub is_write_end : {T : Type 0} → Result T RunFault → Bool
is_write_end (Err Write) = true
is_write_end end = false
