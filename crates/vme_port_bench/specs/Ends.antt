-- Defines how the program ends.
use Rattle.std.specs.Prelude.{ℕ, Result, Ok, Err}
use Rattle.vme_port_bench.specs.declared.fault.BenchFault.{BenchFault}
use Rattle.vme_port_bench.specs.declared.fault.BenchFault.TheVariants.{Usage, Memory, Thread, Spent, Write}

-- the exit status of a fault: 2 for a wrong command line, 3 for every other fault
abbrev pub exit_status_of : BenchFault → ℕ
exit_status_of Usage = 2
exit_status_of Memory = 3
exit_status_of Thread = 3
exit_status_of Spent = 3
exit_status_of Write = 3

-- the run failed with `Usage`
abbrev pub IsUsage : {A : Type 0} → Result A BenchFault → Type 0
IsUsage (Err Usage) = Unit {0}
IsUsage (Err Memory) = ⊥
IsUsage (Err Thread) = ⊥
IsUsage (Err Spent) = ⊥
IsUsage (Err Write) = ⊥
IsUsage (Ok outcome) = ⊥
