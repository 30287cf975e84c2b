-- The variables that show who holds the bus, and the number of the event.
use Rattle.std.specs.Prelude.{ℕ, Option, Some, None}
use Rattle.vme_trace.specs.declared.dump.change.Code.{Code}
use Rattle.vme_trace.specs.declared.dump.change.Value.{Value}
use Rattle.vme_trace.specs.declared.dump.change.Value.TheVariants.{Released, Number}
use Rattle.vme_trace.specs.declared.dump.variable.Variable.TheVariants.{EventNumber, Holder, BusBusy, BusyLine}
use Rattle.vme_trace.specs.Variables.{code_of}

-- the slot that holds the bus, as it is shown
abbrev pub holder_shown : Option ℕ → Value
holder_shown None = Released
holder_shown (Some slot) = Number 5 slot

-- the variable that shows it
abbrev pub holder_line : Code
holder_line = code_of Holder

-- BBSY* of the bus
abbrev pub bus_busy_line : Code
bus_busy_line = code_of BusBusy

-- BBSY*, as the slot of a board drives it
abbrev pub busy_line : ℕ → Code
busy_line board = code_of (BusyLine board)

-- the number of the event
abbrev pub event_number : Code
event_number = code_of EventNumber
