-- The lines of a cell: their variables, their values before it, and how they are drawn.
use Rattle.std.specs.Prelude.{ℕ, ◌+◌, ◌%◌, Bool, List, [], ◌∷◌, Option, Some, None}
use Rattle.vme_trace.specs.declared.dump.change.Value.{Value}
use Rattle.vme_trace.specs.declared.dump.change.Value.TheVariants.{Low, High, Free, Released, Number, Lanes, Grants}
use Rattle.vme_trace.specs.declared.dump.change.Change.{Change}
use Rattle.vme_trace.specs.declared.dump.variable.Variable.{Variable}
use Rattle.vme_trace.specs.declared.dump.variable.Variable.TheVariants.{AddressStrobe, AddressModifier, AddressLines, LongWord, WriteLine, FirstStrobe, SecondStrobe, DataLines, UpperDataLines, Acknowledge, BusError}
use Rattle.vme_trace.specs.Variables.{code_of}
use Rattle.vme_page.specs.declared.diagram.cell.Cell.{Cell}
use Rattle.vme_page.specs.declared.diagram.layout.Bar.{Bar}
use Rattle.vme_page.specs.declared.diagram.levels.Levels.{Levels}
use Rattle.vme_page.specs.declared.diagram.row.Row.{Row}
use Rattle.vme_page.specs.declared.diagram.row.Style.{Style}
use Rattle.vme_page.specs.declared.diagram.row.Style.TheVariants.{Level, Error, Address, Data, UpperData, Request, Busy}
use Rattle.vme_page.specs.Points.{first_value, number_of}

-- a number that a line changes to, or else the one before
abbrev pub number_or : Value → Option Value → ℕ
number_or before None = number_of before
number_or before (Some Low) = number_of before
number_or before (Some High) = number_of before
number_or before (Some Free) = number_of before
number_or before (Some Released) = number_of before
number_or before (Some (Number width number)) = number
number_or before (Some (Lanes lanes)) = number_of before
number_or before (Some (Grants bits)) = number_of before

-- the address modifier that a cell names: that of the transfer that begins in it, or else the one before
abbrev pub modifier_of : Cell → List Change → ℕ
modifier_of cell changes =
    number_or cell.levels.address_modifier (first_value cell.window (code_of AddressModifier) changes) % 256

-- a line of the bus
abbrev pub bus_row : Variable → Value → Style → ℕ → Row
bus_row variable value style y = record { code = code_of variable; value = value; style = style; y = y }

-- the lines of the bus: the address with its modifier, and over it the upper half of eight-byte data; WRITE*, LWORD*, AS*, DS1*,
-- DS0*, D31 to D00, DTACK* and BERR*
unfoldable pub bus_rows : Bool → Levels → ℕ → ℕ → List Row
bus_rows leads l modifier y =
    bus_row AddressLines l.address_lines (Address leads modifier) y
    ∷ bus_row UpperDataLines l.upper_data_lines UpperData y
    ∷ bus_row WriteLine l.write_line Level (y + 24)
    ∷ bus_row LongWord l.long_word Level (y + 48)
    ∷ bus_row AddressStrobe l.address_strobe Level (y + 72)
    ∷ bus_row FirstStrobe l.first_strobe Level (y + 96)
    ∷ bus_row SecondStrobe l.second_strobe Level (y + 120)
    ∷ bus_row DataLines l.data_lines Data (y + 144)
    ∷ bus_row Acknowledge l.acknowledge Level (y + 168)
    ∷ bus_row BusError l.bus_error Error (y + 192) ∷ []

-- the rows of a bar: a frame while the slot requests the bus, and over it a solid bar while it holds the bus
unfoldable pub bar_rows : Bar → ℕ → List Row
bar_rows bar y =
    record { code = bar.request_code; value = bar.request; style = Request bar.level; y = y }
    ∷ record { code = bar.busy_code; value = bar.busy; style = Busy; y = y } ∷ []
