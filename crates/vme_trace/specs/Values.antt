-- The values of the variables, one after another.
use Rattle.std.specs.Prelude.{ℕ, List, [], ◌∷◌, ◌++◌, flat_map}
use Rattle.std.specs.List.{range_with_len}
use Rattle.vme_trace.specs.declared.dump.change.Change.{Change}
use Rattle.vme_trace.specs.declared.dump.change.Value.{Value}
use Rattle.vme_trace.specs.declared.dump.change.Value.TheVariants.{Low, High, Free, Released, Number, Grants}
use Rattle.vme_trace.specs.declared.dump.edge.TheConstants.{BEGIN, EDGES}
use Rattle.vme_trace.specs.declared.dump.values.Shown.{Shown}
use Rattle.vme_trace.specs.declared.dump.variable.Variable.{Variable}
use Rattle.vme_trace.specs.declared.dump.variable.Variable.TheVariants.{EventNumber, EventSlot, Holder, BusBusy, BusRequest, AddressStrobe, AddressModifier, AddressLines, LongWord, WriteLine, FirstStrobe, SecondStrobe, DataLines, UpperDataLines, Acknowledge, BusError, CurrentLine, RequestLine, GrantLines, BusyLine, Selected, PortSelect, PortWrite, PortOffset, PortData, PortDone, PortError}
use Rattle.vme_trace.specs.Variables.{code_of}
use Rattle.vme_trace.specs.Changes.{no_lanes, value_text}
use Rattle.vme_trace.specs.Shown.{value_over}

-- a variable with a value
abbrev pub valued : Variable → Value → Shown
valued variable value = record { code = code_of variable; value = value }

-- the values of the variables of the bus before the first event
unfoldable pub bus_values : List Shown
bus_values =
    valued EventNumber (Number 32 0)
    ∷ valued EventSlot Released
    ∷ valued Holder Released
    ∷ valued BusBusy High
    ∷ valued (BusRequest 3) High
    ∷ valued (BusRequest 2) High
    ∷ valued (BusRequest 1) High
    ∷ valued (BusRequest 0) High
    ∷ valued AddressStrobe High
    ∷ valued AddressModifier Released
    ∷ valued AddressLines Released
    ∷ valued LongWord Free
    ∷ valued WriteLine Free
    ∷ valued FirstStrobe High
    ∷ valued SecondStrobe High
    ∷ valued DataLines no_lanes
    ∷ valued UpperDataLines no_lanes
    ∷ valued Acknowledge High
    ∷ valued BusError High ∷ []

-- the values of the variables of a board's slot before the first event
unfoldable pub slot_values : ℕ → List Shown
slot_values board =
    valued (CurrentLine board) Released
    ∷ valued (RequestLine board) High
    ∷ valued (GrantLines board) (Grants 15)
    ∷ valued (BusyLine board) High
    ∷ valued (Selected board) Low
    ∷ valued (PortSelect board) Low
    ∷ valued (PortWrite board) Free
    ∷ valued (PortOffset board) Released
    ∷ valued (PortData board) no_lanes
    ∷ valued (PortDone board) Low
    ∷ valued (PortError board) Low ∷ []

-- the values of the variables before the first event, on a backplane with so many boards
unfoldable pub start_values : ℕ → List Shown
start_values boards = bus_values ++ flat_map slot_values (range_with_len 0 boards)

-- a variable with its value after an event with these changes
abbrev pub shown_after : List Change → Shown → Shown
shown_after changes s = record s { value = value_over s.code changes BEGIN EDGES s.value }

-- the lines of the value of a variable
abbrev pub shown_text : Shown → List ℕ
shown_text s = value_text s.code s.value
