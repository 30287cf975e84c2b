-- The variables of a value change dump, and their codes.
use Rattle.std.specs.Prelude.{ℕ, ◌+◌, ◌-◌, Some, None}
use Rattle.vme_trace.specs.declared.dump.change.Code.{Code}
use Rattle.vme_trace.specs.declared.dump.variable.Variable.{Variable}
use Rattle.vme_trace.specs.declared.dump.variable.Variable.TheVariants.{EventNumber, EventSlot, Holder, BusBusy, BusRequest, AddressStrobe, AddressModifier, AddressLines, LongWord, WriteLine, FirstStrobe, SecondStrobe, DataLines, UpperDataLines, Acknowledge, BusError, CurrentLine, RequestLine, GrantLines, BusyLine, Selected, PortSelect, PortWrite, PortOffset, PortData, PortDone, PortError}

-- the code of a variable of the bus: a letter
abbrev pub bus_code : ℕ → Code
bus_code letter = record { first = letter; second = None }

-- the code of a variable of a board's slot: `a` for the first board, and a letter for the variable
abbrev pub slot_code : ℕ → ℕ → Code
slot_code board letter = record { first = 97 + board; second = Some letter }

-- the code of a variable: for the bus the letters from `A` on, one for each variable and level; for a slot those from `a` on
abbrev pub code_of : Variable → Code
code_of EventNumber = bus_code 65
code_of EventSlot = bus_code 66
code_of Holder = bus_code 67
code_of BusBusy = bus_code 68
code_of (BusRequest level) = bus_code (72 - level)
code_of AddressStrobe = bus_code 73
code_of AddressModifier = bus_code 74
code_of AddressLines = bus_code 75
code_of LongWord = bus_code 76
code_of WriteLine = bus_code 77
code_of FirstStrobe = bus_code 78
code_of SecondStrobe = bus_code 79
code_of DataLines = bus_code 80
code_of UpperDataLines = bus_code 81
code_of Acknowledge = bus_code 82
code_of BusError = bus_code 83
code_of (CurrentLine board) = slot_code board 97
code_of (RequestLine board) = slot_code board 98
code_of (GrantLines board) = slot_code board 99
code_of (BusyLine board) = slot_code board 100
code_of (Selected board) = slot_code board 101
code_of (PortSelect board) = slot_code board 102
code_of (PortWrite board) = slot_code board 103
code_of (PortOffset board) = slot_code board 104
code_of (PortData board) = slot_code board 105
code_of (PortDone board) = slot_code board 106
code_of (PortError board) = slot_code board 107

-- the board of whose slot a variable is; 0 for one of the bus
abbrev pub board_of : Variable → ℕ
board_of EventNumber = 0
board_of EventSlot = 0
board_of Holder = 0
board_of BusBusy = 0
board_of (BusRequest level) = 0
board_of AddressStrobe = 0
board_of AddressModifier = 0
board_of AddressLines = 0
board_of LongWord = 0
board_of WriteLine = 0
board_of FirstStrobe = 0
board_of SecondStrobe = 0
board_of DataLines = 0
board_of UpperDataLines = 0
board_of Acknowledge = 0
board_of BusError = 0
board_of (CurrentLine board) = board
board_of (RequestLine board) = board
board_of (GrantLines board) = board
board_of (BusyLine board) = board
board_of (Selected board) = board
board_of (PortSelect board) = board
board_of (PortWrite board) = board
board_of (PortOffset board) = board
board_of (PortData board) = board
board_of (PortDone board) = board
board_of (PortError board) = board
