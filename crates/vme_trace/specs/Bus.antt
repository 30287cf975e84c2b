-- The lines of the bus in the handshakes of an event.
use Rattle.std.specs.Prelude.{ℕ, ◌+◌, ◌-◌, ◌*◌, ◌/◌, ◌%◌, Bool, not, ◌==◌, ◌&&◌, if◌then◌else◌, List, [], ◌∷◌, ◌++◌, slice_index_or, Option, Some, None}
use Rattle.vme_cycle.specs.SignalLines.{SignalLines}
use Rattle.vme_trace.specs.declared.dump.change.Change.{Change}
use Rattle.vme_trace.specs.declared.dump.change.Value.TheVariants.{Low, High, Free, Released, Number, Lanes}
use Rattle.vme_trace.specs.declared.dump.handshake.Handshake.{Handshake}
use Rattle.vme_trace.specs.declared.dump.edge.TheConstants.{BEGIN, FIRST, SECOND, MASTER_DRIVES, STROBES_FALL, BOARD_DRIVES, ANSWER_FALLS, STROBES_RISE, DATA_RELEASED, ANSWER_RISES, ADDRESS_RELEASED}
use Rattle.vme_trace.specs.declared.dump.variable.Variable.{Variable}
use Rattle.vme_trace.specs.declared.dump.variable.Variable.TheVariants.{AddressStrobe, AddressModifier, AddressLines, LongWord, WriteLine, FirstStrobe, SecondStrobe, DataLines, UpperDataLines, Acknowledge, BusError}
use Rattle.vme_trace.specs.Variables.{code_of}
use Rattle.vme_trace.specs.Changes.{level_of, change_if, no_lanes}
use Rattle.vme_trace.specs.Handshakes.{edge_of}

-- the edge at which the data are driven: by the master at the begin, and by the board once the strobes are low;
-- IEEE 1014-1987, 2 (data transfer bus)
abbrev pub drive_edge : Handshake → ℕ
drive_edge t = if t.lines.write then edge_of t BOARD_DRIVES else edge_of t MASTER_DRIVES

-- the byte on a lane; 0 if it carries none
abbrev pub byte_on : Option ℕ → ℕ
byte_on None = 0
byte_on (Some byte) = byte

-- the lane at an index
abbrev pub lane_at : List (Option ℕ) → ℕ → Option ℕ
lane_at lanes i = slice_index_or lanes i None

-- the lanes D31 to D00, the last four of eight
abbrev pub lower_lanes : List (Option ℕ) → List (Option ℕ)
lower_lanes lanes = lane_at lanes 4 ∷ lane_at lanes 5 ∷ lane_at lanes 6 ∷ lane_at lanes 7 ∷ []

-- the lanes D63 to D32, which the address lines carry
abbrev pub upper_lanes : List (Option ℕ) → List (Option ℕ)
upper_lanes lanes = lane_at lanes 0 ∷ lane_at lanes 1 ∷ lane_at lanes 2 ∷ lane_at lanes 3 ∷ []

-- the number on the lanes of the address lines, D63 to D32
abbrev pub upper_number : List (Option ℕ) → ℕ
upper_number lanes =
    16777216 * byte_on (lane_at lanes 0) + 65536 * byte_on (lane_at lanes 1) + 256 * byte_on (lane_at lanes 2)
    + byte_on (lane_at lanes 3)

-- whether a handshake moves eight bytes, four of them over the address lines
abbrev pub is_wide : Handshake → Bool
is_wide t = t.lines.am.wide && t.carries

-- AS* and the address modifier; IEEE 1014-1987, 2.2.2 (address modifier lines), and 2 (data transfer bus)
unfoldable pub address_strobe_changes : Handshake → List Change
address_strobe_changes t =
    change_if t.opens FIRST (code_of AddressStrobe) Low
    ++ (change_if t.ends (edge_of t STROBES_RISE) (code_of AddressStrobe) High
    ++ (change_if t.opens BEGIN (code_of AddressModifier) (Number 6 t.lines.am.code)
    ++ change_if t.ends (edge_of t ADDRESS_RELEASED) (code_of AddressModifier) Released))

-- A31 to A01 as a number whose lowest bit, A00, is no line and 0
abbrev pub address_number : SignalLines → ℕ
address_number s = if s.strobes.a01 then s.addr + 2 else s.addr

-- A31 to A01, which carry D63 to D33 in eight-byte data
unfoldable pub address_changes : Handshake → List Change
address_changes t =
    change_if t.opens BEGIN (code_of AddressLines) (Number 32 (address_number t.lines))
    ++ (change_if t.clears SECOND (code_of AddressLines) Released
    ++ (change_if (is_wide t) (drive_edge t) (code_of AddressLines)
    (Number 32 (upper_number t.lines.lanes - upper_number t.lines.lanes % 2))
    ++ (change_if (is_wide t) (edge_of t DATA_RELEASED) (code_of AddressLines) Released
    ++ change_if t.ends (edge_of t ADDRESS_RELEASED) (code_of AddressLines) Released)))

-- a line that shows a level with the address, and a bit of eight-byte data
abbrev pub address_level_changes : Handshake → Variable → Bool → Bool → List Change
address_level_changes t variable level bit =
    change_if t.opens BEGIN (code_of variable) (level_of level)
    ++ (change_if t.clears SECOND (code_of variable) Free
    ++ (change_if (is_wide t) (drive_edge t) (code_of variable) (level_of bit)
    ++ (change_if (is_wide t) (edge_of t DATA_RELEASED) (code_of variable) Free
    ++ change_if t.ends (edge_of t ADDRESS_RELEASED) (code_of variable) Free)))

-- LWORD* and WRITE*
unfoldable pub level_changes : Handshake → List Change
level_changes t =
    address_level_changes t LongWord t.lines.strobes.lword (upper_number t.lines.lanes % 2 == 1)
    ++ (change_if t.opens BEGIN (code_of WriteLine) (level_of t.lines.write)
    ++ (change_if t.falls SECOND (code_of WriteLine) Low
    ++ change_if t.ends (edge_of t ADDRESS_RELEASED) (code_of WriteLine) Free))

-- DS1* and DS0*, those that the location has low; IEEE 1014-1987, 2.2.1 (addressing lines), and 2 (data transfer bus)
unfoldable pub data_strobe_changes : Handshake → List Change
data_strobe_changes t =
    change_if (not t.lines.strobes.ds1) (edge_of t STROBES_FALL) (code_of FirstStrobe) Low
    ++ (change_if (not t.lines.strobes.ds1) (edge_of t STROBES_RISE) (code_of FirstStrobe) High
    ++ (change_if (not t.lines.strobes.ds0) (edge_of t STROBES_FALL) (code_of SecondStrobe) Low
    ++ change_if (not t.lines.strobes.ds0) (edge_of t STROBES_RISE) (code_of SecondStrobe) High))

-- D31 to D00, and D63 to D32 of eight-byte data
unfoldable pub data_changes : Handshake → List Change
data_changes t =
    change_if t.carries (drive_edge t) (code_of DataLines) (Lanes (lower_lanes t.lines.lanes))
    ++ (change_if t.carries (edge_of t DATA_RELEASED) (code_of DataLines) no_lanes
    ++ (change_if (is_wide t) (drive_edge t) (code_of UpperDataLines) (Lanes (upper_lanes t.lines.lanes))
    ++ change_if (is_wide t) (edge_of t DATA_RELEASED) (code_of UpperDataLines) no_lanes))

-- DTACK* or BERR*, which falls while a strobe is low, and rises after both are high; IEEE 1014-1987, 2 (data transfer bus)
unfoldable pub answer_changes : Handshake → List Change
answer_changes t =
    change_if (not t.berr) (edge_of t ANSWER_FALLS) (code_of Acknowledge) Low
    ++ (change_if (not t.berr) (edge_of t ANSWER_RISES) (code_of Acknowledge) High
    ++ (change_if t.berr (edge_of t ANSWER_FALLS) (code_of BusError) Low
    ++ change_if t.berr (edge_of t ANSWER_RISES) (code_of BusError) High))

-- the lines of the bus in a handshake, in order of the variables
unfoldable pub handshake_changes : Handshake → List Change
handshake_changes t =
    address_strobe_changes t
    ++ (address_changes t ++ (level_changes t ++ (data_strobe_changes t ++ (data_changes t ++ answer_changes t))))

-- the changes of a handshake, if there is one
abbrev pub some_handshake_changes : Option Handshake → List Change
some_handshake_changes None = []
some_handshake_changes (Some t) = handshake_changes t
