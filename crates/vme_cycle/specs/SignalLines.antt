-- The lines of one cycle, and what a slave senses from them.
use Rattle.std.specs.Prelude.{ℕ, ◌+◌, ◌%◌, nat_le, Bool, true, false, ◌==◌, if◌then◌else◌, List, Option, Some, None}
use Rattle.std.specs.Option.{option_map, option_map_or, option_and_then}
use Rattle.vme_am.specs.Codes.{CodeRow}
use Rattle.vme_am.specs.Kinds.{is_block}
use Rattle.vme_lanes.specs.declared.location.Location.{Location}
use Rattle.vme_lanes.specs.declared.location.Strobes.{Strobes}
use Rattle.vme_lanes.specs.Rows.{row_of, location_sensed}
use Rattle.vme_lanes.specs.Lanes.{lanes_with, wide_lanes}

-- the lines of one cycle: address modifier, address lines from A02 up, strobes with A01 and LWORD*, level of WRITE*,
-- and the eight lanes, the most significant first; IEEE 1014-1987, 2.2 (data transfer bus lines)
pub record SignalLines : Type 0 where
  pub am : CodeRow
  pub addr : ℕ
  pub strobes : Strobes
  pub write : Bool
  pub lanes : List (Option ℕ)

-- the number of data bytes of a location of len bytes: len; with a code of eight-byte data, eight for four, else none
abbrev pub len_with : Bool → ℕ → Option ℕ
len_with false len = Some len
len_with true len = if len == 4 then Some 8 else None

-- the number of bytes that code and location select; IEEE 1014-1987, 2.2.1 (addressing lines)
abbrev pub chosen_len : Bool → Location → Option ℕ
chosen_len wide l = len_with wide (row_of l).len

-- the number of bytes that code and strobes select; IEEE 1014-1987, 2.2.1 (addressing lines)
abbrev pub row_len : Bool → Strobes → Option ℕ
row_len wide strobes = option_and_then (chosen_len wide) (location_sensed strobes)

-- the lanes with bytes on those of code and location, all eight with a code of eight-byte data;
-- IEEE 1014-1987, 2.2.3 (data lines)
abbrev pub placed_lanes : Bool → Location → List ℕ → List (Option ℕ)
placed_lanes true l bytes = wide_lanes bytes
placed_lanes false l bytes = lanes_with l bytes

-- the address of the first byte: the address lines from A02 up, and the place that the strobes select;
-- IEEE 1014-1987, 2.2.1 (addressing lines)
abbrev pub first_byte : SignalLines → Option ℕ
first_byte s = option_map (λ l. s.addr + (row_of l).first) (location_sensed s.strobes)

-- the strobes that a slave uses at an address or offset: in a block it increments the address and takes A01 from it;
-- IEEE 1014-1987, 2.3.7 (block transfer)
abbrev pub strobes_at : SignalLines → ℕ → Strobes
strobes_at s at = if is_block s.am.kind then record s.strobes { a01 = nat_le 2 (at % 4) } else s.strobes

-- the location that a slave senses at an address or offset; IEEE 1014-1987, 2.3.7 (block transfer)
abbrev pub sensed_at : SignalLines → ℕ → Option Location
sensed_at s at = location_sensed (strobes_at s at)

-- the number of bytes that a slave senses at an address or offset; IEEE 1014-1987, 2.3.7 (block transfer)
abbrev pub len_at : SignalLines → ℕ → Option ℕ
len_at s at = row_len s.am.wide (strobes_at s at)

-- the lines after a slave has replied to a read: it drives the lanes of code and strobes;
-- IEEE 1014-1987, 2.3.6 (basic data transfer)
abbrev pub answered_lines : SignalLines → List ℕ → SignalLines
answered_lines s bytes =
    record s { lanes = option_map_or (λ l. placed_lanes s.am.wide l bytes) (location_sensed s.strobes) s.lanes }
