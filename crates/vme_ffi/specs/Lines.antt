-- The lines of a cycle, as C has them.
use Rattle.std.specs.Prelude.{◌≡◌, ℕ, ◌%◌, nat_lt, Bool, false, ◌==◌, ◌&&◌, if◌then◌else◌, List, length, map, is_some, Option, Some, None, Result, Ok, Err}
use Rattle.std.specs.Option.{option_map_or}
use Rattle.vme_am.specs.declared.code.AmFault.{AmFault}
use Rattle.vme_am.specs.Codes.{CodeRow, read_code}
use Rattle.vme_am.specs.Spaces.{addresses_of}
use Rattle.vme_lanes.specs.Rows.{location_sensed}
use Rattle.vme_cycle.specs.SignalLines.{SignalLines, row_len}
use Rattle.vme_ffi.specs.declared.lines.VmeLines.{VmeLines}
use Rattle.vme_c_types.specs.Data.{level_of}
use Rattle.vme_ffi.specs.Data.{level_number, lane_of, lane_number}
use Rattle.vme_ffi.specs.Tables.{strobes_of, strobes_struct}

-- the lines of a cycle with the row of its code
abbrev pub lines_of : VmeLines → CodeRow → SignalLines
lines_of v row = record {
  am = row;
  addr = v.addr;
  strobes = strobes_of v.strobes;
  write = level_of v.write;
  lanes = map lane_of v.lanes;
}

-- the lines of a cycle with the row of its code, if the strobes select bytes
abbrev pub sensed : VmeLines → CodeRow → Option SignalLines
sensed v row = if is_some (location_sensed (strobes_of v.strobes)) then Some (lines_of v row) else None

-- the lines of a cycle with the row of its code, if the address is a multiple of four in the code's space and the
-- strobes select bytes
abbrev pub sensed_with : VmeLines → Result CodeRow AmFault → Option SignalLines
sensed_with v (Ok row) = if v.addr % 4 == 0 && nat_lt v.addr (addresses_of row.space) then sensed v row else None
sensed_with v (Err fault) = None

-- the cycle that lines show: none if the code has no row, the address is not a multiple of four in its space, or the
-- strobes select no bytes
abbrev pub cycle_shown : VmeLines → Option SignalLines
cycle_shown v = sensed_with v (read_code v.am)

-- whether code and strobes select as many bytes as there are
abbrev pub selects : SignalLines → List ℕ → Bool
selects s bytes = option_map_or (λ len. length bytes == len) (row_len s.am.wide s.strobes) false

-- lines show a cycle: each line has its level, and each lane carries its byte or nothing
abbrev pub Shows : VmeLines → SignalLines → Type 0
Shows v s =
    (v.am ≡ s.am.code)
    × ((v.addr ≡ s.addr)
    × ((strobes_of v.strobes ≡ s.strobes) × ((level_of v.write ≡ s.write) × (map lane_of v.lanes ≡ s.lanes))))

-- the struct that the library writes for the lines of a cycle: each level is 0 or 1, and each idle lane is 0xffff
abbrev pub lines_struct : SignalLines → VmeLines
lines_struct s = record {
  addr = s.addr;
  am = s.am.code;
  write = level_number s.write;
  strobes = strobes_struct s.strobes;
  lanes = map lane_number s.lanes;
}
