use Rattle.std.proofs.Common.{◌≡◌, length, map, take}
use Rattle.vme_ffi.specs.Data.{lane_of, lane_number}
use Rattle.vme_ffi.proofs.levels.lane_numbers.Given as goal

-- the numbers so far are those of the lanes
abbrev pub invariant-loop-i : goal.invariant-loop-i
invariant-loop-i g l =
    (map lane_of (take l.i l.numbers) ≡ take l.i l.lanes)
    × ((take l.i l.numbers ≡ map lane_number (take l.i l.lanes)) × (length l.numbers ≡ length l.lanes))
