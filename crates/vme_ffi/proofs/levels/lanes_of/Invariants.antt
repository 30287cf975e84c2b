use Rattle.std.proofs.Common.{◌≡◌, length, map, take}
use Rattle.vme_ffi.specs.Data.{lane_of}
use Rattle.vme_ffi.proofs.levels.lanes_of.Given as goal

-- the lanes so far are read
abbrev pub invariant-loop-i : goal.invariant-loop-i
invariant-loop-i g l = (take l.i l.lanes ≡ map lane_of (take l.i l.numbers)) × (length l.lanes ≡ length l.numbers)
