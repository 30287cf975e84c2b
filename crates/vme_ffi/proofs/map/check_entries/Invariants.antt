use Rattle.std.proofs.Common.{◌≡◌, length, map, take}
use Rattle.vme_c_types.specs.Boards.{entry_of}
use Rattle.vme_ffi.proofs.map.check_entries.Given as goal

-- the entries so far are read
abbrev pub invariant-loop-place : goal.invariant-loop-place
invariant-loop-place l = (take l.place l.read ≡ map entry_of (take l.place l.entries)) × (length l.read ≡ 21)
