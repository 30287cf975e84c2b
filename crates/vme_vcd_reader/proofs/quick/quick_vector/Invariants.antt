use Rattle.std.proofs.Common.{◌≡◌, take}
use Rattle.vme_vcd_reader.proofs.Lines.{AreBits, ones_from}
use Rattle.vme_vcd_reader.proofs.quick.quick_vector.Given as goal

-- the digits so far are 0 or 1, and spell the number
abbrev pub invariant-loop-place : goal.invariant-loop-place
invariant-loop-place l = record { are : AreBits (take l.place l.digits); ones : l.ones ≡ ones_from 0 (take l.place l.digits) }
