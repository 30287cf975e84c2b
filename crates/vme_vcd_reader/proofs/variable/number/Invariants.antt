use Rattle.std.proofs.Common.{◌≡◌, drop}
use Rattle.vme_vcd_reader.specs.Headers.{small_from}
use Rattle.vme_vcd_reader.proofs.variable.number.Given as goal

-- the number so far, with the digits that are left, is that of all digits
abbrev pub invariant-loop-byte : goal.invariant-loop-byte
invariant-loop-byte l = small_from l.number (drop l.byte-index l.digits) ≡ small_from 0 l.digits
