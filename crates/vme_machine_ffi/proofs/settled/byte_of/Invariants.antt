use Rattle.std.proofs.Common.{◌≡◌, ◌+◌, length, drop, get_or}
use Rattle.vme_machine_ffi.specs.Closings.{bytes_of}
use Rattle.vme_machine_ffi.proofs.settled.byte_of.Given as goal

-- the byte is at `left` of the boards that are to come
abbrev pub invariant-loop-i : goal.invariant-loop-i
invariant-loop-i l = record {
  rest : length (bytes_of (drop l.i l.fn.homes)) + l.fn.place ≡ length (bytes_of l.fn.homes) + l.left;
  byte : get_or (bytes_of l.fn.homes) l.fn.place 0 ≡ get_or (bytes_of (drop l.i l.fn.homes)) l.left 0;
}
