use Rattle.std.proofs.Common.{◌≡◌, drop}
use Rattle.vme_vcd_reader.specs.Names.{with_characters}
use Rattle.vme_vcd_reader.proofs.identifier.identifier_of.Given as goal

-- the identifier so far, with the characters that are left, is that of the word
abbrev pub invariant-loop-byte : goal.invariant-loop-byte
invariant-loop-byte l = with_characters l.identifier (drop l.byte-index l.word) ≡ with_characters 0 l.word
