use Rattle.std.proofs.Common.{◌≡◌, [], drop}
use Rattle.vme_line_map.specs.Variables.{Map}
use Rattle.vme_vcd_reader.specs.Headers.{beginning}
use Rattle.vme_vcd_reader.specs.Readers.{IsHeader}
use Rattle.vme_judge.specs.Blanks.{AreBlanks, line_past}
use Rattle.vme_judge.proofs.run.skip_blanks.Given as goal

-- the reader is before the first word, and has counted lines so far
abbrev pub invariant-loop-byte : goal.invariant-loop-byte
invariant-loop-byte l = record {
  reader : (map : Map) → AreBlanks l.blanks → IsHeader map beginning [] l.fn.vcd → IsHeader map beginning [] l.vcd;
  line : line_past (drop l.byte-index l.blanks) l.vcd.line ≡ line_past l.blanks l.fn.vcd.line;
}
