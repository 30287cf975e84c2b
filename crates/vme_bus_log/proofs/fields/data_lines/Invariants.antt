use Rattle.std.proofs.Common.{◌≡◌, drop}
use Rattle.vme_bus_log.specs.Fields.{lines_from}
use Rattle.vme_bus_log.proofs.fields.data_lines.Given as goal

-- the lines so far, with those of the digits that are left, are those of the word
abbrev pub invariant-loop-byte : goal.invariant-loop-byte
invariant-loop-byte l = lines_from l.lines l.idle (drop l.byte-index l.word) ≡ lines_from 0 0 l.word
