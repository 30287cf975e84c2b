use Rattle.std.proofs.Common.{◌≡◌, drop}
use Rattle.vme_bus_log.specs.Words.{decimal_from}
use Rattle.vme_bus_log.proofs.word.decimal.Given as goal

-- the number so far, continued with the digits that are left, is the number that the word spells
abbrev pub invariant-loop-byte : goal.invariant-loop-byte
invariant-loop-byte l = decimal_from l.number (drop l.byte-index l.word) ≡ decimal_from 0 l.word
