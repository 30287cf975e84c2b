use Rattle.std.proofs.Common.{◌+◌, ◌*◌, ◌≤◌, length}
use Rattle.vme_lexer.proofs.Digits.{IsSpelled}
use Rattle.vme_lexer.proofs.numbers.hex_bytes.Given as goal

-- the bytes so far, followed by those that the rest spells, are the bytes of the word
abbrev pub invariant-loop-rest : goal.invariant-loop-rest
invariant-loop-rest g l = record {
  bytes : IsSpelled l.bytes.items l.sum l.rest l.fn.word;
  bound : 2 * length l.bytes.items + length l.rest ≤ 2 * g.row.MOST;
}

abbrev pub decreases-loop-rest : goal.decreases-loop-rest
decreases-loop-rest g l = length l.rest
