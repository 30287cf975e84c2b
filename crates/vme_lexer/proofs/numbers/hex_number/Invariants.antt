use Rattle.std.proofs.Common.{drop}
use Rattle.vme_lexer.proofs.Digits.{IsRead}
use Rattle.vme_lexer.proofs.numbers.hex_number.Given as goal

-- the digits so far are read
abbrev pub invariant-loop-digit : goal.invariant-loop-digit
invariant-loop-digit l = IsRead l.number l.digit-index (drop l.digit-index l.word) l.word
