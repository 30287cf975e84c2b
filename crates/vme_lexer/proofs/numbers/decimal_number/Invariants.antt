use Rattle.std.proofs.Common.{◌≡◌, ◌<◌, ◌^◌, drop}
use Rattle.vme_lexer.specs.Numbers.{decimal_from}
use Rattle.vme_lexer.proofs.numbers.decimal_number.Given as goal

-- the number so far, continued with the remaining digits, is the number that the word spells
abbrev pub invariant-loop-digit : goal.invariant-loop-digit
invariant-loop-digit l = record {
  number : decimal_from l.number (drop l.digit-index l.word) ≡ decimal_from 0 l.word;
  small : l.number < 10 ^ l.digit-index;
}
