-- The table agrees with the definition at each of the 256 bytes, by computation.
use Rattle.std.proofs.Common.{refl, arith}
use Rattle.vme_lexer.specs.declared.numbers.TheConstants.{DIGITS}
use Rattle.vme_lexer.proofs.Digits.{counts_below, counts_at}
use Rattle.vme_lexer.proofs.numbers.hex_digit.Goals as goal

pub returns : goal.returns
unfolding counts_below
returns c = record { digit = counts_at DIGITS 256 c.args.c refl (omega arith) }
