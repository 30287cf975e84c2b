use Rattle.std.proofs.Common.{◌≡◌, length}
use Rattle.vme_lexer.specs.Words.{words}
use Rattle.vme_lexer.proofs.words.split_word.Given as goal

-- only empty parts were skipped, so the rest has the words of the line
abbrev pub invariant-loop-word : goal.invariant-loop-word
invariant-loop-word l = words l.rest ≡ words l.fn.line

abbrev pub decreases-loop-word : goal.decreases-loop-word
decreases-loop-word l = length l.rest
