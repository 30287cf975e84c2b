-- The bytes of the number that four bytes spell are these bytes.
use Rattle.std.proofs.Common.{rules}
use Rattle.std.proofs.lemmas.Nat.{be_bytes_4}
use Rattle.vme_memory.specs.Words.{word_bytes}
use Rattle.vme_memory.proofs.word.word_of.Goals as goal

pub returns : goal.returns
unfolding word_bytes
returns c = be_bytes_4 c.args.bytes _ (search rules) (search rules) c.from_be_bytes.ensures
