-- The bytes of the word of eight bytes are these bytes.
use Rattle.std.proofs.Common.{rules}
use Rattle.std.proofs.lemmas.Nat.{be_bytes_8}
use Rattle.vme_lanes.specs.Words.{word_bytes, word_of}
use Rattle.vme_lanes.proofs.lines.word.Goals as goal

pub returns-clause-value : goal.returns-clause-value
unfolding word_of
returns-clause-value c = c.from_be_bytes.ensures

pub returns-clause-bytes : goal.returns-clause-bytes
unfolding word_bytes
returns-clause-bytes c = be_bytes_8 c.args.bytes _ (search rules) (search rules) c.from_be_bytes.ensures
