-- The bytes on the lanes are the part of a word, and have the length of the location.
use Rattle.std.proofs.Common.{rules}
use Rattle.vme_memory.proofs.Lanes.{by_halves, by_places, lanes_len}
use Rattle.vme_memory.proofs.word.driven_word.Goals as goal

pub returns-then-of-clause-bytes : goal.returns-then-of-clause-bytes
returns-then-of-clause-bytes c =
    by_halves c.args.location c.args.lines.lanes c.word_of.result (search rules) (search rules) c.requires (search rules)

pub returns-then-of-clause-len : goal.returns-then-of-clause-len
returns-then-of-clause-len c =
    lanes_len c.args.location c.args.lines.lanes c.word_of.result
    (by_halves c.args.location c.args.lines.lanes c.word_of.result (search rules) (search rules) c.requires (search rules))

pub returns-else-of-clause-bytes : goal.returns-else-of-clause-bytes
returns-else-of-clause-bytes c =
    by_places c.args.location c.args.lines.lanes c.word_of-else-of.result (search rules) (search rules) c.requires (search rules)

pub returns-else-of-clause-len : goal.returns-else-of-clause-len
returns-else-of-clause-len c =
    lanes_len c.args.location c.args.lines.lanes c.word_of-else-of.result
    (by_places c.args.location c.args.lines.lanes c.word_of-else-of.result (search rules) (search rules) c.requires (search rules))
