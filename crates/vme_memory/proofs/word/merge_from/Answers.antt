-- The word is merged under a mask of these bytes.
use Rattle.vme_memory.proofs.Shifts.{merged_from}
use Rattle.vme_memory.proofs.word.merge_from.Goals as goal

pub returns : goal.returns
returns c = merged_from c.args.word c.args.new c.args.place c.args.len c.requires.some c.requires.within
