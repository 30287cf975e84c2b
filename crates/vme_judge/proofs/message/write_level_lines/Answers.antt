use Rattle.vme_judge.specs.Levels.{level_lines}
use Rattle.vme_judge.proofs.message.write_level_lines.Goals as goal

pub returns : goal.returns
unfolding level_lines
returns c = rw c.shown_lines-lines.ensures at c.write_shown_lines.ensures
