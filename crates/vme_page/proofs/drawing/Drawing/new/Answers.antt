use Rattle.std.proofs.Common.{refl}
use Rattle.vme_page.specs.Levels.{levels_after_run}
use Rattle.vme_page.proofs.drawing.Drawing.new.Goals as goal

pub returns : goal.returns
unfolding levels_after_run
returns c = record { count = refl; levels = c.in_ok-new.ensures.levels; bars = c.in_ok-new.ensures.bars }
