use Rattle.std.proofs.Common.{◌≡◌, ◌++◌, drop, map, take}
use Rattle.vme_page.specs.Layouts.{bar_past}
use Rattle.vme_page.proofs.diagram.layout.record_bars.Given as goal

-- the bars so far are those after the event, the others those before it
abbrev pub invariant-loop-bar : goal.invariant-loop-bar
invariant-loop-bar l = l.bars ≡ map (bar_past l.window l.changes) (take l.bar-index l.fn.bars) ++ drop l.bar-index l.fn.bars
