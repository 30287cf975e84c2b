use Rattle.std.proofs.Common.{◌≡◌, map, take, length}
use Rattle.vme_history.proofs.log.Log.counts.Given as goal

abbrev pub invariant-loop-board : goal.invariant-loop-board
invariant-loop-board l = l.counts.items ≡ map length (take l.board l.self.lines)
