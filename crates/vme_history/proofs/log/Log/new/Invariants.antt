use Rattle.std.proofs.Common.{◌≡◌, [], map, replicate}
use Rattle.vme_history.proofs.log.Log.new.Given as goal

-- each board so far has no line
abbrev pub invariant-loop-board : goal.invariant-loop-board
invariant-loop-board l = map (λ lines. lines.items) l.lines.items ≡ replicate l._board []
