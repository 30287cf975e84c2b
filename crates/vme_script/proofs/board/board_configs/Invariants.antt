use Rattle.std.proofs.Common.{◌≡◌, drop}
use Rattle.vme_script.specs.Boards.{boards_after}
use Rattle.vme_script.proofs.Lists.{with_answers}
use Rattle.vme_script.proofs.board.board_configs.Given as goal

-- the boards configured so far, followed by those of the remaining values, are those of all values
abbrev pub invariant-loop-board : goal.invariant-loop-board
invariant-loop-board l = with_answers l.configs.items (boards_after l.before (drop l.board-index l.boards)) ≡ boards_after 0 l.fn.boards
