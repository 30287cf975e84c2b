use Rattle.std.proofs.Common.{◌≡◌, drop, ◌==◌}
use Rattle.std.specs.List.{position}
use Rattle.vme_history.proofs.Places.{place_from}
use Rattle.vme_history.proofs.read.board_in_slot.Given as goal

-- the index of the board in the slot is among the boards that are left
abbrev pub invariant-loop-board : goal.invariant-loop-board
invariant-loop-board l =
    place_from l.slot l.board (drop l.board l.config.boards) ≡ position (λ board. board.slot == l.slot) l.config.boards
