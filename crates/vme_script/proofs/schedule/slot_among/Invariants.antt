use Rattle.std.proofs.Common.{◌≡◌, drop}
use Rattle.std.specs.Prelude.{◌==◌}
use Rattle.std.specs.List.{list_any}
use Rattle.vme_script.proofs.schedule.slot_among.Given as goal

-- no board so far is in the slot
abbrev pub invariant-loop-board : goal.invariant-loop-board
invariant-loop-board l =
    list_any (λ board. board.slot == l.slot) (drop l.board-index l.boards) ≡ list_any (λ board. board.slot == l.slot) l.fn.boards
