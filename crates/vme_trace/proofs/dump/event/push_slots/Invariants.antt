use Rattle.std.proofs.Common.{◌≡◌, ◌-◌, ◌++◌}
use Rattle.std.specs.List.{flat_map, range_with_len}
use Rattle.vme_trace.specs.Slots.{slot_changes}
use Rattle.vme_trace.proofs.dump.event.push_slots.Given as goal

-- the changes so far, with those of the boards that are left, are all changes
abbrev pub invariant-loop-board : goal.invariant-loop-board
invariant-loop-board l =
    l.changes.items ++ flat_map (slot_changes l.event) (range_with_len l.board (l.boards - l.board))
    ≡ l.fn.changes.items ++ flat_map (slot_changes l.fn.event) (range_with_len 0 l.fn.boards)
