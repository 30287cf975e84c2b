use Rattle.std.proofs.Common.{◌≡◌, ◌-◌, ◌++◌}
use Rattle.std.specs.List.{flat_map, range_with_len}
use Rattle.vme_trace.specs.Values.{slot_values}
use Rattle.vme_trace.proofs.dump.values.push_slots.Given as goal

-- the values so far, with those of the slots that are left, are all values
abbrev pub invariant-loop-board : goal.invariant-loop-board
invariant-loop-board l =
    l.values.items ++ flat_map slot_values (range_with_len l.board (l.boards - l.board))
    ≡ l.fn.values.items ++ flat_map slot_values (range_with_len 0 l.fn.boards)
