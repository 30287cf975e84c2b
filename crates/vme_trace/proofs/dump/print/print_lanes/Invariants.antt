use Rattle.std.proofs.Common.{◌≡◌, ◌-◌, ◌++◌}
use Rattle.std.specs.List.{flat_map, range_with_len}
use Rattle.vme_trace.specs.Changes.{lane_text}
use Rattle.vme_trace.proofs.dump.print.print_lanes.Given as goal

-- the text so far, with that of the lanes that are left, is the whole text
abbrev pub invariant-loop-i : goal.invariant-loop-i
invariant-loop-i l =
    l.text.items ++ flat_map (lane_text l.code l.lanes) (range_with_len l.i (4 - l.i))
    ≡ l.fn.text.items ++ flat_map (lane_text l.fn.code l.fn.lanes) (range_with_len 0 4)
