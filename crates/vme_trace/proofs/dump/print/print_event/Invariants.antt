use Rattle.std.proofs.Common.{◌≡◌, ◌-◌, ◌++◌}
use Rattle.std.specs.List.{flat_map, range_with_len}
use Rattle.vme_trace.specs.Changes.{edge_text}
use Rattle.vme_trace.proofs.dump.print.print_event.Given as goal

-- the text so far, with that of the edges that are left, is the whole text
abbrev pub invariant-loop-k : goal.invariant-loop-k
invariant-loop-k l =
    l.text.items ++ flat_map (edge_text l.n l.changes) (range_with_len l.k (20 - l.k))
    ≡ l.fn.text.items ++ flat_map (edge_text l.fn.n l.fn.changes) (range_with_len 0 20)
