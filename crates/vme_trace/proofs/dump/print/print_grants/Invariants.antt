use Rattle.std.proofs.Common.{◌≡◌, ◌-◌, ◌++◌}
use Rattle.std.specs.List.{flat_map, range_with_len}
use Rattle.vme_trace.specs.Changes.{grant_text}
use Rattle.vme_trace.proofs.dump.print.print_grants.Given as goal

-- the text so far, with that of the grant lines that are left, is the whole text
abbrev pub invariant-loop-level : goal.invariant-loop-level
invariant-loop-level l =
    l.text.items ++ flat_map (grant_text l.code l.bits) (range_with_len l.level (4 - l.level))
    ≡ l.fn.text.items ++ flat_map (grant_text l.fn.code l.fn.bits) (range_with_len 0 4)
