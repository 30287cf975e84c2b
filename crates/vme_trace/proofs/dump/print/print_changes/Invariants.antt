use Rattle.std.proofs.Common.{◌≡◌, ◌++◌, drop}
use Rattle.std.specs.List.{flat_map}
use Rattle.vme_trace.specs.Changes.{text_at}
use Rattle.vme_trace.proofs.dump.print.print_changes.Given as goal

-- the text so far, with that of the changes that are left, is the whole text
abbrev pub invariant-loop-change : goal.invariant-loop-change
invariant-loop-change l =
    l.text.items ++ flat_map (text_at l.k) (drop l.change-index l.changes) ≡ l.fn.text.items ++ flat_map (text_at l.fn.k) l.fn.changes
