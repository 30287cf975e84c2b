use Rattle.std.proofs.Common.{◌≡◌, ◌++◌}
use Rattle.std.specs.List.{flat_map}
use Rattle.std.specs.Str.Lines.{lines}
use Rattle.vme_outcome_listing.specs.Outputs.{cell_text}
use Rattle.vme_outcome_listing.proofs.print.append_cells.Given as goal

-- the text so far, with the lines that are left, is the whole text
abbrev pub invariant-loop-line : goal.invariant-loop-line
invariant-loop-line l =
    l.text.items ++ flat_map cell_text (lines l.line-iterator.rest.now) ≡ l.fn.text.items ++ flat_map cell_text (lines l.all)
