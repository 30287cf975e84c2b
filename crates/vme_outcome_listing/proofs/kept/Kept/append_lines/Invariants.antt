use Rattle.std.proofs.Common.{◌≡◌, ◌++◌}
use Rattle.std.specs.List.{flat_map}
use Rattle.std.specs.Str.Lines.{lines}
use Rattle.vme_outcome_listing.specs.Texts.{kept_line}
use Rattle.vme_outcome_listing.proofs.kept.Kept.append_lines.Given as goal

-- the text so far, with the lines that are left and kept, is the whole text
abbrev pub invariant-loop-line : goal.invariant-loop-line
invariant-loop-line l =
    l.text.items ++ flat_map (kept_line l.self) (lines l.line-iterator.rest.now)
    ≡ l.fn.text.items ++ flat_map (kept_line l.self) (lines l.all)
