use Rattle.std.proofs.Common.{◌≡◌, ◌++◌, map, drop}
use Rattle.std.specs.List.{flat_map}
use Rattle.vme_outcome_listing.specs.Conditions.{next_line_text}
use Rattle.vme_outcome_listing.proofs.condition.append_wanted.Given as goal

-- the text so far, with that of the lines that are left, is the whole text
abbrev pub invariant-loop-line : goal.invariant-loop-line
invariant-loop-line l =
    l.text.items ++ flat_map next_line_text (map (λ line. line.now) (drop l.line-index l.rest))
    ≡ l.initial.text.items ++ flat_map next_line_text (map (λ line. line.now) l.rest)
