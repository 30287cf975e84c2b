use Rattle.std.proofs.Common.{◌≡◌, map, drop}
use Rattle.std.specs.List.{list_any}
use Rattle.vme_outcome_listing.specs.Looks.{wants_line}
use Rattle.vme_outcome_listing.proofs.seen.any_alternative.Given as goal

-- one of the lines that are left is such a reply exactly if one of all is
abbrev pub invariant-loop-alternatives : goal.invariant-loop-alternatives
invariant-loop-alternatives l =
    list_any (λ a. list_any (wants_line l.board l.line) a) (map (λ a. a.items) (drop l.alternatives-index l.lines))
    ≡ list_any (λ a. list_any (wants_line l.board l.line) a) (map (λ a. a.items) l.lines)
