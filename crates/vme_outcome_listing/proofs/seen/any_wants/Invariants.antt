use Rattle.std.proofs.Common.{◌≡◌, drop}
use Rattle.std.specs.List.{list_any}
use Rattle.vme_outcome_listing.specs.Looks.{wants_line}
use Rattle.vme_outcome_listing.proofs.seen.any_wants.Given as goal

-- one of the lines that are left is such a reply exactly if one of all is
abbrev pub invariant-loop-wanted : goal.invariant-loop-wanted
invariant-loop-wanted l =
    list_any (wants_line l.board l.line) (drop l.wanted-index l.alternatives) ≡ list_any (wants_line l.board l.line) l.alternatives
