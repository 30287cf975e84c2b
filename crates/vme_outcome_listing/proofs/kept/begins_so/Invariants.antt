use Rattle.std.proofs.Common.{◌≡◌, map, drop}
use Rattle.vme_outcome_listing.specs.Texts.{begins_so}
use Rattle.vme_outcome_listing.proofs.kept.begins_so.Given as goal

-- the line begins with one of the texts that are left exactly if it begins with one of all
abbrev pub invariant-loop-head : goal.invariant-loop-head
invariant-loop-head l =
    begins_so (map (λ head. head.items) (drop l.head-index l.heads)) l.line ≡ begins_so (map (λ head. head.items) l.heads) l.line
