use Rattle.std.proofs.Common.{◌≡◌, map, drop}
use Rattle.std.specs.List.{list_any}
use Rattle.vme_outcome_listing.specs.Looks.{begin_alike}
use Rattle.vme_outcome_listing.proofs.seen.any_begins_alike.Given as goal

-- one of the texts that are left begins alike exactly if one of all does
abbrev pub invariant-loop-head : goal.invariant-loop-head
invariant-loop-head l =
    list_any (λ head. begin_alike head l.place) (map (λ head. head.items) (drop l.head-index l.heads))
    ≡ list_any (λ head. begin_alike head l.place) (map (λ head. head.items) l.heads)
