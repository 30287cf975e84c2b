use Rattle.std.proofs.Common.{◌≡◌, drop}
use Rattle.std.specs.List.{list_any}
use Rattle.vme_outcome_listing.specs.Looks.{claim_wants}
use Rattle.vme_outcome_listing.proofs.seen.is_wanted.Given as goal

-- one of the conditions that are left wants the reply exactly if one of all does
abbrev pub invariant-loop-claim : goal.invariant-loop-claim
invariant-loop-claim l =
    list_any (claim_wants l.board l.line) (drop l.claim-index l.claims) ≡ list_any (claim_wants l.board l.line) l.claims
