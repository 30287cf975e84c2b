use Rattle.std.proofs.Common.{◌≡◌, take}
use Rattle.std.specs.Prelude.{All}
use Rattle.vme_outcome_listing.specs.Conditions.{IsClaim, conditions_in}
use Rattle.vme_outcome_listing.proofs.names.claims_of.Given as goal

-- the claims so far are those of the conditions so far
abbrev pub invariant-loop-i : goal.invariant-loop-i
invariant-loop-i l = record {
  same : conditions_in l.claims.items ≡ take l.i l.conditions;
  named : All (IsClaim l.config) l.claims.items;
}
