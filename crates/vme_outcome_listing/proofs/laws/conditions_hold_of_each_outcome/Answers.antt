use Rattle.vme_outcome_listing.proofs.Consequences.{all_kept, one_broken}
use Rattle.vme_outcome_listing.proofs.laws.conditions_hold_of_each_outcome.Goals as goal

pub returns-clause-kept : goal.returns-clause-kept
returns-clause-kept c = all_kept

pub returns-clause-broken : goal.returns-clause-broken
returns-clause-broken c = one_broken
