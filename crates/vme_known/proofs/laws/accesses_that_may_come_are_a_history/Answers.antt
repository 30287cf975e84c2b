use Rattle.vme_known.proofs.laws.accesses_that_may_come_are_a_history.Goals as goal
use Rattle.vme_known.proofs.Explaining.{explained, possible}

-- src/laws.rt:10:1
pub returns-clause-only : goal.returns-clause-only
returns-clause-only c = explained

-- src/laws.rt:10:1
pub returns-clause-every : goal.returns-clause-every
returns-clause-every c = possible
