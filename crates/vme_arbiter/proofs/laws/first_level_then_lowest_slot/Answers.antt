use Rattle.std.proofs.Common.{ap}
use Rattle.vme_arbiter.specs.Levels.{level_order}
use Rattle.vme_arbiter.specs.Requests.{next_request}
use Rattle.vme_arbiter.proofs.Grants.{next-granted, granted-next, none-granted, next-sole}
use Rattle.vme_arbiter.proofs.laws.first_level_then_lowest_slot.Goals as goal

pub returns-clause-next : goal.returns-clause-next
returns-clause-next c = λ first pending next first_ok levels_ok.
    (granted-next first pending next first_ok levels_ok, next-granted (level_order first) pending next)

pub returns-clause-none : goal.returns-clause-none
returns-clause-none c = λ first pending first_ok levels_ok.
    (none-granted first pending first_ok levels_ok, λ empty. ap (next_request (level_order first)) empty)

pub returns-clause-alone : goal.returns-clause-alone
returns-clause-alone c = λ first pending. next-sole (level_order first) pending
