use Rattle.std.proofs.Common.{sym, rules}
use Rattle.std.proofs.lemmas.Option.{slice_get_within}
use Rattle.vme_arbiter.specs.Levels.{level_order}
use Rattle.vme_arbiter.proofs.Listed.{none-listed}
use Rattle.vme_arbiter.proofs.Nexts.{up_to_first-next, later-next, later-within}
use Rattle.vme_arbiter.proofs.levels.next_request.Goals as goal

-- The request that the search by levels finds is granted next.
pub returns-then-not-has_request-clause-next : goal.returns-then-not-has_request-clause-next
returns-then-not-has_request-clause-next c =
    sym (none-listed (level_order c.args.first) c.args.levels.now (c.has_request.ensures (search rules)))

pub returns-in-Some-clause-next : goal.returns-in-Some-clause-next
returns-in-Some-clause-next c =
    sym (up_to_first-next c.args.first c.args.levels.now c.in-Some.next.slot c.in-Some.next.level c.requires.in_range c.in-Some.ensures
    c.requires.first)

pub returns-in-Some-clause-within : goal.returns-in-Some-clause-within
returns-in-Some-clause-within c = slice_get_within c.args.levels.now c.in-Some.next.slot _ c.in-Some.ensures.there

pub returns-clause-next : goal.returns-clause-next
returns-clause-next c =
    later-next c.args.first c.args.levels.now c.greatest_request-2.result c.requires.in_range c.in_default.ensures
    c.greatest_request-2.ensures

pub returns-clause-within : goal.returns-clause-within
returns-clause-within c = later-within c.args.levels.now _ _ c.greatest_request-2.result c.greatest_request-2.ensures
