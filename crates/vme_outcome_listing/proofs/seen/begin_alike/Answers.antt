use Rattle.std.proofs.Common.{drop, sym, ◌∙◌}
use Rattle.vme_outcome_listing.proofs.Looks.{alike_none}
use Rattle.vme_outcome_listing.proofs.seen.begin_alike.Goals as goal

pub returns-in-None : goal.returns-in-None
returns-in-None c =
    sym (alike_none (drop c.loop-byte.byte-index c.args.one.now) c.loop-byte.rest.now c.in-None.ensures.cases) ∙ c.loop-byte.invariant
