use Rattle.vme_outcome_listing.proofs.Looks.{looks_of}
use Rattle.vme_outcome_listing.proofs.seen.find_looks.Goals as goal

pub returns : goal.returns
returns g c =
    looks_of c.args.config.now c.args.kept.now c.args.claims.now c.in_ok-lines.lines c.in_ok-found.found.outcomes.items
    c.in_ok-lines.ensures c.in_ok-found.ensures.each
