-- All data of a transfer have the same level of LWORD*.
use Rattle.vme_cycle.proofs.Blocks.{same_lword}
use Rattle.vme_cycle.proofs.plan.Plan.shown.Goals as goal

pub shown_location-requires-clause-lword : goal.shown_location-requires-clause-lword
shown_location-requires-clause-lword c =
    let t = c.args.self.now in
    same_lword t.am t.request c.args.i c.location.result c.args.own c.requires.lawful c.requires.in_count
    c.location.ensures.found c.requires.found
