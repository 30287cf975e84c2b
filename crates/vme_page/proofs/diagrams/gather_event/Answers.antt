use Rattle.vme_page.proofs.diagrams.gather_event.Goals as goal

pub returns-clause-grows : goal.returns-clause-grows
returns-clause-grows g c =
    let gathers = c.in_ok-flush_if_full.ensures.gathers in
    record { text = gathers.prefix; appends = gathers.appends }
