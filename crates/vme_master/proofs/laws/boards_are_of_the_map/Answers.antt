use Rattle.vme_cycle.specs.Requests.{addr_of}
use Rattle.vme_decode.specs.Select.{selection_at}
use Rattle.vme_decode.proofs.lemmas.Selection.{place_responds}
use Rattle.vme_master.specs.declared.job.BusJob.{BusJob}
use Rattle.vme_master.proofs.lemmas.Tenures.{data_go_on}
use Rattle.vme_master.proofs.lemmas.Locals.{bus_below, calls_below}
use Rattle.vme_master.proofs.laws.boards_are_of_the_map.Goals as goal

pub returns-clause-falls : goal.returns-clause-falls
returns-clause-falls c = λ map slot level t given board command next.
    let job : BusJob = record { slot = slot; level = level; transfer = t; place = selection_at map t.am (addr_of t.request) } in
    let one = data_go_on job given board command next in
    (one.offset, place_responds map t.am (addr_of t.request) board one.offset one.placed)

pub returns-clause-map : goal.returns-clause-map
returns-clause-map c = bus_below

pub returns-clause-below : goal.returns-clause-below
returns-clause-below c = calls_below
