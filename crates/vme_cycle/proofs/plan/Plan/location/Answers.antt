-- Each datum of a lawful request has a location.
use Rattle.std.proofs.Common.{rules, ◌≡◌, Some}
use Rattle.vme_cycle.specs.Requests.{datum_len, address_of}
use Rattle.vme_cycle.specs.Lawful.{location_for}
use Rattle.vme_cycle.proofs.Blocks.{datum_found, datum_placed}
use Rattle.vme_cycle.proofs.plan.Plan.location.Goals as goal

pub unwrap-requires : goal.unwrap-requires
unwrap-requires c =
    let found = datum_found c.args.self.now.am c.args.self.now.request c.args.i c.request-request.ensures.lawful c.requires in
    search rules

pub returns-clause-first : goal.returns-clause-first
returns-clause-first c =
    let t = c.args.self.now in
    let found : location_for (address_of t.request c.args.i) (datum_len t.request) ≡ Some c.unwrap.result = search rules in
    (datum_placed t.am t.request c.args.i c.unwrap.result c.request-request.ensures.lawful c.requires found).0

pub returns-clause-len : goal.returns-clause-len
returns-clause-len c =
    let t = c.args.self.now in
    let found : location_for (address_of t.request c.args.i) (datum_len t.request) ≡ Some c.unwrap.result = search rules in
    (datum_placed t.am t.request c.args.i c.unwrap.result c.request-request.ensures.lawful c.requires found).1
