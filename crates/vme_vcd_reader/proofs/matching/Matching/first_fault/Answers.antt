use Rattle.std.proofs.Common.{◌≡◌, Some, sym, ap, ◌∙◌, arith}
use Rattle.std.specs.Prelude.{slice_get}
use Rattle.std.specs.Option.{option_map}
use Rattle.vme_line_map.specs.Variables.{shown}
use Rattle.vme_vcd_reader.proofs.Matchings.{get_within, get_at}
use Rattle.vme_vcd_reader.proofs.FaultsAt.{fault_here, fault_next}
use Rattle.vme_vcd_reader.proofs.matching.Matching.first_fault.Goals as goal

pub returns-in-Some-fault_at : goal.returns-in-Some-fault_at
returns-in-Some-fault_at c = λ ds matching.
    let at : slice_get c.args.map.now.variables c.loop-index.index ≡ Some (shown c.in-Some.wanted) =
    sym c.get.ensures ∙ ap (option_map shown) c.in-Some.is in
    let there : slice_get c.args.self.now.found.items c.loop-index.index ≡ Some c.in-Some-get.found.now =
    get_at _ _ c.loop-index.index c.in-Some-get.found.now c.as_slice.ensures.value c.in-Some-get.ensures.lookup.3.0 c.in-Some-get.ensures.lookup.1 in
    let is = c.fault_at.ensures ds matching (matching.each c.loop-index.index (shown c.in-Some.wanted) c.in-Some-get.found.now at there) in
    fault_here c.args.map.now ds c.args.map.now.variables c.loop-index.index (shown c.in-Some.wanted) c.in-Some-fault_at.fault at
    (c.loop-index.invariant ds matching) (sym is ∙ c.in-Some-fault_at.is)

pub loop-index-preserved : goal.loop-index-preserved
loop-index-preserved c = λ ds matching.
    let at : slice_get c.args.map.now.variables c.loop-index.index ≡ Some (shown c.in-Some.wanted) =
    sym c.get.ensures ∙ ap (option_map shown) c.in-Some.is in
    let there : slice_get c.args.self.now.found.items c.loop-index.index ≡ Some c.in-Some-get.found.now =
    get_at _ _ c.loop-index.index c.in-Some-get.found.now c.as_slice.ensures.value c.in-Some-get.ensures.lookup.3.0 c.in-Some-get.ensures.lookup.1 in
    let is = c.fault_at.ensures ds matching (matching.each c.loop-index.index (shown c.in-Some.wanted) c.in-Some-get.found.now at there) in
    fault_next c.args.map.now ds c.args.map.now.variables c.loop-index.index (shown c.in-Some.wanted) at
    (c.loop-index.invariant ds matching) (sym is ∙ c.in_default-fault_at.is)

pub returns-in_default : goal.returns-in_default
returns-in_default c = λ ds matching.
    absurd (get_within c.args.map.now.variables c.loop-index.index (omega (arith, c.len-index-end.ensures.len, c.loop-index-test.true))
    (sym c.get.ensures ∙ ap (option_map shown) c.in_default.is))
