use Rattle.std.proofs.Common.{◌≡◌, Some, sym, ap, ◌∙◌, arith}
use Rattle.std.specs.Prelude.{slice_get}
use Rattle.std.specs.Option.{option_map}
use Rattle.vme_line_map.specs.Variables.{shown}
use Rattle.vme_vcd_reader.specs.Mapping.{declaration_of}
use Rattle.vme_vcd_reader.proofs.Matchings.{taken_more, get_within, get_from, some_within}
use Rattle.vme_vcd_reader.proofs.matching.Matching.take.Goals as goal

pub loop-index-init : goal.loop-index-init
loop-index-init c = λ ds matching. record {
  all = matching.all;
  before = λ i w f within is has. absurd (omega arith);
  from = λ i w f past is has. matching.each i w f is has;
}

pub loop-index-preserved : goal.loop-index-preserved
loop-index-preserved c = λ ds matching.
    let at : slice_get c.args.map.now.variables c.loop-index.index ≡ Some (shown c.in-Some.wanted) =
    sym c.get.ensures ∙ ap (option_map shown) c.in-Some.is in
    let there : slice_get c.loop-index.self.found.items c.loop-index.index ≡ Some c.index_mut.result.now =
    get_from c.loop-index.self.found.items c.loop-index.index c.index_mut.result.now (omega (arith, c.if-len-index.false, c.len.ensures, c.loop-index.self.found.ok.0)) ∙ ap Some (sym c.index_mut.ensures.value) in
    taken_more c.args.map.now.variables ds (declaration_of c.args.declared.now) c.loop-index.index c.loop-index.self.found.items
    (shown c.in-Some.wanted) c.index_mut.result.now c.take.new.self (c.loop-index.invariant ds matching) at there
    (c.in_ok-take.ensures ds)

pub returns-after-loop-index : goal.returns-after-loop-index
returns-after-loop-index c = λ ds matching.
    let taken = c.loop-index.invariant ds matching in
    record {
      all = taken.all;
      each = λ i w f is has. taken.before i w f (omega (arith, some_within c.args.map.now.variables i w is, c.len-index-end.ensures.len, c.loop-index-test.false)) is has;
    }

pub returns-in_default : goal.returns-in_default
returns-in_default c = λ ds matching. absurd (get_within c.args.map.now.variables c.loop-index.index (omega (arith, c.len-index-end.ensures.len, c.loop-index-test.true))
    (sym c.get.ensures ∙ ap (option_map shown) c.in_default.is))
