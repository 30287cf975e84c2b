use Rattle.std.proofs.Common.{◌≡◌, ◌&&◌, Some, sym, ap, ◌∙◌, arith}
use Rattle.std.specs.Prelude.{slice_get}
use Rattle.std.specs.Option.{option_map}
use Rattle.vme_line_map.specs.Variables.{shown}
use Rattle.vme_vcd_reader.specs.Matches.{is_a01, is_there}
use Rattle.vme_vcd_reader.proofs.Matchings.{any_here, any_next, any_past, get_within}
use Rattle.vme_vcd_reader.proofs.matching.Matching.has_a01.Goals as goal

pub returns-then-has : goal.returns-then-has
returns-then-has c = λ ds matching.
    let at : slice_get c.args.map.now.variables c.loop-index.index ≡ Some (shown c.in-Some.wanted) =
    sym c.get.ensures ∙ ap (option_map shown) c.in-Some.is in
    let is = c.has.ensures c.args.map.now ds (shown c.in-Some.wanted) matching at in
    any_here (λ w. is_a01 w && is_there ds w) c.args.map.now.variables c.loop-index.index (shown c.in-Some.wanted) at (c.loop-index.invariant ds matching)
    (ap (λ t. t && is_there ds (shown c.in-Some.wanted)) (sym c.is_a01.ensures) ∙ sym is ∙ c.if-has.true)

pub loop-index-preserved : goal.loop-index-preserved
loop-index-preserved c = λ ds matching.
    let at : slice_get c.args.map.now.variables c.loop-index.index ≡ Some (shown c.in-Some.wanted) =
    sym c.get.ensures ∙ ap (option_map shown) c.in-Some.is in
    let is = c.has.ensures c.args.map.now ds (shown c.in-Some.wanted) matching at in
    any_next (λ w. is_a01 w && is_there ds w) c.args.map.now.variables c.loop-index.index (shown c.in-Some.wanted) at (c.loop-index.invariant ds matching)
    (ap (λ t. t && is_there ds (shown c.in-Some.wanted)) (sym c.is_a01.ensures) ∙ sym is ∙ c.if-has.false)

pub returns-after-loop-index : goal.returns-after-loop-index
returns-after-loop-index c = λ ds matching.
    any_past (λ w. is_a01 w && is_there ds w) c.args.map.now.variables c.loop-index.index (omega (arith, c.len-index-end.ensures.len, c.loop-index-test.false))
    (c.loop-index.invariant ds matching)

pub returns-in_default : goal.returns-in_default
returns-in_default c = λ ds matching.
    absurd (get_within c.args.map.now.variables c.loop-index.index (omega (arith, c.len-index-end.ensures.len, c.loop-index-test.true))
    (sym c.get.ensures ∙ ap (option_map shown) c.in_default.is))
