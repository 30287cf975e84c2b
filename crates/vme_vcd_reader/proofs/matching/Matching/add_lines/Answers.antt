use Rattle.std.proofs.Common.{◌≡◌, ◌++◌, drop, ◌+◌, Some, sym, ap, ◌∙◌, arith}
use Rattle.std.specs.Prelude.{slice_get, flat_map}
use Rattle.std.specs.Option.{option_map}
use Rattle.vme_line_map.specs.Variables.{shown}
use Rattle.vme_vcd_reader.specs.Matches.{has_a01, lines_at}
use Rattle.vme_vcd_reader.specs.Tables.{variables_of}
use Rattle.vme_vcd_reader.proofs.Matchings.{get_at, get_within}
use Rattle.vme_vcd_reader.proofs.AddingLines.{added_lines, full_lines, lines_next}
use Rattle.vme_vcd_reader.proofs.matching.Matching.add_lines.Goals as goal

pub returns-in-Err-clause-fault : goal.returns-in-Err-clause-fault
returns-in-Err-clause-fault c = λ ds matching clear linked.
    let at : slice_get c.args.map.now.variables c.loop-index.index ≡ Some (shown c.in-Some.wanted) =
    sym c.get.ensures ∙ ap (option_map shown) c.in-Some.is in
    let there : slice_get c.args.self.now.found.items c.loop-index.index ≡ Some c.in-Some-get.found.now =
    get_at _ _ c.loop-index.index c.in-Some-get.found.now c.as_slice.ensures.value c.in-Some-get.ensures.lookup.3.0 c.in-Some-get.ensures.lookup.1 in
    let found = matching.each c.loop-index.index (shown c.in-Some.wanted) c.in-Some-get.found.now at there in
    let is = added_lines ds c.has_a01-a01.result (has_a01 ds c.args.map.now.variables) (shown c.in-Some.wanted) c.in-Some-get.found.now _ found
    (clear c.loop-index.index (shown c.in-Some.wanted) at) (c.has_a01-a01.ensures ds matching) c.as_slice-in-loop-index.ensures.value in
    full_lines (lines_at ds (has_a01 ds c.args.map.now.variables)) c.args.map.now.variables c.loop-index.index (shown c.in-Some.wanted)
    (variables_of c.loop-index.table.rows.items) _ _ c.in-Err.fault at (c.loop-index.invariant.added ds matching clear) is
    (c.in-Err.ensures.fault (c.loop-index.invariant.linked linked))

pub loop-index-preserved : goal.loop-index-preserved
loop-index-preserved c = record {
  linked = λ linked. c.in_default-add_parts.ensures.linked (c.loop-index.invariant.linked linked);
  few = λ few. c.in_default-add_parts.ensures.few (c.loop-index.invariant.few few);
  added = λ ds matching clear.
      let at : slice_get c.args.map.now.variables c.loop-index.index ≡ Some (shown c.in-Some.wanted) =
      sym c.get.ensures ∙ ap (option_map shown) c.in-Some.is in
      let there : slice_get c.args.self.now.found.items c.loop-index.index ≡ Some c.in-Some-get.found.now =
      get_at _ _ c.loop-index.index c.in-Some-get.found.now c.as_slice.ensures.value c.in-Some-get.ensures.lookup.3.0 c.in-Some-get.ensures.lookup.1 in
      let found = matching.each c.loop-index.index (shown c.in-Some.wanted) c.in-Some-get.found.now at there in
      let is = added_lines ds c.has_a01-a01.result (has_a01 ds c.args.map.now.variables) (shown c.in-Some.wanted) c.in-Some-get.found.now _ found
      (clear c.loop-index.index (shown c.in-Some.wanted) at) (c.has_a01-a01.ensures ds matching) c.as_slice-in-loop-index.ensures.value in
      ap (λ lines. lines ++ flat_map (lines_at ds (has_a01 ds c.args.map.now.variables)) (drop (c.loop-index.index + 1) c.args.map.now.variables))
      (c.in_default-add_parts.ensures.added ∙ ap (λ more. variables_of c.loop-index.table.rows.items ++ more) is)
      ∙ lines_next (lines_at ds (has_a01 ds c.args.map.now.variables)) c.args.map.now.variables c.loop-index.index (shown c.in-Some.wanted)
      (variables_of c.loop-index.table.rows.items) _ at (c.loop-index.invariant.added ds matching clear);
}

pub returns-in_default-clause-added : goal.returns-in_default-clause-added
returns-in_default-clause-added c = λ ds matching clear.
    absurd (get_within c.args.map.now.variables c.loop-index.index (omega (arith, c.len-index-end.ensures.len, c.loop-index-test.true))
    (sym c.get.ensures ∙ ap (option_map shown) c.in_default.is))
