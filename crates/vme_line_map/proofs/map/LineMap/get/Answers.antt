-- The row at the index has its name among the names, so the second look-up finds it.
use Rattle.std.proofs.Common.{◌≡◌, Some, arith}
use Rattle.std.specs.List.{slice_get}
use Rattle.std.proofs.lemmas.Option.{slice_get-map, gets}
use Rattle.std.proofs.lemmas.Grind.{common_steps}
use Rattle.vme_line_map.specs.Rows.{variable_of}
use Rattle.vme_line_map.proofs.StoredRows.{row_within}
use Rattle.vme_line_map.proofs.map.LineMap.get.Goals as goal

pub returns-in_err-name : goal.returns-in_err-name
returns-in_err-name c =
    let e : slice_get c.self.inside.rows.items c.args.index ≡ Some c.in_ok-row.row.now = grind (arith, common_steps, gets, c.in_ok-row.ensures.lookup) in
    let (low, high) = row_within _ _ _ _ c.self.invariant.within e in
    absurd (grind (arith, common_steps, c.in_err-name.ensures.lookup))

pub returns : goal.returns
returns c =
    let e : slice_get c.self.inside.rows.items c.args.index ≡ Some c.in_ok-row.row.now = grind (arith, common_steps, gets, c.in_ok-row.ensures.lookup) in
    let mapped = slice_get-map (variable_of c.self.inside.names.items) c.self.inside.rows.items c.args.index in
    rw (← c.self.view_is, mapped, e) (grind (arith, common_steps, c.in_ok-name.ensures.lookup))
