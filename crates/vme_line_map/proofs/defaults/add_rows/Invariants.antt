use Rattle.std.proofs.Common.{◌≡◌, take, map}
use Rattle.vme_line_map.specs.Defaults.{slot_row, with_fitting}
use Rattle.vme_line_map.proofs.defaults.add_rows.Given as goal

-- the map has gained the variables of the rows so far
abbrev pub invariant-loop-name : goal.invariant-loop-name
invariant-loop-name l = l.map ≡ with_fitting l.fn.map (map (slot_row l.slot) (take l.name-index l.rows))
