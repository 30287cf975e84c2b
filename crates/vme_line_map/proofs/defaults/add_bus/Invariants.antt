use Rattle.std.proofs.Common.{◌≡◌, take, map}
use Rattle.vme_line_map.specs.Defaults.{bus_row, with_fitting}
use Rattle.vme_line_map.proofs.defaults.add_bus.Given as goal

-- the map has gained the variables of the rows so far
abbrev pub invariant-loop-name : goal.invariant-loop-name
invariant-loop-name l = l.map ≡ with_fitting l.fn.map (map bus_row (take l.name-index l.rows))
