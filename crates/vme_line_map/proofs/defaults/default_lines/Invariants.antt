use Rattle.std.proofs.Common.{◌≡◌, ◌++◌, take}
use Rattle.std.specs.List.{flat_map}
use Rattle.vme_line_map.specs.Defaults.{bus_variables, slot_variables, with_fitting}
use Rattle.vme_line_map.proofs.Fitting.{no_variables}
use Rattle.vme_line_map.proofs.defaults.default_lines.Given as goal

-- the map has the variables of the bus and of the slots so far
abbrev pub invariant-loop-slot : goal.invariant-loop-slot
invariant-loop-slot l = l.map ≡ with_fitting no_variables (bus_variables ++ flat_map slot_variables (take l.slot-index l.slots))
