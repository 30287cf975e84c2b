use Rattle.std.proofs.Common.{◌≡◌, List, drop}
use Rattle.vme_vcd_reader.specs.Found.{IsMatching}
use Rattle.vme_vcd_reader.specs.Mapping.{Declaration}
use Rattle.vme_vcd_reader.specs.Matches.{first_fault}
use Rattle.vme_vcd_reader.proofs.matching.Matching.first_fault.Given as goal

-- none before the index
abbrev pub invariant-loop-index : goal.invariant-loop-index
invariant-loop-index l =
    (ds : List Declaration) → IsMatching l.map ds l.self
    → first_fault l.map ds 0 l.map.variables ≡ first_fault l.map ds l.index (drop l.index l.map.variables)
