use Rattle.std.proofs.Common.{◌≡◌, ◌==◌, ◌&&◌, List, drop}
use Rattle.std.specs.List.{list_any}
use Rattle.vme_vcd_reader.specs.Found.{IsMatching}
use Rattle.vme_vcd_reader.specs.Mapping.{Declaration}
use Rattle.vme_vcd_reader.specs.Matches.{is_there, needed_number}
use Rattle.vme_vcd_reader.proofs.matching.Matching.has_group.Given as goal

-- none before the index
abbrev pub invariant-loop-index : goal.invariant-loop-index
invariant-loop-index l =
    (ds : List Declaration) → IsMatching l.map ds l.self
    → list_any (λ w. needed_number w.group == needed_number l.group && is_there ds w) l.map.variables
    ≡ list_any (λ w. needed_number w.group == needed_number l.group && is_there ds w) (drop l.index l.map.variables)
