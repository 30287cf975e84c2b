use Rattle.std.proofs.Common.{List}
use Rattle.vme_vcd_reader.specs.Found.{IsMatching}
use Rattle.vme_vcd_reader.specs.Mapping.{Declaration, declaration_of}
use Rattle.vme_vcd_reader.proofs.Matchings.{AreTaken}
use Rattle.vme_vcd_reader.proofs.matching.Matching.take.Given as goal

-- the wanted variables before the index have taken the variable
abbrev pub invariant-loop-index : goal.invariant-loop-index
invariant-loop-index l =
    (ds : List Declaration) → IsMatching l.map ds l.fn.self → AreTaken l.map.variables ds (declaration_of l.declared) l.index l.self.found.items
