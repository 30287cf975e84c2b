use Rattle.std.proofs.Common.{◌≡◌, ◌≤◌, ◌++◌, length, List, drop}
use Rattle.std.specs.Prelude.{flat_map}
use Rattle.vme_vcd_reader.specs.Found.{AreClear, IsMatching}
use Rattle.vme_vcd_reader.specs.Mapping.{Declaration}
use Rattle.vme_vcd_reader.specs.Matches.{has_a01, lines_at, lines_in}
use Rattle.vme_vcd_reader.specs.Tables.{IsLinked, variables_of}
use Rattle.vme_vcd_reader.proofs.matching.Matching.add_lines.Given as goal

-- the lines before the index are added
abbrev pub invariant-loop-index : goal.invariant-loop-index
invariant-loop-index l = record {
  linked : IsLinked l.fn.table.rows.items l.fn.table.heads.items → IsLinked l.table.rows.items l.table.heads.items;
  few : length l.fn.table.rows.items ≤ 1000 → length l.table.rows.items ≤ 1000;
  added : (ds : List Declaration) → IsMatching l.map ds l.self → AreClear ds l.map.variables
      → variables_of l.table.rows.items ++ flat_map (lines_at ds (has_a01 ds l.map.variables)) (drop l.index l.map.variables)
      ≡ variables_of l.fn.table.rows.items ++ lines_in l.map ds;
}
