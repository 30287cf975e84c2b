use Rattle.std.proofs.Common.{◌≡◌, ◌≤◌, ◌++◌, length, map, drop}
use Rattle.vme_line_map.specs.Variables.{shown}
use Rattle.vme_vcd_reader.specs.Matches.{line_of}
use Rattle.vme_vcd_reader.specs.Tables.{IsLinked, variables_of}
use Rattle.vme_vcd_reader.proofs.mapping.add_parts.Given as goal

-- the parts before the index are added
abbrev pub invariant-loop-part : goal.invariant-loop-part
invariant-loop-part l = record {
  linked : IsLinked l.fn.table.rows.items l.fn.table.heads.items → IsLinked l.table.rows.items l.table.heads.items;
  few : length l.fn.table.rows.items ≤ 1000 → length l.table.rows.items ≤ 1000;
  added : variables_of l.table.rows.items ++ map (line_of l.a01 (shown l.wanted)) (drop l.part-index l.parts)
      ≡ variables_of l.fn.table.rows.items ++ map (line_of l.a01 (shown l.wanted)) l.parts;
}
