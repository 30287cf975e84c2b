use Rattle.std.proofs.Common.{◌≡◌, ◌<◌, ◌≤◌, length}
use Rattle.vme_line_map.specs.Variables.{with_variables, most_wanted}
use Rattle.vme_line_map.specs.Patterns.{line_variable}
use Rattle.vme_line_map.proofs.LineSteps.{variables_before}
use Rattle.vme_line_map.proofs.pattern.add_lines.Given as goal

-- the map has gained the variables of the lines so far, and is not too long
abbrev pub invariant-loop-line : goal.invariant-loop-line
invariant-loop-line l = record {
  value : l.map ≡ with_variables l.fn.map (variables_before (line_variable l.named l.name.0.now l.name.1.now) l.low l.line);
  fits : l.low < l.line → length l.map.variables ≤ most_wanted;
}
