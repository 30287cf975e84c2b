use Rattle.std.proofs.Common.{◌≡◌, drop}
use Rattle.vme_vcd_reader.specs.ControlLines.{first_marked}
use Rattle.vme_vcd_reader.proofs.control.first_marked.Given as goal

-- no line before the index has a mark
abbrev pub invariant-loop-line : goal.invariant-loop-line
invariant-loop-line l = first_marked (drop l.line-index l.lines) ≡ first_marked l.lines
