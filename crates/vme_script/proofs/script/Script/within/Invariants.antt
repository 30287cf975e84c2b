use Rattle.std.proofs.Common.{◌≡◌, ◌+◌, ◌≤◌, length}
use Rattle.std.specs.Str.Lines.{lines}
use Rattle.vme_script.specs.Scripts.{with_line, lines_from}
use Rattle.vme_script.proofs.script.Script.within.Given as goal

-- the entries so far, followed by those of the remaining lines, are the script; at most 1,000 lines have been counted
abbrev pub invariant-loop-line : goal.invariant-loop-line
invariant-loop-line l = record {
  script : with_line l.lines.items (lines_from l.rules (l.number + 1) (lines l.line-iterator.rest.now)) ≡ lines_from l.fn.rules 1 (lines l.fn.text);
  count : l.number + length (lines l.line-iterator.rest.now) ≡ length (lines l.fn.text);
  few : l.number ≤ 1000;
}
