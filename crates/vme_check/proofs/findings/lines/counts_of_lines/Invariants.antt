use Rattle.std.proofs.Common.{◌≡◌, ◌+◌}
use Rattle.std.specs.Str.Lines.{lines}
use Rattle.vme_check.specs.Requests.{errors_in, warnings_in}
use Rattle.vme_check.proofs.findings.lines.counts_of_lines.Given as goal

-- the counts so far, with those of the lines that are left, are those of all lines
abbrev pub invariant-loop-line : goal.invariant-loop-line
invariant-loop-line l =
    (l.counts.errors + errors_in (lines l.line-iterator.rest.now) ≡ errors_in (lines l.fn.text))
    × (l.counts.warnings + warnings_in (lines l.line-iterator.rest.now) ≡ warnings_in (lines l.fn.text))
