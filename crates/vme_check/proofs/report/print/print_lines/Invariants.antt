use Rattle.std.proofs.Common.{◌≡◌, false}
use Rattle.vme_check.proofs.report.print.print_lines.Given as goal

-- no write has failed
abbrev pub invariant-loop-line : goal.invariant-loop-line
invariant-loop-line g l = g.W.Sink.is_marked l.writer ≡ false
