use Rattle.std.proofs.Common.{◌≡◌, false}
use Rattle.vme_check.proofs.report.print.print_file.Given as goal

-- no write has failed
abbrev pub invariant-loop-one : goal.invariant-loop-one
invariant-loop-one g l = g.W.Sink.is_marked l.writer ≡ false
