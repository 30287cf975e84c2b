use Rattle.std.proofs.Common.{◌≡◌, drop}
use Rattle.vme_shared.specs.Statuses.{worse_of}
use Rattle.vme_report.specs.Reports.{board_status}
use Rattle.vme_report.proofs.status.board_status.Given as goal

-- the worst so far, and that of the lines that are left, is the worst of all
abbrev pub invariant-loop-line : goal.invariant-loop-line
invariant-loop-line l = worse_of l.status (board_status (drop l.line-index l.lines)) ≡ board_status l.fn.lines
