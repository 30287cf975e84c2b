use Rattle.std.proofs.Common.{◌≡◌, drop}
use Rattle.vme_shared.specs.Statuses.{worse_of}
use Rattle.vme_report.specs.Reports.{report_status}
use Rattle.vme_report.proofs.status.status_of.Given as goal

-- the worst so far, and that of the boards that are left, is the worst of all
abbrev pub invariant-loop-board : goal.invariant-loop-board
invariant-loop-board l = worse_of l.status (report_status (drop l.board-index l.boards)) ≡ report_status l.fn.boards
