use Rattle.std.proofs.Common.{◌≡◌, length}
use Rattle.vme_outcome_listing.specs.Looks.{LeavesScript}
use Rattle.vme_outcome_listing.proofs.seen.script_seen.Given as goal

-- the lines so far are those that are seen, and unseen ones
abbrev pub invariant-loop-line : goal.invariant-loop-line
invariant-loop-line l = record {
  count : length l.script.items ≡ l.line;
  each : LeavesScript l.config l.kept l.claims l.board l.script.items;
}
