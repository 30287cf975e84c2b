use Rattle.std.proofs.Common.{◌≡◌, length, map}
use Rattle.vme_outcome_listing.specs.Looks.{LeavesUnseen}
use Rattle.vme_outcome_listing.proofs.seen.lines_seen.Given as goal

-- the scripts so far leave unseen lines alone
abbrev pub invariant-loop-board : goal.invariant-loop-board
invariant-loop-board l = record {
  count : length l.table.items ≡ l.board;
  each : LeavesUnseen l.config l.kept l.claims (map (λ script. script.items) l.table.items);
}
