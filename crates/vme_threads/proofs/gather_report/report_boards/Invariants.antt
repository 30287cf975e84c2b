use Rattle.std.proofs.Common.{◌≤◌, vec_len, vec_capacity}
use Rattle.std.specs.Vec.Iter.{into_iter_items}
use Rattle.vme_threads.proofs.Entries.{HaveEntries}
use Rattle.vme_threads.proofs.gather_report.report_boards.Given as goal

-- the boards so far have their entries, and there is capacity for the entries of all boards
abbrev pub invariant-loop-home : goal.invariant-loop-home
invariant-loop-home l = record {
  have :
      HaveEntries l.counts.items l.slots.items l.fn.homes.items
      (into_iter_items l.home-iterator) l.fn.made.items l.made.items l.ends.items;
  capacity : vec_len l.fn.homes ≤ vec_capacity l.ends;
}
