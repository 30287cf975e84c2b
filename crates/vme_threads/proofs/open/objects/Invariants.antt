use Rattle.std.proofs.Common.{◌≡◌, ◌+◌, ◌≤◌, vec_len, vec_capacity}
use Rattle.vme_threads.proofs.Openings.{first_objects}
use Rattle.vme_threads.proofs.open.objects.Given as goal

-- the objects are the boards so far, and there is capacity for all boards and the arbiter
abbrev pub invariant-loop-board : goal.invariant-loop-board
invariant-loop-board l = record {
  count : vec_len l.objects ≡ l.board;
  capacity : l.count + 1 ≤ vec_capacity l.objects;
  boards : l.objects.items ≡ first_objects l.config l.board;
}
