use Rattle.std.proofs.Common.{◌≡◌, ◌∷◌, [], length, None}
use Rattle.vme_core.specs.Machines.{process_count}
use Rattle.vme_line_task.specs.Machine.{IsLineBelow}
use Rattle.vme_serve.specs.Calls.{CanCountMore, calls_made, next_of_task}
use Rattle.vme_serve.proofs.Calling.{HasMadeCalls}
use Rattle.vme_serve.proofs.calls.make_calls.Given as goal

-- the calls so far were made, and those that are left lead to the same end
abbrev pub invariant-loop-left : goal.invariant-loop-left
invariant-loop-left l = record {
  made : HasMadeCalls l.fn.task l.who l.left l.core l.task (calls_made (next_of_task l.fn.task) l.who l.fn.left l.fn.core (None ∷ []));
  below : IsLineBelow (length l.fn.core.boards) l.task;
  boards : length l.core.boards ≡ length l.fn.core.boards;
  process_count : process_count l.core ≡ process_count l.fn.core;
  steps : CanCountMore l.left l.core;
}

abbrev pub decreases-loop-left : goal.decreases-loop-left
decreases-loop-left l = l.left
