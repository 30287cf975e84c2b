use Rattle.std.proofs.Common.{◌+◌, ◌-◌, ◌≤◌, length, take, vec_capacity}
use Rattle.vme_core.specs.Machines.{HasApplied}
use Rattle.vme_core.proofs.machine.Core.run.Given as goal

-- the events so far were performed as a run, their replies were appended, and capacity for all later replies remains
abbrev pub invariant-loop-who : goal.invariant-loop-who
invariant-loop-who l =
    (HasApplied (take l.who-index l.events) l.fn.self l.self l.fn.replies.items l.replies.items)
    × (length l.replies.items + (length l.events - l.who-index) ≤ vec_capacity l.replies)
