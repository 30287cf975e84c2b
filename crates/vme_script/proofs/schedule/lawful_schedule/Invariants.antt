use Rattle.std.proofs.Common.{◌≡◌, ◌+◌, ◌++◌, drop}
use Rattle.vme_script.specs.Schedules.{has_boards, turns_of}
use Rattle.vme_script.proofs.schedule.lawful_schedule.Given as goal

-- the pairs so far are in the schedule, their slots have boards, and their turns are subtracted from `left`
abbrev pub invariant-loop-slot : goal.invariant-loop-slot
invariant-loop-slot l = record {
  pairs : l.schedule.items ++ drop l.slot-index l.pairs ≡ l.fn.pairs;
  boards : has_boards l.boards (drop l.slot-index l.pairs) ≡ has_boards l.boards l.fn.pairs;
  turns : l.left + turns_of l.fn.pairs ≡ 1000000 + turns_of (drop l.slot-index l.pairs);
}
