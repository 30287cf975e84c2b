use Rattle.std.proofs.Common.{◌≡◌, ◌≤◌, ◌+◌, drop}
use Rattle.vme_script.specs.Schedules.{turns_of}
use Rattle.vme_outcome_listing.proofs.print.is_long.Given as goal

-- the turns so far are few, and with those that are left they are all
abbrev pub invariant-loop-pair : goal.invariant-loop-pair
invariant-loop-pair l = record {
  few : l.turns ≤ 1000000;
  all : l.turns + turns_of (drop l.pair-index l.schedule) ≡ turns_of l.schedule;
}
