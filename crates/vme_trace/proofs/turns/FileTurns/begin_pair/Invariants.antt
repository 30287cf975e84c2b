use Rattle.std.proofs.Common.{◌≡◌, ◌-◌, length}
use Rattle.vme_trace.specs.Turns.{turns_left}
use Rattle.vme_trace.proofs.turns.FileTurns.begin_pair.Given as goal

-- the same turns are left
abbrev pub invariant-loop-self : goal.invariant-loop-self
invariant-loop-self l = record {
  same : turns_left l.config l.self ≡ turns_left l.config l.fn.self;
  board : l.self.board ≡ l.fn.self.board;
  pairs : l.schedule ≡ l.config.schedule;
}

abbrev pub decreases-loop-self : goal.decreases-loop-self
decreases-loop-self l = length l.schedule - l.self.pair
