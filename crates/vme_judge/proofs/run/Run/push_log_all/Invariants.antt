use Rattle.std.proofs.Common.{◌≡◌, ℕ, List, length}
use Rattle.vme_judge.specs.Blanks.{AreBlanks, IsBlankLine}
use Rattle.vme_judge.specs.Runs.{IsGoing}
use Rattle.vme_judge.proofs.Blanks.{BlanksTo}
use Rattle.vme_judge.proofs.Runs.{Leaves}
use Rattle.vme_judge.proofs.run.Run.push_log_all.Given as goal

-- the bytes before the rest are judged
abbrev pub invariant-loop-line : goal.invariant-loop-line
invariant-loop-line l = record {
  judges : IsGoing l.initial.self → Leaves l.initial.self l.self l.bytes l.rest;
  going : IsGoing l.initial.self → IsGoing l.self;
  kind : l.self.kind ≡ l.initial.self.kind;
  vcd : l.self.vcd ≡ l.initial.self.vcd;
  blanks : (line : List ℕ) → AreBlanks l.bytes → IsBlankLine line l.initial.self.log → BlanksTo line l.initial.self l.self l.bytes l.rest;
}

abbrev pub decreases-loop-line : goal.decreases-loop-line
decreases-loop-line l = length l.rest
