use Rattle.std.proofs.Common.{◌≡◌, ◌+◌, ◌≤◌, length}
use Rattle.vme_line_map.specs.Variables.{Map}
use Rattle.vme_judge.specs.DumpRuns.{HasReached, Reached}
use Rattle.vme_judge.specs.Runs.{IsGoing}
use Rattle.vme_judge.proofs.DumpBytes.{ReadsTo}
use Rattle.vme_judge.proofs.run.Run.push_dump_all.Given as goal

-- the bytes so far are judged, and a step has taken one at least
abbrev pub invariant-loop-step : goal.invariant-loop-step
invariant-loop-step l = record {
  reads : (map : Map) (reached : Reached) → HasReached map reached l.fn.self.vcd → IsGoing l.fn.self
      → ReadsTo map l.fn.self l.self reached l.bytes l.rest;
  going : IsGoing l.fn.self → IsGoing l.self;
  kind : l.self.kind ≡ l.fn.self.kind;
  left : (map : Map) (reached : Reached) → HasReached map reached l.fn.self.vcd → IsGoing l.fn.self
      → length l.rest + l._step ≤ length l.bytes;
}
