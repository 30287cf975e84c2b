use Rattle.std.proofs.Common.{◌≡◌, false}
use Rattle.vme_judge.specs.Runs.{IsGoing}
use Rattle.vme_judge.proofs.Progress.{Progress}
use Rattle.vme_judge.proofs.engine.judge_engine.Given as goal

-- no device has failed, the run goes on, and the bytes so far are judged, of which what is said is written
abbrev pub invariant-loop-piece : goal.invariant-loop-piece
invariant-loop-piece g l = record {
  read : g.S.Source.is_marked l.trace ≡ false;
  write : g.W.Sink.is_marked l.writer ≡ false;
  going : IsGoing l.run;
  progress : Progress l.options l.map l.boards (g.S.Source.remaining l.fn.trace) (g.S.Source.remaining l.trace)
      (g.W.Sink.contents l.fn.writer) (g.W.Sink.contents l.writer) l.run;
}
