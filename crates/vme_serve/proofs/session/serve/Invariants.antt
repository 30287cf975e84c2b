use Rattle.std.proofs.Common.{◌≡◌, false}
use Rattle.vme_serve.proofs.Answering.{HasAnswered}
use Rattle.vme_serve.proofs.session.serve.Given as goal

-- the lines so far were answered, and no device has failed
abbrev pub invariant-loop-line : goal.invariant-loop-line
invariant-loop-line g l = record {
  answered : HasAnswered l.config l.service (g.R.Source.remaining l.fn.reader) (g.R.Source.remaining l.reader)
      (g.W.Sink.contents l.fn.writer) (g.W.Sink.contents l.writer);
  read : g.R.Source.is_marked l.reader ≡ false;
  write : g.W.Sink.is_marked l.writer ≡ false;
}
