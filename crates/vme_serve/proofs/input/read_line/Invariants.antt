use Rattle.std.proofs.Common.{◌≡◌}
use Rattle.vme_serve.proofs.Reading.{SoFar}
use Rattle.vme_serve.proofs.input.read_line.Given as goal

-- the bytes so far were consumed, none of them ends the line, and no read has failed
abbrev pub invariant-loop-byte : goal.invariant-loop-byte
invariant-loop-byte g l = record {
  so_far : SoFar (g.R.Source.remaining l.fn.reader) (g.R.Source.remaining l.reader) l.line.items;
  mark : g.R.Source.is_marked l.reader ≡ g.R.Source.is_marked l.fn.reader;
}
