use Rattle.std.proofs.Common.{◌≡◌, ◌+◌, ◌-◌, ◌≤◌, vec_len}
use Rattle.std.specs.Io.KnownBytes.{Consumes}
use Rattle.vme_engines.proofs.input.read_input.Given as goal

-- the bytes so far were consumed, no more than the limit, and no read has failed
abbrev pub invariant-loop-count : goal.invariant-loop-count
invariant-loop-count g l = record {
  consumed : Consumes (g.R.Source.remaining l.fn.reader) (g.R.Source.remaining l.reader) l.input.items;
  within : vec_len l.input ≤ l.limit;
  mark : g.R.Source.is_marked l.reader ≡ g.R.Source.is_marked l.fn.reader;
}

abbrev pub decreases-loop-count : goal.decreases-loop-count
decreases-loop-count g l = l.limit + 1 - vec_len l.input
