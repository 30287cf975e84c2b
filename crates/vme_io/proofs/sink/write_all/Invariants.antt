use Rattle.std.proofs.Common.{◌≡◌, ℕ, List, ◌++◌, length}
use Rattle.std.specs.Io.KnownBytes.{Appends}
use Rattle.vme_io.proofs.sink.write_all.Given as goal

-- a prefix of the bytes was appended, and the rest of them remains
abbrev pub invariant-loop-rest : goal.invariant-loop-rest
invariant-loop-rest g l =
    ((prefix : List ℕ) × (l.fn.bytes ≡ prefix ++ l.rest) × Appends (g.W.Sink.contents l.fn.writer) (g.W.Sink.contents l.writer) prefix)
    × (g.W.Sink.is_marked l.writer ≡ g.W.Sink.is_marked l.fn.writer)

abbrev pub decreases-loop-rest : goal.decreases-loop-rest
decreases-loop-rest g l = length l.rest
