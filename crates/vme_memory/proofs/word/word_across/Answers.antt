-- The upper half of both words, shifted, has the bytes at a place.
use Rattle.vme_memory.proofs.Shifts.{upper_bytes}
use Rattle.std.proofs.Common.{arith}
use Rattle.vme_memory.proofs.word.word_across.Goals as goal

pub returns : goal.returns
returns c =
    rw (c.from.ensures, c.from-2.ensures)
    (upper_bytes c.args.here c.args.next c.args.place (omega arith) (omega arith) (omega arith))
