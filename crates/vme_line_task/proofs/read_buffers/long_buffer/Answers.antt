use Rattle.std.proofs.Common.{arith}
use Rattle.vme_line_task.proofs.lemmas.LineBuffers.{no_more_than}
use Rattle.vme_line_task.proofs.read_buffers.long_buffer.Goals as goal

-- a request that states few bytes reads no more than a buffer holds inline
pub returns-in_default-clause-short : goal.returns-in_default-clause-short
returns-in_default-clause-short c = λ none.
    rw c.in-Bus.is (omega (arith, no_more_than c.in-Bus.request, c.read_len.ensures, c.if-read_len-gt-INLINE_LEN.false))
