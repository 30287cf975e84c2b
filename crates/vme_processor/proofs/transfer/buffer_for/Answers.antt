-- The transfer of a request is of this request, which reads as few bytes as a buffer holds inline.
use Rattle.std.proofs.Common.{arith, ◌≡◌, ap}
use Rattle.std.proofs.lemmas.Grind.{common_steps}
use Rattle.vme_cycle.specs.Requests.{read_len}
use Rattle.vme_cycle.proofs.lemmas.Transfers.{comes_from}
use Rattle.vme_processor.proofs.transfer.buffer_for.Goals as goal

pub returns-then-read_len-le-INLINE_LEN-clause-enough : goal.returns-then-read_len-le-INLINE_LEN-clause-enough
returns-then-read_len-le-INLINE_LEN-clause-enough c = λ t lawful.
    let same : read_len t.request ≡ read_len c.args.request.now = ap read_len (comes_from c.args.request.now t lawful).same in
    let short = c.if-read_len-le-INLINE_LEN.true in
    let found = c.read_len.ensures in
    let capacity = ap (λ b. b.capacity) c.new.ensures in
    first_of (omega (arith, same, short, found, capacity), grind (arith, common_steps, same, short, found, capacity))
