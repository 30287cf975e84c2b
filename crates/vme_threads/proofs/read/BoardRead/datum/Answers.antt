use Rattle.std.proofs.Common.{◌+◌, ◌*◌, ◌∙◌, ap, arith}
use Rattle.vme_cycle.specs.Requests.{addr_of, count_of}
use Rattle.vme_threads.proofs.ReadRuns.{same_range}
use Rattle.vme_threads.proofs.Data.{datum_read}
use Rattle.vme_threads.proofs.read.BoardRead.datum.Goals as goal

-- an offset has 32 bits, as the address has
pub overflow_add-at : goal.overflow_add-at
overflow_add-at c =
    let read = c.args.self.now in
    let bus = read.bus.now in
    let request = bus.transfer.request in
    let fits =
    same_range read.offset (addr_of request) c.from.result c.from-2.result bus.form.n (count_of request)
    (bus.placed (read.board, read.offset) read.place).0 (omega arith) (omega (arith, c.from.ensures, c.requires.in_count))
    (c.from-2.ensures ∙ read.len) bus.end in
    omega (arith, fits)

-- the cycle of the datum reads its bytes
pub invariant_of-result : goal.invariant_of-result
invariant_of-result c =
    let read = c.args.self.now in
    record {
      command =
          datum_read read c.args.i (read.offset + c.from.result * c.from-2.result) c.requires.in_count
          (ap (λ k. read.offset + k * c.from-2.result) c.from.ensures ∙ ap (λ k. read.offset + c.args.i * k) c.from-2.ensures);
    }
