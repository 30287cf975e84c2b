-- The data of a read as commands to its board.
use Rattle.std.proofs.Common.{◌≡◌, ℕ, ◌+◌, ◌*◌, ◌%◌, ◌<◌, Some, ap, sym, ◌∙◌}
use Rattle.vme_cycle.specs.Requests.{addr_of, count_of, datum_len}
use Rattle.vme_memory.specs.Data.{datum_command}
use Rattle.vme_memory.specs.Locals.{command_given}
use Rattle.vme_memory.specs.Steps.{read_command}
use Rattle.vme_memory.proofs.lemmas.Data.{own_command}
use Rattle.vme_core.specs.Calls.{OnBoard}
use Rattle.vme_core.specs.Data.{datum_cycle}
use Rattle.vme_master.specs.Jobs.{datum_call}
use Rattle.vme_threads.specs.declared.read.BoardRead.{BoardRead}
use Rattle.vme_threads.specs.Reads.{job_of}
use Rattle.vme_threads.proofs.ReadRuns.{same_place}

-- the cycle of a datum is its own command
pub datum_given :
    (read : BoardRead) (i at : ℕ) → i < count_of read.bus.now.transfer.request → at ≡ read.offset + i * read.n
    → command_given (datum_cycle read.bus.now.transfer i at) ≡ Some (datum_command read.bus.now.transfer.request i at)
datum_given read i at less is =
    let bus = read.bus.now in
    let request = bus.transfer.request in
    own_command bus.transfer i at bus.lawful less
    (ap (λ k. k % 4) is
    ∙ same_place read.offset (addr_of request) i read.n (datum_len request)
    (bus.placed (read.board, read.offset) read.place).1 (read.len ∙ sym bus.is.len))

-- the cycle of a datum reads its bytes
pub datum_read :
    (read : BoardRead) (i at : ℕ) → i < count_of read.bus.now.transfer.request → at ≡ read.offset + i * read.n
    → command_given (datum_cycle read.bus.now.transfer i at) ≡ Some (read_command read.bus.now.form.block at read.n)
datum_read read i at less is =
    datum_given read i at less is ∙ ap Some (read.bus.now.is.command i at)
    ∙ ap (λ k. Some (read_command read.bus.now.form.block at k)) (sym read.len)

-- the cycle of a datum is the call of the read's job
pub datum_called :
    (read : BoardRead) (i at : ℕ) → i < count_of read.bus.now.transfer.request → at ≡ read.offset + i * read.n
    → OnBoard read.board (command_given (datum_cycle read.bus.now.transfer i at))
    ≡ datum_call (job_of read.bus.now) read.bus.now.place i
datum_called read i at less is =
    let bus = read.bus.now in
    let request = bus.transfer.request in
    ap (OnBoard read.board) (datum_given read i at less is)
    ∙ ap (λ a. OnBoard read.board (Some (datum_command request i a)))
    (is ∙ ap (λ k. read.offset + i * k) (read.len ∙ sym bus.is.len))
    ∙ sym (ap (λ p. datum_call (job_of bus) p i) read.place)
