-- The buffer has capacity for four bytes.
use Rattle.std.proofs.Common.{◌≡◌, ap, arith}
use Rattle.vme_cycle.specs.BlockBuffers.{BufferView}
use Rattle.vme_cycle.specs.Requests.{read_len}
use Rattle.vme_cycle.proofs.lemmas.Transfers.{comes_from}
use Rattle.vme_board_tests.proofs.transfers.a_refused_request_has_no_task.Goals as goal

pub start-task-requires-clause-enough : goal.start-task-requires-clause-enough
start-task-requires-clause-enough g c = λ t lawful.
    let buffer : c.new-2.result.capacity ≡ 40 = ap (λ (r : BufferView). r.capacity) c.new-2.ensures in
    let four : read_len t.request ≡ 4 = ap read_len (comes_from _ t lawful).same in
    omega (arith, buffer, four)
