-- A transfer of a lock or a mailbox reads at most four bytes.
use Rattle.std.proofs.Common.{ap, arith}
use Rattle.vme_cycle.specs.Requests.{read_len}
use Rattle.vme_cycle.proofs.lemmas.Transfers.{comes_from}
use Rattle.vme_shared.proofs.job.Job.task.Goals as goal

pub start_owned-requires : goal.start_owned-requires
start_owned-requires c = λ t lawful. omega (arith, ap read_len (comes_from c.transfer.result t lawful).same, c.transfer.ensures.capacity)
