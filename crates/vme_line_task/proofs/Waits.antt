-- A read that waits for bytes reads few bytes.
use Rattle.std.proofs.Common.{◌≡◌, ℕ, List, length, Result, Ok, Err, ap, subst, ◌∙◌}
use Rattle.arrayvec.specs.ArrayVec.{ArrayVec}
use Rattle.vme_cycle.specs.declared.fault.CycleFault.{CycleFault}
use Rattle.vme_cycle.specs.declared.request.Request.TheVariants.{Read}
use Rattle.vme_cycle.specs.Requests.{read_len}
use Rattle.vme_cycle.specs.Lawful.{Transfer, transfer_of}
use Rattle.vme_cycle.proofs.lemmas.Transfers.{comes_from}
use Rattle.vme_master.specs.Machine.{TaskView, fresh_task, bus_task}
use Rattle.vme_script.specs.Boards.{entries_of}
use Rattle.vme_script.specs.Configurations.{Configuration}
use Rattle.vme_line_task.specs.declared.attempt.AttemptTask.{AttemptTask}
use Rattle.vme_line_task.specs.declared.wait.AwaitTask.{AwaitTask}
use Rattle.vme_line_task.specs.declared.attempt.AttemptTask.TheVariants as tasks
use Rattle.vme_line_task.specs.Scripts.{Awaiting, slot_at, level_at, transfer_job, request_attempt}
use Rattle.vme_line_task.specs.Machine.{fresh_of}

-- a lawful read reads as many bytes as it states
pub reads_so_many : (am addr n : ℕ) (t : Transfer) → transfer_of (Read am addr n) ≡ Ok t → read_len t.request ≡ n
reads_so_many am addr n t is = ap read_len (comes_from (Read am addr n) t is).same

-- the attempt of a read that waits for bytes, by its task and these bytes
pub waits_so : (config : Configuration) (board am addr : ℕ) (bytes want : List ℕ) (task : TaskView) (wait : AwaitTask)
    → Ok task ≡ bus_task (entries_of config.boards) (slot_at config board) (level_at config board) (transfer_of (Read am addr (length bytes)))
    → bytes ≡ want → wait.task ≡ task → wait.want ≡ record { items = want }
    → Ok (tasks.Await wait) ≡ fresh_of (request_attempt (λ t. Awaiting (transfer_job config board t) want) (transfer_of (Read am addr (length want))))
waits_so config board am addr bytes want task wait is same its_task its_want =
    by_transfer (transfer_of (Read am addr (length want)))
    (subst (λ (bs : List ℕ). Ok task ≡ bus_task (entries_of config.boards) (slot_at config board) (level_at config board) (transfer_of (Read am addr (length bs)))) same is)
  where
    by_transfer : (transfer : Result Transfer CycleFault)
        → Ok task ≡ bus_task (entries_of config.boards) (slot_at config board) (level_at config board) transfer
        → Ok (tasks.Await wait) ≡ fresh_of (request_attempt (λ t. Awaiting (transfer_job config board t) want) transfer)
    by_transfer (Ok t) is =
        let fresh : task ≡ fresh_task (transfer_job config board t) = cc in
        ap (λ (u : TaskView). let w : AwaitTask = record { task = u; want = wait.want } in let r : Result AttemptTask CycleFault = Ok (tasks.Await w) in r) (its_task ∙ fresh)
        ∙ ap (λ (b : ArrayVec ℕ). let w : AwaitTask = record { task = fresh_task (transfer_job config board t); want = b } in let r : Result AttemptTask CycleFault = Ok (tasks.Await w) in r) its_want
    by_transfer (Err fault) is = absurd cc
