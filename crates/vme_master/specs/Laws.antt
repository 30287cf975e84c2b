-- The arbiter's last reply, the next datum of a request, and the boards of a job, for the laws of a task's calls.
use Rattle.std.specs.Prelude.{ℕ, ◌≡◌, ◌+◌, ◌*◌, ◌<◌, [], ◌∷◌, Option, Some, None}
use Rattle.vme_cycle.specs.Requests.{datum_len, count_of}
use Rattle.vme_memory.specs.Steps.{Command}
use Rattle.vme_memory.specs.Data.{datum_command}
use Rattle.vme_arbiter.specs.declared.command.ArbReply.{ArbReply}
use Rattle.vme_core.specs.declared.event.EventReply.TheVariants as replies
use Rattle.vme_master.specs.declared.job.BusJob.{BusJob}
use Rattle.vme_master.specs.declared.job.Job.{Job}
use Rattle.vme_master.specs.declared.job.Job.TheVariants.{Bus, Local}
use Rattle.vme_master.specs.Tables.{Inputs, data_in}

-- the last reply of the arbiter, if there was one
abbrev pub last_arb_reply : Inputs → Option ArbReply
last_arb_reply [] = None
last_arb_reply (Some (replies.Bus reply) ∷ before) = Some reply
last_arb_reply (given ∷ before) = last_arb_reply before

-- a command to a board is that of the next datum: its index is the number of data that were answered, and its offset is
-- that of the first datum plus the bytes of the data before it
pub record IsNextDatum (job : BusJob) (given : Inputs) (board : ℕ) (command : Option Command) : Type 0 where
  pub offset : ℕ
  pub placed : job.place ≡ Some (board, offset)
  pub more : data_in given < count_of job.transfer.request
  pub own : command
      ≡ Some (datum_command job.transfer.request (data_in given) (offset + data_in given * datum_len job.transfer.request))

-- every board that a job can call is among the first n
abbrev pub IsBelow : ℕ → Job → Type 0
IsBelow n (Bus job) = (board offset : ℕ) → job.place ≡ Some (board, offset) → board < n
IsBelow n (Local job) = job.board < n
