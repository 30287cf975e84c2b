-- What a lock, an unlock, a put or a take does next, by its table and all that it was given.
use Rattle.std.specs.Prelude.{ℕ, List, [], ◌∷◌, Option, None, Result, Ok, Err}
use Rattle.vme_cycle.specs.declared.fault.CycleFault.{CycleFault}
use Rattle.vme_cycle.specs.Lawful.{Transfer, transfer_of}
use Rattle.vme_decode.specs.declared.entry.Entry.{Entry}
use Rattle.vme_arbiter.specs.declared.command.ArbReply.{ArbReply}
use Rattle.vme_core.specs.declared.event.EventReply.{EventReply}
use Rattle.vme_core.specs.NextSteps.{NextStep, Returns, next_map}
use Rattle.vme_master.specs.declared.outcome.Outcome.{Outcome}
use Rattle.vme_master.specs.declared.job.Job.{Job}
use Rattle.vme_master.specs.Jobs.{bus_job}
use Rattle.vme_master.specs.Tables.{Inputs, next_of}
use Rattle.vme_master.specs.Laws.{last_arb_reply}
use Rattle.vme_shared.specs.declared.outcome.SharedOutcome.{SharedOutcome}
use Rattle.vme_shared.specs.declared.outcome.SharedOutcome.TheVariants as shared
use Rattle.vme_shared.specs.declared.request.SharedRequest.{SharedRequest}
use Rattle.vme_shared.specs.declared.stage.Stage.{Stage}
use Rattle.vme_shared.specs.declared.stage.StageResult.{StageResult}
use Rattle.vme_shared.specs.declared.stage.StageResult.TheVariants.{Continue, Finish}
use Rattle.vme_shared.specs.Mailboxes.{stage_request}
use Rattle.vme_shared.specs.Steps.{first_stage, step_after}

-- a slot's request to a lock or a mailbox, on a level, over the boards of a map
pub record SharedJob : Type 0 where
  pub map : List Entry
  pub slot : ℕ
  pub level : ℕ
  pub request : SharedRequest

-- the bus job of a transfer, or the refusal of the transfer
abbrev pub checked_job : SharedJob → Result Transfer CycleFault → Result Job CycleFault
checked_job s (Ok t) = Ok (bus_job s.map s.slot s.level t)
checked_job s (Err fault) = Err fault

-- the bus job of a stage's transfer, or the refusal of the transfer
abbrev pub stage_job : SharedJob → Stage → Result Job CycleFault
stage_job s stage = checked_job s (transfer_of (stage_request s.request stage))

-- how far the task has come: the current stage, with its bus job and what that was given, the newest first; or the end
pub data Progress : Type 0 where
  At : Stage → Job → Inputs → Progress
  Over : SharedOutcome → Progress

-- a stage whose bus job was given these replies; a refused transfer, which no accepted request has, ends the task
abbrev pub stage_begun : Stage → Inputs → Result Job CycleFault → Progress
stage_begun stage given (Ok job) = At stage job given
stage_begun stage given (Err fault) = Over shared.Berr

-- what follows a transfer: the next one, with its first call made, or the end
abbrev pub step_begun : SharedJob → StageResult → Progress
step_begun s (Continue stage) = stage_begun stage (None ∷ []) (stage_job s stage)
step_begun s (Finish end) = Over end

-- the current stage by what its bus job does next, or what follows the outcome of that job
abbrev pub progress_by : SharedJob → Stage → Job → Inputs → NextStep Outcome → Progress
progress_by s stage job given (Returns outcome) = step_begun s (step_after s.request stage outcome)
progress_by s stage job given next = At stage job given

-- how far the task has come after one more reply, or an absent one
abbrev pub progress_given : SharedJob → Option EventReply → Progress → Progress
progress_given s last (At stage job given) = progress_by s stage job (last ∷ given) (next_of job (last ∷ given))
progress_given s last (Over end) = Over end

-- how far the task has come by all that it was given, the newest first: the reply to each call, or none
abbrev pub progress_of : SharedJob → Inputs → Progress
progress_of s [] = stage_begun (first_stage s.request) [] (stage_job s (first_stage s.request))
progress_of s (last ∷ before) = progress_given s last (progress_of s before)

-- what the task does next while its bus job has not ended
abbrev pub task_shown : NextStep Outcome → NextStep SharedOutcome
task_shown next = next_map (λ outcome. shared.Denied) next

-- what the task does next, by how far it has come
abbrev pub next_at : Progress → NextStep SharedOutcome
next_at (At stage job given) = task_shown (next_of job given)
next_at (Over end) = Returns end

-- what the task does next, by all that it was given, the newest first
abbrev pub shared_next : SharedJob → Inputs → NextStep SharedOutcome
shared_next s given = next_at (progress_of s given)

-- the arbiter's last reply to the current bus job, if there was one
abbrev pub arb_reply_at : Progress → Option ArbReply
arb_reply_at (At stage job given) = last_arb_reply given
arb_reply_at (Over end) = None

-- the arbiter's last reply to the current bus job, if there was one, by all that the task was given
abbrev pub shared_arb_reply : SharedJob → Inputs → Option ArbReply
shared_arb_reply s given = arb_reply_at (progress_of s given)
