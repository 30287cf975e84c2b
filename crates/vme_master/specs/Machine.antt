-- A task as a machine that keeps its phase in place of the replies so far, for this crate's own functions.
use Rattle.std.specs.Prelude.{ℕ, ◌≡◌, ◌+◌, ◌*◌, ◌%◌, ◌<◌, ◌≤◌, Bool, true, false, ◌==◌, if◌then◌else◌, nat_lt, List, [], ◌∷◌, ◌++◌, length, Option, Some, None, unwrap_or, IfSome, IsSome, Result, Ok, Err}
use Rattle.vme_cycle.specs.declared.fault.CycleFault.{CycleFault}
use Rattle.vme_cycle.specs.Requests.{addr_of, count_of, read_len}
use Rattle.vme_cycle.specs.Lawful.{Transfer}
use Rattle.vme_decode.specs.declared.entry.Entry.{Entry}
use Rattle.vme_memory.specs.declared.reply.Reply.{Reply}
use Rattle.vme_memory.specs.declared.reply.Reply.TheVariants.{Bytes, Done, Berr}
use Rattle.vme_memory.specs.Locals.{command_given}
use Rattle.vme_memory.specs.Data.{has_form}
use Rattle.vme_arbiter.specs.declared.command.ArbReply.{ArbReply}
use Rattle.vme_arbiter.specs.declared.command.ArbReply.TheVariants as arb_replies
use Rattle.vme_core.specs.declared.event.EventReply.{EventReply}
use Rattle.vme_core.specs.declared.event.EventReply.TheVariants as replies
use Rattle.vme_core.specs.NextSteps.{NextStep, NotStarted, Invokes, Returns}
use Rattle.vme_master.specs.declared.job.BusJob.{BusJob}
use Rattle.vme_master.specs.declared.job.LocalJob.{LocalJob}
use Rattle.vme_master.specs.declared.job.Job.{Job}
use Rattle.vme_master.specs.declared.job.Job.TheVariants.{Bus, Local}
use Rattle.vme_master.specs.declared.phase.Phase.{Phase}
use Rattle.vme_master.specs.declared.phase.Phase.TheVariants.{New, Requesting, Polling, Transferring, Releasing, Finished, Denied}
use Rattle.vme_master.specs.declared.expected.ExpectedReply.{ExpectedReply}
use Rattle.vme_master.specs.declared.expected.ExpectedReply.TheVariants as expected_replies
use Rattle.vme_master.specs.declared.outcome.Outcome.{Outcome}
use Rattle.vme_master.specs.declared.outcome.Outcome.TheVariants as outcomes
use Rattle.vme_master.specs.Jobs.{bus_job, ask_call, look_call, done_call, datum_call, local_call, request_expected, command_expected, expected_outcome, error_outcome}
use Rattle.vme_master.specs.Tables.{Inputs}

-- a task: its job, its phase, and the bytes that it has read so far
pub record TaskView : Type 0 where
  pub job : Job
  pub phase : Phase
  pub read : List ℕ

-- a task before its first call
abbrev pub fresh_task : Job → TaskView
fresh_task job = record { job = job; phase = New; read = [] }

-- the task of a lawful request before its first call, or the request's refusal
abbrev pub bus_task : List Entry → ℕ → ℕ → Result Transfer CycleFault → Result TaskView CycleFault
bus_task map slot level (Ok t) = Ok (fresh_task (bus_job map slot level t))
bus_task map slot level (Err fault) = Err fault

-- the reply that a job's calls on a board expect
abbrev pub job_expected : Job → ExpectedReply
job_expected (Bus job) = request_expected job.transfer.request
job_expected (Local job) = command_expected (command_given job.cmd)

-- the number of bytes in an expected reply, if it has any
abbrev pub expected_len : ExpectedReply → Option ℕ
expected_len (expected_replies.Read n) = Some n
expected_len (expected_replies.Modify n) = Some n
expected_len expected_replies.Write = None

-- the outcome with these bytes: after a bus error that came after so many data, or after no bus error
abbrev pub end_outcome : ExpectedReply → Option ℕ → List ℕ → Outcome
end_outcome expected None bytes = expected_outcome expected bytes
end_outcome expected (Some count) bytes = error_outcome count bytes

-- the phase of a transfer at datum i: its transfer, or the release of the bus past the last datum or without a board
abbrev pub datum_phase : BusJob → Option (ℕ × ℕ) → ℕ → Phase
datum_phase job None i = Releasing (Some 0)
datum_phase job (Some place) i = if nat_lt i (count_of job.transfer.request) then Transferring i else Releasing None

-- the phase of a job at its call i on a board; a local command makes one call
abbrev pub phase_at : Job → ℕ → Phase
phase_at (Bus job) i = datum_phase job job.place i
phase_at (Local job) i = if i == 0 then Transferring 0 else Finished None

-- the phase after a bus error that came after so many data
abbrev pub phase_broken : Job → ℕ → Phase
phase_broken (Bus job) count = Releasing (Some count)
phase_broken (Local job) count = Finished (Some count)

-- the phase after the first call
abbrev pub first_phase : Job → Phase
first_phase (Bus job) = Requesting
first_phase (Local job) = phase_at (Local job) 0

-- the phase after the arbiter's reply to a request or a poll
abbrev pub phase_answered : Job → ArbReply → Phase
phase_answered job arb_replies.Granted = phase_at job 0
phase_answered job arb_replies.Waiting = Polling
phase_answered job arb_replies.Freed = Denied
phase_answered job arb_replies.Denied = Denied

-- the phase after a board's reply to call i
abbrev pub phase_replied : Job → ℕ → Reply → Phase
phase_replied job i (Bytes datum) = phase_at job (i + 1)
phase_replied job i Done = phase_at job (i + 1)
phase_replied job i Berr = phase_broken job i

-- the bytes of a board's reply
abbrev pub bytes_of : Reply → List ℕ
bytes_of (Bytes datum) = datum.items
bytes_of Done = []
bytes_of Berr = []

-- a task in another phase
abbrev pub task_at : TaskView → Phase → TaskView
task_at t phase = record t { phase = phase }

-- a task after a board's reply to call i: it is denied if the reply has another form than the expected one
abbrev pub task_replied : TaskView → ℕ → Reply → TaskView
task_replied t i reply =
    if has_form (expected_len (job_expected t.job)) reply
    then record t { phase = phase_replied t.job i reply; read = t.read ++ bytes_of reply }
    else task_at t Denied

-- a task after the next reply, or an absent one, in a phase
abbrev pub task_after : TaskView → Phase → Option EventReply → TaskView
task_after t New None = task_at t (first_phase t.job)
task_after t Requesting (Some (replies.Bus reply)) = task_at t (phase_answered t.job reply)
task_after t Polling (Some (replies.Bus reply)) = task_at t (phase_answered t.job reply)
task_after t (Transferring i) (Some (replies.Board reply)) = task_replied t i reply
task_after t (Releasing berr) (Some (replies.Bus arb_replies.Freed)) = task_at t (Finished berr)
task_after t (Finished berr) given = t
task_after t phase given = task_at t Denied

-- a task after the next reply, or an absent one
abbrev pub advance : TaskView → Option EventReply → TaskView
advance t given = task_after t t.phase given

-- the task of a job after these replies, the newest first
abbrev pub task_given : Job → Inputs → TaskView
task_given job [] = fresh_task job
task_given job (last ∷ before) = advance (task_given job before) last

-- whether a task was called
abbrev pub is_called : Phase → Bool
is_called New = false
is_called phase = true

-- what a transfer does next, by its phase and the bytes that it has read
abbrev pub bus_next : BusJob → Phase → List ℕ → NextStep Outcome
bus_next job New read = NotStarted
bus_next job Requesting read = Invokes (ask_call job)
bus_next job Polling read = Invokes (look_call job)
bus_next job (Transferring i) read = Invokes (datum_call job job.place i)
bus_next job (Releasing berr) read = Invokes (done_call job)
bus_next job (Finished berr) read = Returns (end_outcome (job_expected (Bus job)) berr read)
bus_next job Denied read = Returns outcomes.Denied

-- what a local command does next, by its phase and the bytes that it has read
abbrev pub local_next : LocalJob → Phase → List ℕ → NextStep Outcome
local_next job New read = NotStarted
local_next job (Transferring i) read = Invokes (local_call job)
local_next job (Finished berr) read = Returns (end_outcome (job_expected (Local job)) berr read)
local_next job phase read = Returns outcomes.Denied

-- what a job does next, by its phase and the bytes that it has read
abbrev pub job_next : Job → Phase → List ℕ → NextStep Outcome
job_next (Bus job) phase read = bus_next job phase read
job_next (Local job) phase read = local_next job phase read

-- what a task does next
abbrev pub to_do : TaskView → NextStep Outcome
to_do t = job_next t.job t.phase t.read

-- the offset of a transfer's first byte is at most its address, and has the same remainder modulo four
abbrev pub IsPlaced : Job → Type 0
IsPlaced (Bus job) =
    IfSome job.place (λ place. (place.1 ≤ addr_of job.transfer.request) × (place.1 % 4 ≡ addr_of job.transfer.request % 4))
IsPlaced (Local job) = Unit {0}

-- the number of calls that a job makes on a board
abbrev pub call_count : Job → ℕ
call_count (Bus job) = count_of job.transfer.request
call_count (Local job) = 1

-- the most bytes that one call on a board reads
abbrev pub most_bytes : Job → ℕ
most_bytes (Bus job) = unwrap_or (expected_len (request_expected job.transfer.request)) 0
most_bytes (Local job) = 8

-- the most bytes that a job reads in all
abbrev pub job_read_len : Job → ℕ
job_read_len (Bus job) = read_len job.transfer.request
job_read_len (Local job) = 8

-- a read-modify-write reads at most the eight bytes of a datum
abbrev pub IsShort : ExpectedReply → ℕ → Type 0
IsShort (expected_replies.Modify n) most = most ≤ 8
IsShort expected most = Unit {0}

-- the calls of a job reach a board: one is selected, or the job is a local command
abbrev pub HasBoard : Job → Type 0
HasBoard (Bus job) = IsSome job.place
HasBoard (Local job) = Unit {0}

-- no more bytes were read than the data so far can have, and a call on a board is one of the job's and reaches a board
abbrev pub HasRead : Job → Phase → List ℕ → Type 0
HasRead job (Transferring i) read = (i < call_count job) × (length read ≤ most_bytes job * i) × HasBoard job
HasRead job (Releasing berr) read = length read ≤ job_read_len job
HasRead job (Finished berr) read = length read ≤ job_read_len job
HasRead job Denied read = Unit {0}
HasRead job phase read = length read ≡ 0

-- the invariant of a task whose buffer has this capacity, which is enough for all that the job reads
pub record IsSound (t : TaskView) (capacity : ℕ) : Type 0 where
  pub placed : IsPlaced t.job
  pub read : HasRead t.job t.phase t.read
  pub enough : job_read_len t.job ≤ capacity

-- the invariant of a task, with its buffer's capacity and the facts of its job that it stores
pub record IsKept (t : TaskView) (capacity : ℕ) (expected : ExpectedReply) (count : ℕ) : Type 0 where
  pub sound : IsSound t capacity
  pub of_expected : expected ≡ job_expected t.job
  pub of_count : count ≡ call_count t.job
