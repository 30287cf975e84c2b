-- What a task does next: a table over the replies so far.
use Rattle.std.specs.Prelude.{ℕ, ◌+◌, nat_lt, if◌then◌else◌, List, [], ◌∷◌, ◌++◌, Option, Some, None}
use Rattle.vme_cycle.specs.Requests.{count_of}
use Rattle.vme_memory.specs.declared.reply.Reply.TheVariants.{Bytes, Done, Berr}
use Rattle.vme_memory.specs.Locals.{command_given}
use Rattle.vme_arbiter.specs.declared.command.ArbReply.TheVariants as arb_replies
use Rattle.vme_core.specs.declared.event.EventReply.{EventReply}
use Rattle.vme_core.specs.declared.event.EventReply.TheVariants as replies
use Rattle.vme_core.specs.Calls.{Call}
use Rattle.vme_core.specs.NextSteps.{NextStep, NotStarted, Invokes, Returns}
use Rattle.vme_master.specs.declared.job.BusJob.{BusJob}
use Rattle.vme_master.specs.declared.job.LocalJob.{LocalJob}
use Rattle.vme_master.specs.declared.job.Job.{Job}
use Rattle.vme_master.specs.declared.job.Job.TheVariants.{Bus, Local}
use Rattle.vme_master.specs.declared.outcome.Outcome.{Outcome}
use Rattle.vme_master.specs.declared.outcome.Outcome.TheVariants as outcomes
use Rattle.vme_master.specs.Jobs.{ask_call, look_call, done_call, datum_call, local_call, fits_call, request_expected, command_expected, expected_outcome, error_outcome}

-- what a task was given so far, the newest first: the reply to each call, or none
abbrev pub Inputs : Type 0
Inputs = List (Option EventReply)

-- the number of data that were answered
abbrev pub data_in : Inputs → ℕ
data_in [] = 0
data_in (Some (replies.Board (Bytes datum)) ∷ before) = data_in before + 1
data_in (Some (replies.Board Done) ∷ before) = data_in before + 1
data_in (given ∷ before) = data_in before

-- the bytes that boards replied, in order
abbrev pub bytes_in : Inputs → List ℕ
bytes_in [] = []
bytes_in (Some (replies.Board (Bytes datum)) ∷ before) = bytes_in before ++ datum.items
bytes_in (given ∷ before) = bytes_in before

-- the call of datum i; past the last datum the slot releases the bus
abbrev pub datum_or_done : BusJob → ℕ → Call
datum_or_done job i = if nat_lt i (count_of job.transfer.request) then datum_call job job.place i else done_call job

-- the outcome at the release of the bus, by what was given before: a bus error if no board is selected or a board
-- replied one, else that of the request; IEEE 1014-1987, 2.3.3 (bus timer)
abbrev pub outcome_by : BusJob → Option (ℕ × ℕ) → Inputs → Outcome
outcome_by job None before = error_outcome 0 []
outcome_by job (Some place) (Some (replies.Board Berr) ∷ before) = error_outcome (data_in before) (bytes_in before)
outcome_by job (Some place) before = expected_outcome (request_expected job.transfer.request) (bytes_in before)

-- the table of a transfer: what follows a reply that fits, by that reply and what was given before
abbrev pub bus_row : BusJob → EventReply → Inputs → NextStep Outcome
bus_row job (replies.Bus arb_replies.Waiting) before = Invokes (look_call job)
bus_row job (replies.Bus arb_replies.Granted) before = Invokes (datum_or_done job 0)
bus_row job (replies.Board (Bytes datum)) before = Invokes (datum_or_done job (data_in before + 1))
bus_row job (replies.Board Done) before = Invokes (datum_or_done job (data_in before + 1))
bus_row job (replies.Board Berr) before = Invokes (done_call job)
bus_row job (replies.Bus arb_replies.Freed) before = Returns (outcome_by job job.place before)
bus_row job (replies.Bus arb_replies.Denied) before = Returns outcomes.Denied

-- the table of a local command: what follows its reply, which fits
abbrev pub local_row : LocalJob → EventReply → NextStep Outcome
local_row job (replies.Board (Bytes datum)) = Returns (expected_outcome (command_expected (command_given job.cmd)) datum.items)
local_row job (replies.Board Done) = Returns (expected_outcome (command_expected (command_given job.cmd)) [])
local_row job (replies.Board Berr) = Returns (error_outcome 0 [])
local_row job (replies.Bus reply) = Returns outcomes.Denied

-- the table of a job
abbrev pub row_of_reply : Job → EventReply → Inputs → NextStep Outcome
row_of_reply (Bus job) last before = bus_row job last before
row_of_reply (Local job) last before = local_row job last

-- the first call of a job: a transfer requests the bus
abbrev pub first_call : Job → Call
first_call (Bus job) = ask_call job
first_call (Local job) = local_call job

-- what follows: a task starts with no reply; a reply that fits goes by the table; an outcome is final; all else is
-- denied
abbrev pub next_after : Job → NextStep Outcome → Option EventReply → Inputs → NextStep Outcome
next_after job NotStarted None before = Invokes (first_call job)
next_after job NotStarted (Some reply) before = Returns outcomes.Denied
next_after job (Invokes call) None before = Returns outcomes.Denied
next_after job (Invokes call) (Some reply) before =
    if fits_call call reply then row_of_reply job reply before else Returns outcomes.Denied
next_after job (Returns outcome) given before = Returns outcome

-- what a task does next, by all that it was given, the newest first
abbrev pub next_of : Job → Inputs → NextStep Outcome
next_of job [] = NotStarted
next_of job (last ∷ before) = next_after job (next_of job before) last before
