-- Reads over the bus, from the request of the bus to its release.
use Rattle.std.specs.Prelude.{ℕ, ◌≡◌, ◌≤◌, ◌+◌, Bool, true, false, List, [], ◌∷◌, length, Option, Some, None}
use Rattle.vme_memory.specs.declared.reply.Reply.{Reply}
use Rattle.vme_core.specs.declared.event.EventReply.{EventReply}
use Rattle.vme_core.specs.declared.event.EventReply.TheVariants as replies
use Rattle.vme_core.specs.Calls.{call_of}
use Rattle.vme_core.specs.NextSteps.{call_in}
use Rattle.vme_core.specs.Runs.{Transition}
use Rattle.vme_master.specs.Jobs.{datum_call, request_expected, error_outcome}
use Rattle.vme_master.specs.declared.expected.ExpectedReply.TheVariants as expected_replies
use Rattle.vme_master.specs.declared.outcome.Outcome.{Outcome}
use Rattle.vme_master.specs.declared.outcome.Outcome.TheVariants as outcomes
use Rattle.vme_master.specs.declared.job.BusJob.{BusJob}
use Rattle.vme_master.specs.declared.job.Job.TheVariants.{Bus}
use Rattle.vme_master.specs.declared.phase.Phase.{Phase}
use Rattle.vme_master.specs.declared.phase.Phase.TheVariants.{Requesting, Transferring, Releasing, Finished, Denied}
use Rattle.vme_master.specs.Machine.{TaskView, advance, to_do, phase_at, task_replied}
use Rattle.vme_grammar.specs.declared.line.Line.{Line}
use Rattle.vme_script.specs.Configurations.{Configuration}
use Rattle.vme_line_task.specs.declared.task.LineTask.TheVariants.{Running}
use Rattle.vme_line_task.specs.Attempts.{read_attempts}
use Rattle.vme_line_task.specs.Machine.{line_after}
use Rattle.vme_line_task.specs.Traces.{Continues}
use Rattle.vme_threads.specs.declared.read.ReadEnd.{ReadEnd}
use Rattle.vme_threads.specs.declared.read.ReadEnd.TheVariants as ends
use Rattle.vme_threads.specs.declared.take.Taken.{Taken}
use Rattle.vme_threads.specs.declared.take.Taken.TheVariants as takens
use Rattle.vme_threads.specs.declared.read.BoardRead.{BoardRead}
use Rattle.vme_threads.specs.declared.read.BusRead.{BusRead}
use Rattle.vme_threads.specs.declared.processor_pass.ProcessorPass.{ProcessorPass}
use Rattle.vme_threads.specs.ProcessorPasses.{AddsCall, AddsTransitions}

-- the job of a read
abbrev pub job_of : BusRead → BusJob
job_of read = record { slot = read.slot; level = read.level; transfer = read.transfer; place = read.place }

-- the task of a read in a phase, with the bytes that were read so far
abbrev pub read_task : BusJob → Phase → List ℕ → TaskView
read_task job phase bytes = record { job = Bus job; phase = phase; read = bytes }

-- a task takes replies: each transition is its next call with the reply by which it advances
abbrev pub Takes : TaskView → List Transition → TaskView → Type 0
Takes old [] new = old ≡ new
Takes old (m ∷ moves) new = (call_in (to_do old) ≡ Some (call_of m.event)) × Takes (advance old (Some m.reply)) moves new

-- a processor makes the calls of a task from one state to another
pub record RunsTask (old new : TaskView) (before after : ProcessorPass) : Type 0 where
  pub run : List Transition
  pub made : AddsTransitions run before after
  pub takes : Takes old run new

-- the phase after the arbiter's replies to the requests of the bus: the first datum, if it granted the bus
abbrev pub phase_asked : BusJob → Bool → Phase
phase_asked job true = phase_at (Bus job) 0
phase_asked job false = Denied

-- the phase after the data of a read: the release of the bus
abbrev pub phase_read : ReadEnd → Phase
phase_read (ends.Ended berr) = Releasing berr
phase_read ends.Denied = Denied

-- the phase after the release of the bus: the end, if the arbiter freed the bus
abbrev pub phase_freed : Option ℕ → Bool → Phase
phase_freed berr true = Finished berr
phase_freed berr false = Denied

-- the phase at the end of a read
abbrev pub phase_ended : ReadEnd → Phase
phase_ended (ends.Ended berr) = Finished berr
phase_ended ends.Denied = Denied

-- the outcome of a read that has ended, with the bytes that were read
abbrev pub read_outcome : ReadEnd → List ℕ → Outcome
read_outcome (ends.Ended None) bytes = outcomes.Read (record { items = bytes })
read_outcome (ends.Ended (Some count)) bytes = error_outcome count bytes
read_outcome ends.Denied bytes = outcomes.Denied

-- the phase after the reply to datum i
abbrev pub phase_taken : BusJob → ℕ → Taken → Phase
phase_taken job i takens.Bytes = phase_at (Bus job) (i + 1)
phase_taken job i takens.Berr = Releasing (Some i)
phase_taken job i takens.Denied = Denied

-- the reply to a datum of n bytes was taken: the bytes that were read and the phase are those of the task after it
pub record IsTaken (n : ℕ) (reply : Reply) (old new : List ℕ) (taken : Taken) : Type 0 where
  pub task :
      (job : BusJob) (i : ℕ) → request_expected job.transfer.request ≡ expected_replies.Read n
      → task_replied (read_task job (Transferring i) old) i reply ≡ read_task job (phase_taken job i taken) new
  pub len : length new ≤ length old + n

-- a processor read datum i of a read on its board: it made the datum's call, and took the reply
pub record ReadsDatum (read : BoardRead) (i : ℕ) (before after : ProcessorPass) (old new : List ℕ) (taken : Taken) : Type 0 where
  pub reply : Reply
  pub made : AddsCall (datum_call (job_of read.bus.now) read.bus.now.place i) (replies.Board reply) before after
  pub took : IsTaken read.n reply old new taken

-- a read that waits for bytes is in progress, before one of its attempts: a run of its events was made
pub record IsAwaitInProgress (config : Configuration) (line : Line) (before now : ProcessorPass) (job : BusJob) (want : List ℕ)
    (left : ℕ) : Type 0 where
  pub run : List Transition
  pub made : AddsTransitions run before now
  pub replies : List EventReply
  pub goes : Continues config before.who line [] run replies
  pub is :
      line_after config before.who line replies
      ≡ Running (read_attempts (record { task = read_task job Requesting []; want = record { items = want } }) left)
