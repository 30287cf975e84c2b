-- Lines that are attempted once: commands to the local port and requests over the bus, event by event.
use Rattle.std.proofs.Common.{◌≡◌, ◌≢◌, ℕ, ◌<◌, List, [], ◌∷◌, ◌++◌, length, map, Option, Some, None, IfSome, Result, Ok, Err, refl, ap, sym, subst, ◌∙◌}
use Rattle.std.specs.Prelude.{slice_get, IfOk}
use Rattle.vme_memory.specs.declared.command.BoardCmd.{BoardCmd}
use Rattle.vme_memory.specs.declared.reply.Reply.{Reply}
use Rattle.vme_cycle.specs.declared.fault.CycleFault.{CycleFault}
use Rattle.vme_cycle.specs.declared.request.Request.{Request}
use Rattle.vme_cycle.specs.Lawful.{Transfer as LawfulRequest, transfer_of}
use Rattle.vme_decode.specs.declared.entry.Entry.{Entry}
use Rattle.vme_core.specs.declared.event.Event.TheVariants as events
use Rattle.vme_core.specs.declared.event.EventReply.{EventReply}
use Rattle.vme_core.specs.declared.event.EventReply.TheVariants as event_replies
use Rattle.vme_core.specs.Calls.{Call, call_of}
use Rattle.vme_core.specs.Runs.{Transition, move}
use Rattle.vme_core.specs.NextSteps.{NextStep, NotStarted, Invokes, Returns, call_in, result_in}
use Rattle.vme_master.specs.declared.job.Job.{Job}
use Rattle.vme_master.specs.declared.outcome.Outcome.{Outcome}
use Rattle.vme_master.specs.Jobs.{bus_job, local_job}
use Rattle.vme_master.specs.Tables.{Inputs, next_of}
use Rattle.vme_master.specs.Machine.{TaskView, fresh_task, bus_task, advance, task_given, to_do}
use Rattle.vme_master.specs.Callers.{HasCalled, AdvancesBy}
use Rattle.vme_master.proofs.lemmas.Stands.{by_the_table}
use Rattle.vme_shared.specs.declared.reply.LineReply.{LineReply}
use Rattle.vme_shared.specs.declared.reply.LineReply.TheVariants.{Transfer, Refused}
use Rattle.vme_grammar.specs.declared.line.Line.{Line}
use Rattle.vme_grammar.specs.declared.line.Line.TheVariants as lines
use Rattle.vme_script.specs.declared.script.ScriptLine.{ScriptLine}
use Rattle.vme_script.specs.Boards.{entries_of}
use Rattle.vme_script.specs.Configurations.{Configuration}
use Rattle.vme_line_task.specs.Scripts.{Transferring, slot_at, level_at, lines_at, transfer_job, request_attempt, line_attempt}
use Rattle.vme_line_task.specs.Tables.{transferring_next, next_given, line_next, given_of}
use Rattle.vme_line_task.specs.Events.{IsCallBelow}
use Rattle.vme_line_task.specs.Traces.{Continues}
use Rattle.vme_line_task.proofs.lemmas.Below.{next_below}
use Rattle.vme_line_task.proofs.lemmas.Once.{all_given}
use Rattle.vme_line_task.proofs.lemmas.Traces.{goes-snoc}
use Rattle.vme_port.specs.declared.fault.Spent.{Spent}
use Rattle.vme_threads.specs.declared.processor_pass.ProcessorPass.{ProcessorPass}
use Rattle.vme_threads.specs.declared.ports.Ports.{Ports}
use Rattle.vme_threads.specs.ProcessorPasses.{MatchesPorts, AddsTransitions, AddsCall}
use Rattle.vme_threads.specs.Rans.{IsAnsweredBy, AddsLine}
use Rattle.vme_threads.proofs.ProcessorPasses.{made_none, made_more, fits_after}
use Rattle.vme_threads.proofs.Runs.{script_is}

-- a line that is attempted once does next what its job does
pub once_next : (config : Configuration) (board : ℕ) (line : Line) (job : Job) (replies : List EventReply)
    → line_attempt config board line ≡ Ok (Transferring job)
    → line_next config board line replies ≡ transferring_next (next_of job (given_of replies))
unfolding next_given
once_next config board line job replies is =
    rw is (ap (λ (g : Inputs). transferring_next (next_of job g)) (all_given job config.tries (given_of replies)))

-- a command to the local port gets its reply by one call
pub local_answered :
    (cmd : BoardCmd) (reply : Reply) (outcome : Outcome) (d e : ProcessorPass)
    → AddsTransitions (move d.who (events.Board d.who cmd) (event_replies.Board reply) ∷ []) d e
    → ((board : ℕ) → next_of (local_job board cmd) (Some (event_replies.Board reply) ∷ None ∷ []) ≡ Returns outcome)
    → (config : Configuration) → IsAnsweredBy config (lines.Local cmd) (Transfer outcome) d e
local_answered cmd reply outcome d e made ends = λ config. record {
  run = move d.who (events.Board d.who cmd) (event_replies.Board reply) ∷ [];
  made = made;
  trace = record {
    replies = event_replies.Board reply ∷ [];
    goes = (once_next config d.who (lines.Local cmd) (local_job d.who cmd) [] refl, refl);
    ends =
        once_next config d.who (lines.Local cmd) (local_job d.who cmd) (event_replies.Board reply ∷ []) refl
        ∙ ap transferring_next (ends d.who);
  };
}

-- a line of the script that was found is a line of the configuration
pub line_found :
    (config : Configuration) (who place : ℕ) (script : List ScriptLine) (line : Line) → slice_get config.scripts who ≡ Some script
    → slice_get (map (λ (one : ScriptLine). one.line) script) place ≡ Some line
    → slice_get (lines_at config who) place ≡ Some line
line_found config who place script line there at =
    subst (λ (all : List ScriptLine). slice_get (map (λ (one : ScriptLine). one.line) all) place ≡ Some line)
    (sym (script_is config who who script refl there)) at

-- a processor that gets the reply to a line gets the reply at the place of that line
pub answered_there :
    (config : Configuration) (place : ℕ) (line : Line) (d e : ProcessorPass) (result : Result LineReply Spent)
    → slice_get (lines_at config d.who) place ≡ Some line → IfOk result (λ answer. IsAnsweredBy config line answer d e)
    → IfOk result (λ answer. AddsLine config place answer d e)
answered_there config place line d e (Ok answer) there is = record { line = line; there = there; is = is }
answered_there config place line d e (Err spent) there is = tt

-- the next call of a job's task is the next call of its line
pub called : (next : NextStep Outcome) (call : Call) → Some call ≡ call_in next → transferring_next next ≡ Invokes call
called NotStarted call is = absurd cc
called (Invokes other) call is = cc
called (Returns outcome) call is = absurd cc

-- the outcome of a job's task is the reply to its line
pub ended : (next : NextStep Outcome) (outcome : Outcome) → Some outcome ≡ result_in next
    → transferring_next next ≡ Returns (Transfer outcome)
ended NotStarted outcome is = absurd cc
ended (Invokes call) outcome is = absurd cc
ended (Returns other) outcome is = cc

-- a bus task is refused only for the fault of its request
refused_by : (map : List Entry) (slot level : ℕ) (t : Result LawfulRequest CycleFault) (fault : CycleFault)
    → Err fault ≡ bus_task map slot level t → t ≡ Err fault
refused_by map slot level (Ok t) fault is = absurd cc
refused_by map slot level (Err other) fault is = cc

-- a refused request gets its reply without a call
pub refused_answered :
    (config : Configuration) (map : List Entry) (slot level : ℕ) (request : Request) (fault : CycleFault) (d : ProcessorPass)
    → Err fault ≡ bus_task map slot level (transfer_of request) → IsAnsweredBy config (lines.Bus request) (Refused fault) d d
unfolding next_given
refused_answered config map slot level request fault d is = record {
  run = [];
  made = made_none d;
  trace = record { replies = []; goes = refl; ends = rw (refused_by map slot level (transfer_of request) fault is) refl };
}

-- a request over the bus is in progress: a run of its events was made, and `task` is its task after them
pub record IsRequestInProgress (config : Configuration) (request : Request) (before now : ProcessorPass) (task : TaskView) :
    Type 0 where
  pub job : Job
  pub attempted : line_attempt config before.who (lines.Bus request) ≡ Ok (Transferring job)
  pub run : List Transition
  pub made : AddsTransitions run before now
  pub replies : List EventReply
  pub goes : Continues config before.who (lines.Bus request) [] run replies
  pub is : task ≡ task_given job (given_of replies)
  pub begun : to_do task ≢ NotStarted

-- a bus task that was started: its request is lawful, and the task is the fresh one of the request's job
record IsStarted (map : List Entry) (slot level : ℕ) (t : Result LawfulRequest CycleFault) (task : TaskView) : Type 0 where
  one : LawfulRequest
  lawful : t ≡ Ok one
  fresh : task ≡ fresh_task (bus_job map slot level one)

-- a bus task starts only for a lawful request
started_by : (map : List Entry) (slot level : ℕ) (t : Result LawfulRequest CycleFault) (task : TaskView)
    → Ok task ≡ bus_task map slot level t → IsStarted map slot level t task
started_by map slot level (Ok t) task is = record { one = t; lawful = refl; fresh = cc }
started_by map slot level (Err fault) task is = absurd cc

-- a request is in progress when its task has started, before its first event
pub request_start :
    (config : Configuration) (map : List Entry) (slot level : ℕ) (request : Request) (d : ProcessorPass) (fresh task : TaskView)
    → map ≡ entries_of config.boards → slot_at config d.who ≡ slot → level_at config d.who ≡ level
    → Ok fresh ≡ bus_task map slot level (transfer_of request) → task ≡ advance fresh None → to_do task ≢ NotStarted
    → IsRequestInProgress config request d d task
request_start config map slot level request d fresh task maps slots levels is advanced begun =
    let started = started_by map slot level (transfer_of request) fresh is in
    record {
      job = bus_job map slot level started.one;
      attempted =
          ap (request_attempt (λ t. Transferring (transfer_job config d.who t))) started.lawful
          ∙ ap (λ (job : Job). Ok (Transferring job))
          (ap (λ (m : List Entry). bus_job m (slot_at config d.who) (level_at config d.who) started.one) (sym maps)
          ∙ ap (λ (s : ℕ). bus_job map s (level_at config d.who) started.one) slots
          ∙ ap (λ (l : ℕ). bus_job map slot l started.one) levels);
      run = [];
      made = made_none d;
      replies = [];
      goes = refl;
      is = advanced ∙ ap (λ (t : TaskView). advance t None) started.fresh;
      begun = begun;
    }

-- what the task of a request in progress does next is what the line's table states
request_next :
    (config : Configuration) (request : Request) (d e : ProcessorPass) (task : TaskView)
    (at : IsRequestInProgress config request d e task)
    → transferring_next (to_do task) ≡ line_next config d.who (lines.Bus request) at.replies
request_next config request d e task at =
    ap (λ (t : TaskView). transferring_next (to_do t)) at.is ∙ ap transferring_next (by_the_table at.job (given_of at.replies))
    ∙ sym (once_next config d.who (lines.Bus request) at.job at.replies at.attempted)

-- the next call of a request in progress goes to the arbiter or to a board of the configuration
pub request_below :
    (config : Configuration) (request : Request) (d e : ProcessorPass) (task : TaskView) (n : ℕ) (call : Call)
    → IsRequestInProgress config request d e task
    → d.who < length config.boards → length config.boards ≡ n → Some call ≡ call_in (to_do task) → IsCallBelow n call
request_below config request d e task n call at there same asks =
    subst (λ (m : ℕ). IsCallBelow m call) same
    (next_below config d.who (lines.Bus request) (given_of at.replies) call there
    (sym (request_next config request d e task at) ∙ called (to_do task) call asks))

-- a request is still in progress after one more event
pub request_more :
    (config : Configuration) (request : Request) (d e f : ProcessorPass) (call : Call) (reply : EventReply) (task new : TaskView)
    → IsRequestInProgress config request d e task → Some call ≡ call_in (to_do task) → AddsCall call reply e f
    → new ≡ advance task (Some reply)
    → to_do new ≢ NotStarted → IsRequestInProgress config request d f new
request_more config request d e f call reply task new at asks next advanced begun =
    let one = move e.who next.event reply in
    record {
      job = at.job;
      attempted = at.attempted;
      run = at.run ++ one ∷ [];
      made = made_more at.run (one ∷ []) d e f at.made next.made;
      replies = reply ∷ at.replies;
      goes =
          goes-snoc config d.who (lines.Bus request) [] at.run at.replies one at.goes
          (sym (request_next config request d e task at) ∙ called (to_do task) (call_of next.event) (ap Some next.calls ∙ asks));
      is = advanced ∙ ap (λ (t : TaskView). advance t (Some reply)) at.is;
      begun = begun;
    }

-- a request in progress whose task has ended has its reply
pub request_end :
    (config : Configuration) (request : Request) (d e : ProcessorPass) (task : TaskView) (outcome : Outcome)
    → IsRequestInProgress config request d e task
    → Some outcome ≡ result_in (to_do task) → IsAnsweredBy config (lines.Bus request) (Transfer outcome) d e
request_end config request d e task outcome at is = record {
  run = at.run;
  made = at.made;
  trace = record {
    replies = at.replies;
    goes = at.goes;
    ends = sym (request_next config request d e task at) ∙ ended (to_do task) outcome is;
  };
}

-- the next call of a request in progress can be made
pub request_can :
    (config : Configuration) (ports : Ports) (request : Request) (d e : ProcessorPass) (task : TaskView) → MatchesPorts ports d
    → d.who < length config.boards → d.boards ≡ length config.boards → IsRequestInProgress config request d e task
    → IfSome (call_in (to_do task)) (λ call. MatchesPorts ports e × IsCallBelow e.boards call)
request_can config ports request d e task fits there same at = by (call_in (to_do task)) refl
  where
    by : (asked : Option Call) → asked ≡ call_in (to_do task)
        → IfSome asked (λ call. MatchesPorts ports e × IsCallBelow e.boards call)
    by None is = tt
    by (Some call) is = (
      fits_after ports at.run d e at.made fits,
      request_below config request d e task e.boards call at there (sym (at.made.boards ∙ same)) is,
    )

-- a request is still in progress after its next call, if it has one
pub request_called :
    (config : Configuration) (request : Request) (d e f : ProcessorPass) (task new : TaskView)
    → IsRequestInProgress config request d e task → AdvancesBy AddsCall to_do advance e f task new
    → IsRequestInProgress config request d f new
request_called config request d e f task new at it = by (call_in (to_do task)) refl it.step
  where
    by : (asked : Option Call) → asked ≡ call_in (to_do task) → HasCalled AddsCall advance asked e f task new
        → IsRequestInProgress config request d f new
    by None is step =
        subst (λ (x : ProcessorPass). IsRequestInProgress config request d x new) (sym step.0)
        (subst (λ (t : TaskView). IsRequestInProgress config request d e t) (sym step.1) at)
    by (Some call) is step = request_more config request d e f call step.0 task new at is step.1 step.2 (it.begun at.begun)
