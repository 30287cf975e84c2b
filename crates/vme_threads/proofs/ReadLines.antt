-- Reads over the bus as lines of a script: the calls of a read's task are those of its line.
use Rattle.std.proofs.Common.{◌≡◌, ℕ, ◌-◌, ◌<◌, ◌≤◌, arith, true, false, List, [], ◌∷◌, ◌++◌, length, Bool, Some, None, Result, Ok, Err, refl, ap, sym, subst, ◌∙◌}
use Rattle.std.specs.Prelude.{nat_lt, ◌&&◌}
use Rattle.std.proofs.lemmas.Bool.{ltb-true, false_from_ne_true}
use Rattle.arrayvec.specs.ArrayVec.{ArrayVec}
use Rattle.vme_cycle.specs.declared.fault.CycleFault.{CycleFault}
use Rattle.vme_cycle.specs.declared.request.Request.{Request}
use Rattle.vme_cycle.specs.declared.request.Request.TheVariants as requests
use Rattle.vme_cycle.specs.Lawful.{Transfer as LawfulRequest, transfer_of}
use Rattle.vme_decode.specs.declared.entry.Entry.{Entry}
use Rattle.vme_core.specs.declared.event.EventReply.{EventReply}
use Rattle.vme_core.specs.Calls.{Call, call_of}
use Rattle.vme_core.specs.NextSteps.{NextStep, Invokes, Returns, call_in}
use Rattle.vme_core.specs.Runs.{Transition}
use Rattle.vme_core.proofs.lemmas.NextSteps.{in_makes}
use Rattle.vme_master.specs.Jobs.{bus_job, request_expected}
use Rattle.vme_master.specs.declared.expected.ExpectedReply.TheVariants as expected_replies
use Rattle.vme_master.specs.declared.job.BusJob.{BusJob}
use Rattle.vme_master.specs.declared.job.Job.{Job}
use Rattle.vme_master.specs.declared.job.Job.TheVariants.{Bus}
use Rattle.vme_master.specs.declared.phase.Phase.TheVariants.{Requesting}
use Rattle.vme_master.specs.Tables.{next_of}
use Rattle.vme_master.specs.Machine.{TaskView, advance, task_given, to_do, end_outcome}
use Rattle.vme_master.proofs.lemmas.Stands.{by_the_table}
use Rattle.vme_shared.specs.declared.reply.LineReply.{LineReply}
use Rattle.vme_shared.specs.declared.reply.LineReply.TheVariants.{Transfer, Refused}
use Rattle.vme_grammar.specs.declared.line.Line.{Line}
use Rattle.vme_grammar.specs.declared.line.Line.TheVariants as lines
use Rattle.vme_script.specs.Boards.{entries_of}
use Rattle.vme_script.specs.Configurations.{Configuration}
use Rattle.vme_line_task.specs.declared.task.LineTask.{LineTask}
use Rattle.vme_line_task.specs.declared.task.LineTask.TheVariants.{Running}
use Rattle.vme_line_task.specs.declared.wait.AwaitTask.{AwaitTask}
use Rattle.vme_line_task.specs.Attempts.{read_attempts}
use Rattle.vme_line_task.specs.Scripts.{Attempt, Transferring, Awaiting, slot_at, level_at, transfer_job, request_attempt, line_attempt}
use Rattle.vme_line_task.specs.Tables.{transferring_next, await_reply, awaiting_next, asks_again, next_wants_retry, next_given, given_of}
use Rattle.vme_line_task.specs.Machine.{attempts_again, line_fresh, line_started, line_advance, line_to_do, line_after}
use Rattle.vme_line_task.specs.Traces.{Continues}
use Rattle.vme_line_task.proofs.lemmas.Lines.{by_the_replies}
use Rattle.vme_threads.specs.declared.read.ReadEnd.{ReadEnd}
use Rattle.vme_threads.specs.declared.read.ReadEnd.TheVariants as ends
use Rattle.vme_threads.specs.declared.processor_pass.ProcessorPass.{ProcessorPass}
use Rattle.vme_threads.specs.ReadForms.{IsReadOf}
use Rattle.vme_threads.specs.Reads.{read_task, Takes, RunsTask, phase_ended, read_outcome, IsAwaitInProgress}
use Rattle.vme_threads.specs.Rans.{IsAnsweredBy}
use Rattle.vme_threads.proofs.Once.{once_next, called}
use Rattle.vme_threads.proofs.ProcessorPasses.{made_none, made_more}

-- a line that continues by some transitions and then by others continues by both
goes_more :
    (config : Configuration) (board : ℕ) (line : Line) (before mid after : List EventReply) (a b : List Transition)
    → Continues config board line before a mid → Continues config board line mid b after
    → Continues config board line before (a ++ b) after
goes_more config board line before mid after [] b first then =
    subst (λ (rs : List EventReply). Continues config board line rs b after) (sym first) then
goes_more config board line before mid after (m ∷ a) b first then =
    (first.0, goes_more config board line (m.reply ∷ before) mid after a b first.1 then)

-- a read that has ended has its outcome
pub ends_with :
    (job : BusJob) (n : ℕ) (bytes : List ℕ) (end : ReadEnd) → request_expected job.transfer.request ≡ expected_replies.Read n
    → to_do (read_task job (phase_ended end) bytes) ≡ Returns (read_outcome end bytes)
ends_with job n bytes (ends.Ended None) expected = ap (λ e. Returns (end_outcome e None bytes)) expected
ends_with job n bytes (ends.Ended (Some count)) expected = refl
ends_with job n bytes ends.Denied expected = refl

-- the replies that the task of a request takes are those to its line
request_takes :
    (config : Configuration) (who : ℕ) (request : Request) (job : Job) (replies : List EventReply) (task new : TaskView)
    (moves : List Transition)
    → line_attempt config who (lines.Bus request) ≡ Ok (Transferring job) → task ≡ task_given job (given_of replies)
    → Takes task moves new
    → (after : List EventReply) × Continues config who (lines.Bus request) replies moves after × (new ≡ task_given job (given_of after))
request_takes config who request job replies task new [] attempted is takes = (replies, refl, sym takes ∙ is)
request_takes config who request job replies task new (m ∷ moves) attempted is takes =
    let rest =
    request_takes config who request job (m.reply ∷ replies) (advance task (Some m.reply)) new moves attempted
    (ap (λ (t : TaskView). advance t (Some m.reply)) is) takes.1 in
    let next =
    once_next config who (lines.Bus request) job replies attempted
    ∙ called (next_of job (given_of replies)) (call_of m.event)
    (sym takes.0 ∙ ap (λ (t : TaskView). call_in (to_do t)) is ∙ ap call_in (by_the_table job (given_of replies))) in
    (rest.0, (next, rest.1), rest.2)

-- the job of a processor's lawful request, by its slot, its level and the boards
job_is :
    (config : Configuration) (who : ℕ) (map : List Entry) (slot level : ℕ) (t : LawfulRequest) (job : BusJob)
    → map ≡ entries_of config.boards → slot_at config who ≡ slot → level_at config who ≡ level → Bus job ≡ bus_job map slot level t
    → transfer_job config who t ≡ Bus job
job_is config who map slot level t job maps slots levels is =
    ap (λ (m : List Entry). bus_job m (slot_at config who) (level_at config who) t) (sym maps)
    ∙ ap (λ (s : ℕ). bus_job map s (level_at config who) t) slots
    ∙ ap (λ (l : ℕ). bus_job map slot l t) levels ∙ sym is

-- a read over the bus gets its reply by the calls of its task
pub read_answered :
    (config : Configuration) (map : List Entry) (slot level : ℕ) (request : Request) (t : LawfulRequest) (job : BusJob) (n : ℕ)
    (bytes : List ℕ) (end : ReadEnd) (d e : ProcessorPass)
    → map ≡ entries_of config.boards → slot_at config d.who ≡ slot → level_at config d.who ≡ level → transfer_of request ≡ Ok t
    → Bus job ≡ bus_job map slot level t
    → request_expected job.transfer.request ≡ expected_replies.Read n
    → RunsTask (read_task job Requesting []) (read_task job (phase_ended end) bytes) d e
    → IsAnsweredBy config (lines.Bus request) (Transfer (read_outcome end bytes)) d e
read_answered config map slot level request t job n bytes end d e maps slots levels lawful is expected runs =
    let attempted : line_attempt config d.who (lines.Bus request) ≡ Ok (Transferring (Bus job)) =
    ap (request_attempt (λ t. Transferring (transfer_job config d.who t))) lawful
    ∙ ap (λ (j : Job). let a : Result Attempt CycleFault = Ok (Transferring j) in a)
    (job_is config d.who map slot level t job maps slots levels is) in
    let took =
    request_takes config d.who request (Bus job) [] (read_task job Requesting []) (read_task job (phase_ended end) bytes)
    runs.run attempted refl runs.takes in
    record {
      run = runs.run;
      made = runs.made;
      trace = record {
        replies = took.0;
        goes = took.1;
        ends =
            once_next config d.who (lines.Bus request) (Bus job) took.0 attempted
            ∙ ap transferring_next
            (sym (by_the_table (Bus job) (given_of took.0)) ∙ ap to_do (sym took.2) ∙ ends_with job n bytes end expected);
      };
    }

-- a read that waits for bytes, by its task
abbrev waiting : TaskView → List ℕ → AwaitTask
waiting task want = record { task = task; want = record { items = want } }

-- a task that makes a call asks for no other attempt
calls_on : (want : List ℕ) (task : TaskView) (call : Call) → call_in (to_do task) ≡ Some call
    → awaiting_next want (to_do task) ≡ Invokes call
calls_on want task call is = ap (awaiting_next want) (in_makes (to_do task) call (sym is))

-- an attempt that asks for no other stays the current one
stays :
    (task : TaskView) (want : List ℕ) (left : ℕ) (next : NextStep LineReply) → (next_wants_retry next && nat_lt 1 left) ≡ false
    → attempts_again (read_attempts (waiting task want) left) next ≡ read_attempts (waiting task want) left
stays task want left next asks = rw asks refl

-- the replies that the task of an attempt takes are those to its line; at the end another attempt may begin
await_takes :
    (config : Configuration) (who : ℕ) (line : Line) (want : List ℕ) (left : ℕ) (replies : List EventReply) (task new : TaskView)
    (moves : List Transition)
    → line_after config who line replies ≡ Running (read_attempts (waiting task want) left)
    → next_wants_retry (awaiting_next want (to_do task)) ≡ false → Takes task moves new
    → (after : List EventReply) × Continues config who line replies moves after
    × (line_after config who line after
    ≡ Running (attempts_again (read_attempts (waiting new want) left) (awaiting_next want (to_do new))))
await_takes config who line want left replies task new [] is asks takes = (
  replies,
  refl,
  is ∙ ap Running (sym (stays task want left (awaiting_next want (to_do task)) (rw asks refl)))
      ∙ ap (λ (t : TaskView). Running (attempts_again (read_attempts (waiting t want) left) (awaiting_next want (to_do t)))) takes,
)
await_takes config who line want left replies task new (m ∷ []) is asks takes = (
  m.reply ∷ replies,
  (
    sym (by_the_replies config who line replies) ∙ ap line_to_do is ∙ calls_on want task (call_of m.event) takes.0,
    refl,
  ),
  ap (λ (t : LineTask). line_advance t (Some m.reply)) is
      ∙ ap (λ (t : TaskView). Running (attempts_again (read_attempts (waiting t want) left) (awaiting_next want (to_do t)))) takes.1,
)
await_takes config who line want left replies task new (m ∷ k ∷ moves) is asks takes =
    let then = advance task (Some m.reply) in
    let on : next_wants_retry (awaiting_next want (to_do then)) ≡ false =
    ap next_wants_retry (calls_on want then (call_of k.event) takes.1.0) in
    let rest =
    await_takes config who line want left (m.reply ∷ replies) then new (k ∷ moves)
    (ap (λ (t : LineTask). line_advance t (Some m.reply)) is
    ∙ ap Running (stays then want left (awaiting_next want (to_do then)) (rw on refl))) on takes.1 in (
      rest.0,
      (sym (by_the_replies config who line replies) ∙ ap line_to_do is ∙ calls_on want task (call_of m.event) takes.0, rest.1),
      rest.2,
    )

-- a read that waits for bytes is in progress when its task has started
pub await_start :
    (config : Configuration) (map : List Entry) (slot level am addr : ℕ) (want : ArrayVec ℕ) (t : LawfulRequest) (job : BusJob)
    (d : ProcessorPass)
    → map ≡ entries_of config.boards → slot_at config d.who ≡ slot → level_at config d.who ≡ level
    → transfer_of (requests.Read am addr (length want.items)) ≡ Ok t → Bus job ≡ bus_job map slot level t
    → IsAwaitInProgress config (lines.Await am addr want) d d job want.items config.tries
unfolding line_started
await_start config map slot level am addr want t job d maps slots levels lawful is = record {
  run = [];
  made = made_none d;
  replies = [];
  goes = refl;
  is =
      ap (λ (r : Result LawfulRequest CycleFault). line_advance
      (line_fresh config.tries (request_attempt (λ t. Awaiting (transfer_job config d.who t) want.items) r)) None) lawful
      ∙ ap (λ (j : Job). line_advance (line_fresh config.tries (Ok (Awaiting j want.items))) None)
      (job_is config d.who map slot level t job maps slots levels is);
}

-- a read that waits for bytes and is refused gets its reply without a call
pub await_refused :
    (config : Configuration) (am addr : ℕ) (want : ArrayVec ℕ) (fault : CycleFault) (d : ProcessorPass)
    → transfer_of (requests.Read am addr (length want.items)) ≡ Err fault
    → IsAnsweredBy config (lines.Await am addr want) (Refused fault) d d
unfolding next_given
await_refused config am addr want fault d is = record {
  run = [];
  made = made_none d;
  trace = record { replies = []; goes = refl; ends = rw is refl };
}

-- an attempt that asks for another is followed by it, if one is left
pub await_more :
    (config : Configuration) (line : Line) (d e f : ProcessorPass) (job : BusJob) (want bytes : List ℕ) (n left : ℕ) (end : ReadEnd)
    → request_expected job.transfer.request ≡ expected_replies.Read n
    → asks_again (await_reply want (read_outcome end bytes)) ≡ true → nat_lt 1 left ≡ true
    → RunsTask (read_task job Requesting []) (read_task job (phase_ended end) bytes) e f
    → IsAwaitInProgress config line d e job want left → IsAwaitInProgress config line d f job want (left - 1)
await_more config line d e f job want bytes n left end expected asks more runs at =
    let new = read_task job (phase_ended end) bytes in
    let took =
    await_takes config d.who line want left at.replies (read_task job Requesting []) new runs.run at.is refl runs.takes in
    let next : awaiting_next want (to_do new) ≡ Returns (await_reply want (read_outcome end bytes)) =
    ap (awaiting_next want) (ends_with job n bytes end expected) in
    record {
      run = at.run ++ runs.run;
      made = made_more at.run runs.run d e f at.made runs.made;
      replies = took.0;
      goes = goes_more config d.who line [] at.replies took.0 at.run runs.run at.goes took.1;
      is =
          took.2 ∙ ap (λ (s : NextStep LineReply). Running (attempts_again (read_attempts (waiting new want) left) s)) next
          ∙ rw (asks, more) refl;
    }

-- an attempt whose reply asks for no other, or that is the last, gives the line its reply
pub await_end :
    (config : Configuration) (line : Line) (d e f : ProcessorPass) (job : BusJob) (want bytes : List ℕ) (n left : ℕ) (end : ReadEnd)
    (answer : LineReply)
    → request_expected job.transfer.request ≡ expected_replies.Read n
    → await_reply want (read_outcome end bytes) ≡ answer → (asks_again answer && nat_lt 1 left) ≡ false
    → RunsTask (read_task job Requesting []) (read_task job (phase_ended end) bytes) e f
    → IsAwaitInProgress config line d e job want left → IsAnsweredBy config line answer d f
await_end config line d e f job want bytes n left end answer expected replies last runs at =
    let new = read_task job (phase_ended end) bytes in
    let took =
    await_takes config d.who line want left at.replies (read_task job Requesting []) new runs.run at.is refl runs.takes in
    let next : awaiting_next want (to_do new) ≡ Returns answer =
    ap (awaiting_next want) (ends_with job n bytes end expected) ∙ ap Returns replies in
    record {
      run = at.run ++ runs.run;
      made = made_more at.run runs.run d e f at.made runs.made;
      trace = record {
        replies = took.0;
        goes = goes_more config d.who line [] at.replies took.0 at.run runs.run at.goes took.1;
        ends =
            sym (by_the_replies config d.who line took.0)
            ∙ ap line_to_do
            (took.2 ∙ ap (λ (s : NextStep LineReply). Running (attempts_again (read_attempts (waiting new want) left) s)) next
            ∙ ap Running (stays new want left (Returns answer) last))
            ∙ next;
      };
    }

-- a read of one datum is a read whose data have this form
pub single_read : (am addr n : ℕ) → IsReadOf (requests.Read am addr n) (record { block = false; n = n })
single_read am addr n = record { command = λ i at. refl; expected = refl; len = refl; bytes = grind arith }

-- with at most one attempt left no other is made
pub not_more : (asks : Bool) (left : ℕ) → left ≤ 1 → (asks && nat_lt 1 left) ≡ false
not_more false left last = refl
not_more true left last = false_from_ne_true (nat_lt 1 left) (λ more. let less : 1 < left = ltb-true 1 left more in omega (arith, less, last))
