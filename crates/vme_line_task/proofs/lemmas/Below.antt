-- The boards that a line calls are boards of the configuration.
use Rattle.std.proofs.Common.{◌≡◌, ℕ, ◌<◌, List, [], ◌∷◌, ◌++◌, length, Option, Some, None, Result, Ok, Err, refl, ap, sym, subst, ◌∙◌}
use Rattle.std.proofs.lemmas.List.{length-map}
use Rattle.vme_cycle.specs.declared.fault.CycleFault.{CycleFault}
use Rattle.vme_cycle.specs.declared.request.Request.TheVariants as requests
use Rattle.vme_cycle.specs.Lawful.{Transfer, transfer_of}
use Rattle.vme_core.specs.declared.event.Event.TheVariants as events
use Rattle.vme_core.specs.declared.event.EventReply.{EventReply}
use Rattle.vme_core.specs.Calls.{Call, OnBoard, OnBus, machine_step}
use Rattle.vme_core.specs.NextSteps.{NextStep, Invokes, call_in}
use Rattle.vme_core.specs.Runs.{Machine}
use Rattle.vme_core.specs.Advances.{advanced_on, AdvancesOn}
use Rattle.vme_core.proofs.lemmas.NextSteps.{in_makes, map_makes}
use Rattle.vme_master.specs.declared.outcome.Outcome.{Outcome}
use Rattle.vme_shared.specs.declared.outcome.SharedOutcome.{SharedOutcome}
use Rattle.vme_shared.specs.declared.reply.LineReply.TheVariants as answers
use Rattle.vme_master.specs.declared.job.Job.{Job}
use Rattle.vme_master.specs.Jobs.{bus_job}
use Rattle.vme_master.specs.Tables.{Inputs, next_of}
use Rattle.vme_master.specs.Laws.{IsBelow}
use Rattle.vme_master.proofs.lemmas.Locals.{bus_below, calls_below as job_calls_below}
use Rattle.vme_shared.specs.declared.request.SharedRequest.{SharedRequest}
use Rattle.vme_shared.specs.declared.request.SharedRequest.TheVariants as asked_shared
use Rattle.vme_shared.specs.Mailboxes.{shared_refusal}
use Rattle.vme_shared.specs.Tables.{shared_next}
use Rattle.vme_shared.proofs.lemmas.Tenures.{calls_below as shared_calls_below}
use Rattle.vme_grammar.specs.declared.line.Line.{Line}
use Rattle.vme_grammar.specs.declared.line.Line.TheVariants as lines
use Rattle.vme_script.specs.Boards.{entries_of}
use Rattle.vme_script.specs.Configurations.{Configuration}
use Rattle.vme_line_task.specs.declared.task.LineTask.{LineTask}
use Rattle.vme_line_task.specs.declared.todo.LineTodo.{LineTodo}
use Rattle.vme_line_task.specs.declared.todo.LineTodo.TheVariants as todos
use Rattle.vme_line_task.specs.Scripts.{Attempt, Transferring, Awaiting, Sharing, slot_at, level_at, mailbox_at, transfer_job, request_attempt, unless_refused, shared_job, shared_attempt, line_attempt}
use Rattle.vme_line_task.specs.Tables.{transferring_next, await_reply, awaiting_next, sharing_next, attempts_of, lawful_next, next_given_with, next_given}
use Rattle.vme_line_task.specs.Machine.{line_started_with, line_advance, line_to_do, line_advanced, IsLineBelow}
use Rattle.vme_line_task.specs.Events.{call_of_todo, IsCallBelow, IsTodoBelow}
use Rattle.vme_line_task.proofs.lemmas.Lines.{by_the_given_with}

-- the boards of an attempt are among the first n
abbrev IsAttemptBelow : ℕ → Result Attempt CycleFault → Type 0
IsAttemptBelow n (Ok (Transferring job)) = IsBelow n job
IsAttemptBelow n (Ok (Awaiting job want)) = IsBelow n job
IsAttemptBelow n (Ok (Sharing s)) = length s.map ≡ n
IsAttemptBelow n (Err fault) = Unit {0}

-- the boards of a lawful request are boards of the configuration
transfer_below : (config : Configuration) (board : ℕ) (t : Transfer) → IsBelow (length config.boards) (transfer_job config board t)
transfer_below config board t =
    subst (λ n. IsBelow n (bus_job (entries_of config.boards) (slot_at config board) (level_at config board) t))
    (length-map config.boards (λ one. one.entry))
    (bus_below (entries_of config.boards) (slot_at config board) (level_at config board) t)

-- if the boards of each transfer are among the first n, the boards of a request are
request_below : (n : ℕ) (attempt : Transfer → Attempt) (transfer : Result Transfer CycleFault)
    → ((t : Transfer) → IsAttemptBelow n (Ok (attempt t))) → IsAttemptBelow n (request_attempt attempt transfer)
request_below n attempt (Ok t) each = each t
request_below n attempt (Err fault) each = tt

-- the boards of a request to a lock or a mailbox are boards of the configuration
shared_below : (config : Configuration) (board : ℕ) (request : SharedRequest)
    → IsAttemptBelow (length config.boards) (shared_attempt config board request)
shared_below config board request = by_refusal (shared_refusal request)
  where
    by_refusal : (refusal : Option CycleFault)
        → IsAttemptBelow (length config.boards) (unless_refused (Sharing (shared_job config board request)) refusal)
    by_refusal None = length-map config.boards (λ one. one.entry)
    by_refusal (Some fault) = tt

-- the boards of the attempt at a line are boards of the configuration
attempt_below : (config : Configuration) (board : ℕ) (line : Line) → board < length config.boards
    → IsAttemptBelow (length config.boards) (line_attempt config board line)
attempt_below config board (lines.Bus request) there =
    request_below (length config.boards) (λ t. Transferring (transfer_job config board t)) (transfer_of request) (transfer_below config board)
attempt_below config board (lines.Local cmd) there = there
attempt_below config board (lines.Await am addr bytes) there =
    request_below (length config.boards) (λ t. Awaiting (transfer_job config board t) bytes.items)
    (transfer_of (requests.Read am addr (length bytes.items))) (transfer_below config board)
attempt_below config board (lines.Lock am addr) there = shared_below config board (asked_shared.Lock am addr)
attempt_below config board (lines.Unlock am addr) there = shared_below config board (asked_shared.Unlock am addr)
attempt_below config board (lines.Put box word) there = shared_below config board (asked_shared.Put (mailbox_at config box) word)
attempt_below config board (lines.Take box) there = shared_below config board (asked_shared.Take (mailbox_at config box))

-- a call of a transfer or a local command is that of its task
pub transferring_makes : (next : NextStep Outcome) (call : Call) → transferring_next next ≡ Invokes call → next ≡ Invokes call
transferring_makes next call made = map_makes answers.Transfer next call made

-- a call of a read that waits for bytes is that of its task
pub waits_makes : (want : List ℕ) (next : NextStep Outcome) (call : Call) → awaiting_next want next ≡ Invokes call → next ≡ Invokes call
waits_makes want next call made = map_makes (await_reply want) next call made

-- a call of a lock, an unlock, a put or a take is that of its task
pub shares_makes : (next : NextStep SharedOutcome) (call : Call) → sharing_next next ≡ Invokes call → next ≡ Invokes call
shares_makes next call made = map_makes answers.Shared next call made

-- each board that a job calls is among the first n
job_below : (n : ℕ) (job : Job) (given : Inputs) (call : Call) → IsBelow n job → next_of job given ≡ Invokes call → IsCallBelow n call
job_below n job given (OnBoard board command) below made = job_calls_below n job given board command below made
job_below n job given (OnBus cmd) below made = tt

-- each board that the attempts at a line call is among the first n
lawful_below : (n tries : ℕ) (attempt : Result Attempt CycleFault) (given : Inputs) (call : Call) → IsAttemptBelow n attempt
    → lawful_next tries attempt given ≡ Invokes call → IsCallBelow n call
lawful_below n tries (Ok (Transferring job)) given call below made =
    let g = (attempts_of (Transferring job) tries given).given in
    job_below n job g call below (transferring_makes (next_of job g) call made)
lawful_below n tries (Ok (Awaiting job want)) given call below made =
    let g = (attempts_of (Awaiting job want) tries given).given in
    job_below n job g call below (waits_makes want (next_of job g) call made)
lawful_below n tries (Ok (Sharing s)) given (OnBoard board command) below made =
    let g = (attempts_of (Sharing s) tries given).given in
    subst (λ (m : ℕ). board < m) below (shared_calls_below s g board command (shares_makes (shared_next s g) (OnBoard board command) made))
lawful_below n tries (Ok (Sharing s)) given (OnBus cmd) below made = tt
lawful_below n tries (Err fault) given call below made = absurd cc

-- each board that a line with so many attempts calls is one of the configuration
next_below_with : (config : Configuration) (board tries : ℕ) (line : Line) (given : Inputs) (call : Call) → board < length config.boards
    → next_given_with config board tries line given ≡ Invokes call → IsCallBelow (length config.boards) call
next_below_with config board tries line given call there made =
    lawful_below (length config.boards) tries (line_attempt config board line) given call (attempt_below config board line there) made

-- each board that a line calls is one of the configuration
pub next_below : (config : Configuration) (board : ℕ) (line : Line) (given : Inputs) (call : Call) → board < length config.boards
    → next_given config board line given ≡ Invokes call → IsCallBelow (length config.boards) call
unfolding next_given
next_below config board line given call there made = next_below_with config board config.tries line given call there made

-- a line that starts calls only boards of the configuration
pub started_below : (config : Configuration) (board tries : ℕ) (line : Line) → board < length config.boards
    → IsLineBelow (length config.boards) (line_started_with config board tries line)
unfolding IsLineBelow
started_below config board tries line there = λ given call made.
    next_below_with config board tries line given call there (sym (by_the_given_with config board tries line given) ∙ made)

-- a line that is given one reply and then others is given the list of all of them
after_all : (task : LineTask) (last : Option EventReply) (given : Inputs)
    → line_advanced (line_advance task last) given ≡ line_advanced task (given ++ last ∷ [])
after_all task last [] = refl
after_all task last (next ∷ given) = ap (λ (t : LineTask). line_advance t next) (after_all task last given)

-- a line that is given one more reply, or an absent one, still calls only boards among the first n
pub advance_below : (n : ℕ) (task : LineTask) (last : Option EventReply) → IsLineBelow n task → IsLineBelow n (line_advance task last)
unfolding IsLineBelow
advance_below n task last below = λ given call made.
    below (given ++ last ∷ []) call (sym (ap line_to_do (after_all task last given)) ∙ made)

-- a line that makes its next call on a machine still calls only boards among the first n
pub made_below : (n who : ℕ) (before after : Machine) (task new : LineTask) → AdvancesOn line_to_do line_advance who before after task new
    → IsLineBelow n task → IsLineBelow n new
made_below n who before after task new it below = by (call_in (line_to_do task)) it.step
  where
    by : (call : Option Call) → (after, new) ≡ advanced_on line_advance call who before task → IsLineBelow n new
    by None step = subst (IsLineBelow n) (sym (ap (λ (r : Machine × LineTask). r.1) step)) below
    by (Some call) step =
        subst (IsLineBelow n) (sym (ap (λ (r : Machine × LineTask). r.1) step))
        (advance_below n task (Some (machine_step before who call).1) below)

-- a line's next call goes to the arbiter or to one of the first n boards
pub calls_below : (n : ℕ) (task : LineTask) (call : Call) → IsLineBelow n task → line_to_do task ≡ Invokes call → IsCallBelow n call
unfolding IsLineBelow
calls_below n task call below next = below [] call next

-- the event that a line states as next goes to the arbiter or to one of the first n boards
pub todo_below : (n : ℕ) (task : LineTask) (todo : LineTodo) → IsLineBelow n task → call_of_todo todo ≡ call_in (line_to_do task)
    → IsTodoBelow n todo
todo_below n task (todos.Call (events.Board board cmd)) below next =
    calls_below n task (OnBoard board _) below (in_makes (line_to_do task) (OnBoard board _) next)
todo_below n task (todos.Call (events.Bus cmd)) below next = tt
todo_below n task todos.Ended below next = tt
