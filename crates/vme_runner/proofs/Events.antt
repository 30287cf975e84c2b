-- Each call of a line is the call of an event.
use Rattle.std.proofs.Common.{◌≡◌, ℕ, ◌+◌, ◌*◌, ◌%◌, ◌<◌, length, Option, Some, None, Result, Ok, Err, refl, ap, sym, subst, ◌∙◌}
use Rattle.vme_cycle.specs.declared.fault.CycleFault.{CycleFault}
use Rattle.vme_cycle.specs.declared.request.Request.{Request}
use Rattle.vme_cycle.specs.declared.request.Request.TheVariants as requests
use Rattle.vme_cycle.specs.declared.modify.Modify.{Modify}
use Rattle.vme_cycle.specs.Requests.{addr_of, address_of, count_of, datum_len, function_of}
use Rattle.vme_cycle.specs.SignalLines.{SignalLines}
use Rattle.vme_cycle.specs.Lawful.{Transfer, transfer_of, IsLawfulTransfer}
use Rattle.vme_cycle.specs.Plans.{signals_of}
use Rattle.vme_cycle.proofs.lemmas.Transfers.{transfer_is_lawful}
use Rattle.vme_decode.specs.Select.{selection_at}
use Rattle.vme_decode.proofs.lemmas.Selection.{place_remainder}
use Rattle.vme_memory.specs.declared.command.BoardCmd.{BoardCmd}
use Rattle.vme_memory.specs.declared.command.BoardCmd.TheVariants as given_cmd
use Rattle.vme_memory.specs.Steps.{Command}
use Rattle.vme_memory.specs.Locals.{command_given}
use Rattle.vme_memory.specs.Data.{datum_command}
use Rattle.vme_core.specs.declared.event.Event.{Event}
use Rattle.vme_core.specs.declared.event.Event.TheVariants as events
use Rattle.vme_core.specs.Runs.{Machine, target_of}
use Rattle.vme_core.specs.Calls.{Call, OnBoard, OnBus, call_of}
use Rattle.vme_core.specs.Machines.{IsThere}
use Rattle.vme_core.specs.NextSteps.{Invokes}
use Rattle.vme_master.specs.declared.job.BusJob.{BusJob}
use Rattle.vme_master.specs.declared.job.Job.{Job}
use Rattle.vme_master.specs.Jobs.{bus_job, local_job, datum_call}
use Rattle.vme_master.specs.Tables.{Inputs, data_in, next_of}
use Rattle.vme_master.specs.Laws.{IsNextDatum}
use Rattle.vme_memory.proofs.lemmas.Data.{own_command}
use Rattle.vme_master.proofs.lemmas.ReadLengths.{same_place}
use Rattle.vme_master.proofs.lemmas.Tenures.{data_go_on}
use Rattle.vme_master.proofs.lemmas.Locals.{local_calls}
use Rattle.vme_grammar.specs.declared.line.Line.{Line}
use Rattle.vme_grammar.specs.declared.line.Line.TheVariants as lines
use Rattle.vme_script.specs.Boards.{entries_of}
use Rattle.vme_script.specs.Configurations.{Configuration}
use Rattle.vme_script.specs.Lawful.{IsLawful}
use Rattle.vme_shared.specs.declared.request.SharedRequest.{SharedRequest}
use Rattle.vme_shared.specs.declared.request.SharedRequest.TheVariants as asked_shared
use Rattle.vme_shared.specs.declared.stage.Stage.{Stage}
use Rattle.vme_shared.specs.Mailboxes.{stage_request, shared_refusal}
use Rattle.vme_shared.specs.Tables.{SharedJob, Progress, At, Over, checked_job as shared_transfer, stage_job, progress_of, next_at, shared_next}
use Rattle.vme_shared.proofs.lemmas.Tenures.{shown_makes}
use Rattle.vme_line_task.specs.Scripts.{Attempt, Transferring, Awaiting, Sharing, slot_at, level_at, mailbox_at, transfer_job, request_attempt, unless_refused, shared_job, line_attempt}
use Rattle.vme_line_task.specs.Tables.{attempt_next, attempts_of, lawful_next, next_given}
use Rattle.vme_line_task.proofs.lemmas.Below.{transferring_makes, waits_makes, shares_makes}
use Rattle.vme_line_task.specs.Events.{IsCallBelow}
use Rattle.vme_mailbox_laws.proofs.lemmas.OwnJobs.{OwnJob, own_job}

-- a call has an event
pub record HasEvent (call : Call) : Type 0 where
  pub event : Event
  pub is : call_of event ≡ call

-- the command of a datum's bus cycle, at its place on the board, is the call of that datum
datum_is : (job : BusJob) (place : ℕ × ℕ) (i at : ℕ) (signals : SignalLines) (f : Option Modify) → job.place ≡ Some place
    → at ≡ place.1 + i * datum_len job.transfer.request → signals ≡ signals_of job.transfer i
    → f ≡ function_of job.transfer.request → IsLawfulTransfer job.transfer → i < count_of job.transfer.request
    → place.1 % 4 ≡ addr_of job.transfer.request % 4
    → OnBoard place.0 (command_given (given_cmd.Cycle signals at f)) ≡ datum_call job job.place i
datum_is job place i at signals f placed here shown function lawful less same =
    let aligned : at % 4 ≡ address_of job.transfer.request i % 4 =
    rw here (same_place place.1 (addr_of job.transfer.request) (i * datum_len job.transfer.request) same) in
    let own = own_command job.transfer i at lawful less aligned in
    rw (placed, shown, function) (ap (OnBoard place.0) own ∙ ap (λ n. OnBoard place.0 (Some (datum_command job.transfer.request i n))) here)

-- each call of a lawful transfer on a board is the call of a bus cycle
data_event : (config : Configuration) → IsLawful config → (slot level : ℕ) (t : Transfer) → IsLawfulTransfer t
    → (g : Inputs) (x : ℕ)
    (command : Option Command) → next_of (bus_job (entries_of config.boards) slot level t) g ≡ Invokes (OnBoard x command)
    → HasEvent (OnBoard x command)
data_event config lawful slot level t whole g x command made =
    let j : BusJob =
    record { slot = slot; level = level; transfer = t; place = selection_at (entries_of config.boards) t.am (addr_of t.request) } in
    let datum : IsNextDatum j g x command = data_go_on j g x command made in
    let i = data_in g in
    let at = datum.offset + i * datum_len t.request in
    let remainder = place_remainder (entries_of config.boards) t.am (addr_of t.request) x datum.offset lawful.map datum.placed in
    record {
      event = events.Board x (given_cmd.Cycle (signals_of t i) at (function_of t.request));
      is = datum_is j (x, datum.offset) i at (signals_of t i) (function_of t.request) datum.placed refl refl refl whole datum.more remainder
          ∙ ap (λ place. datum_call j place i) datum.placed ∙ ap (OnBoard x) (sym datum.own);
    }

-- each call of a command to the local port has an event
local_event : (board : ℕ) (cmd : BoardCmd) (g : Inputs) (x : ℕ) (command : Option Command)
    → next_of (local_job board cmd) g ≡ Invokes (OnBoard x command) → HasEvent (OnBoard x command)
local_event board cmd g x command made =
    let own : OnBoard x command ≡ OnBoard board (command_given cmd) = local_calls (record { board = board; cmd = cmd }) g (OnBoard x command) made in
    record { event = events.Board board cmd; is = sym own }

-- each call of a request on a board has an event
lawful_event : (config : Configuration) → IsLawful config
    → (board : ℕ) (request : Request) (transfer : Result Transfer CycleFault)
    (attempt : Transfer → Attempt) (given : Inputs) (x : ℕ) (command : Option Command) → transfer_of request ≡ transfer
    → ((t : Transfer) (g : Inputs) → attempt_next (attempt t) g ≡ Invokes (OnBoard x command)
    → next_of (transfer_job config board t) g ≡ Invokes (OnBoard x command))
    → lawful_next config.tries (request_attempt attempt transfer) given ≡ Invokes (OnBoard x command) → HasEvent (OnBoard x command)
lawful_event config lawful board request (Err fault) attempt given x command is makes made = absurd cc
lawful_event config lawful board request (Ok t) attempt given x command is makes made =
    let g = (attempts_of (attempt t) config.tries given).given in
    data_event config lawful (slot_at config board) (level_at config board) t (transfer_is_lawful request t is) g x command (makes t g made)

-- a call is one of the transfer of a stage of a lock or a mailbox
record IsOfStage (s : SharedJob) (call : Call) : Type 0 where
  stage : Stage
  job : Job
  given : Inputs
  own : stage_job s stage ≡ Ok job
  makes : next_of job given ≡ Invokes call

-- each call of a lock or a mailbox is a call of a stage's transfer
stage_calls : (s : SharedJob) (p : Progress) (call : Call) → OwnJob s p → next_at p ≡ Invokes call → IsOfStage s call
stage_calls s (At stage job given) call own made =
    record { stage = stage; job = job; given = given; own = own; makes = shown_makes (next_of job given) call made }
stage_calls s (Over end) call own made = absurd cc

-- each call of a stage's transfer has an event
stage_event : (config : Configuration) → IsLawful config → (board : ℕ) (request : SharedRequest) (cycle : Request)
    (transfer : Result Transfer CycleFault) (job : Job) (g : Inputs) (x : ℕ) (command : Option Command) → transfer_of cycle ≡ transfer
    → shared_transfer (shared_job config board request) transfer ≡ Ok job → next_of job g ≡ Invokes (OnBoard x command)
    → HasEvent (OnBoard x command)
stage_event config lawful board request cycle (Err fault) job g x command is own made = absurd cc
stage_event config lawful board request cycle (Ok t) job g x command is own made =
    let same : job ≡ transfer_job config board t = sym cc in
    data_event config lawful (slot_at config board) (level_at config board) t (transfer_is_lawful cycle t is) g x command
    (subst (λ (one : Job). next_of one g ≡ Invokes (OnBoard x command)) same made)

-- each call of a lock or a mailbox on a board has an event
shared_event : (config : Configuration) → IsLawful config
    → (board : ℕ) (request : SharedRequest) (refusal : Option CycleFault) (given : Inputs)
    (x : ℕ) (command : Option Command)
    → lawful_next config.tries (unless_refused (Sharing (shared_job config board request)) refusal) given ≡ Invokes (OnBoard x command)
    → HasEvent (OnBoard x command)
shared_event config lawful board request (Some fault) given x command made = absurd cc
shared_event config lawful board request None given x command made =
    let s = shared_job config board request in
    let g = (attempts_of (Sharing s) config.tries given).given in
    let at = stage_calls s (progress_of s g) (OnBoard x command) (own_job s g) (shares_makes (shared_next s g) (OnBoard x command) made) in
    stage_event config lawful board request (stage_request request at.stage) (transfer_of (stage_request request at.stage)) at.job at.given x command
    refl at.own at.makes

-- each call of a line's attempt has an event
line_event : (config : Configuration) → IsLawful config → (board : ℕ) (line : Line) (given : Inputs) (call : Call)
    → lawful_next config.tries (line_attempt config board line) given ≡ Invokes call → HasEvent call
line_event config lawful board line given (OnBus cmd) made = record { event = events.Bus cmd; is = refl }
line_event config lawful board (lines.Bus request) given (OnBoard x command) made =
    lawful_event config lawful board request (transfer_of request) (λ t. Transferring (transfer_job config board t)) given x command refl
    (λ t g makes. transferring_makes (next_of (transfer_job config board t) g) (OnBoard x command) makes) made
line_event config lawful board (lines.Local cmd) given (OnBoard x command) made =
    let g = (attempts_of (Transferring (local_job board cmd)) config.tries given).given in
    local_event board cmd g x command (transferring_makes (next_of (local_job board cmd) g) (OnBoard x command) made)
line_event config lawful board (lines.Await am addr bytes) given (OnBoard x command) made =
    let request = requests.Read am addr (length bytes.items) in
    lawful_event config lawful board request (transfer_of request) (λ t. Awaiting (transfer_job config board t) bytes.items) given x command refl
    (λ t g makes. waits_makes bytes.items (next_of (transfer_job config board t) g) (OnBoard x command) makes) made
line_event config lawful board (lines.Lock am addr) given (OnBoard x command) made =
    shared_event config lawful board (asked_shared.Lock am addr) (shared_refusal (asked_shared.Lock am addr)) given x command made
line_event config lawful board (lines.Unlock am addr) given (OnBoard x command) made =
    shared_event config lawful board (asked_shared.Unlock am addr) (shared_refusal (asked_shared.Unlock am addr)) given x command made
line_event config lawful board (lines.Put box word) given (OnBoard x command) made =
    let request = asked_shared.Put (mailbox_at config box) word in
    shared_event config lawful board request (shared_refusal request) given x command made
line_event config lawful board (lines.Take box) given (OnBoard x command) made =
    let request = asked_shared.Take (mailbox_at config box) in
    shared_event config lawful board request (shared_refusal request) given x command made

-- each call of a line has an event
pub has_event : (config : Configuration) → IsLawful config → (board : ℕ) (line : Line) (given : Inputs) (call : Call)
    → next_given config board line given ≡ Invokes call → HasEvent call
unfolding next_given
has_event config lawful board line given call made = line_event config lawful board line given call made

-- the target of an event exists if its call is to the arbiter or on an existing board
pub event_there : (machine : Machine) (event : Event) (call : Call) → call_of event ≡ call
    → IsCallBelow (length machine.boards) call
    → IsThere machine (target_of event)
event_there machine (events.Board x cmd) call is below = subst (IsCallBelow (length machine.boards)) (sym is) below
event_there machine (events.Bus cmd) call is below = tt
