-- Each command to a board is the datum of its stage's transfer, whatever the replies are.
use Rattle.std.proofs.Common.{◌≡◌, ℕ, ◌+◌, ◌*◌, ◌≤◌, true, [], ◌∷◌, Option, Some, None, Result, Ok, Err, refl, ap, sym, subst, ◌∙◌, arith}
use Rattle.vme_am.specs.Codes.{CodeRow, read_code}
use Rattle.vme_cycle.specs.declared.fault.CycleFault.{CycleFault}
use Rattle.vme_cycle.specs.declared.modify.Modify.TheVariants.{Set}
use Rattle.vme_cycle.specs.declared.request.Request.{Request}
use Rattle.vme_cycle.specs.Requests.{code_of, addr_of, count_of, datum_len}
use Rattle.vme_cycle.specs.Lawful.{Transfer, transfer_of}
use Rattle.vme_cycle.proofs.lemmas.Transfers.{comes_from}
use Rattle.vme_decode.specs.Select.{selection_at}
use Rattle.vme_memory.specs.declared.reply.Reply.TheVariants.{Berr}
use Rattle.vme_memory.specs.Boards.{Board}
use Rattle.vme_memory.specs.Steps.{Command, Write, Modify}
use Rattle.vme_memory.specs.Data.{datum_command}
use Rattle.vme_memory.proofs.lemmas.Data.{reply_form}
use Rattle.vme_core.specs.declared.event.EventReply.{EventReply}
use Rattle.vme_core.specs.declared.event.EventReply.TheVariants as replies
use Rattle.vme_core.specs.Calls.{OnBoard, command_step}
use Rattle.vme_core.specs.NextSteps.{NextStep, NotStarted, Invokes, Returns}
use Rattle.vme_master.specs.declared.outcome.Outcome.{Outcome}
use Rattle.vme_master.specs.declared.job.BusJob.{BusJob}
use Rattle.vme_master.specs.declared.job.Job.{Job}
use Rattle.vme_master.specs.Jobs.{bus_job}
use Rattle.vme_master.specs.Tables.{Inputs, data_in, next_of}
use Rattle.vme_master.proofs.lemmas.Tenures.{data_go_on}
use Rattle.vme_shared.specs.MailboxSteps.{BoardMailbox, LiesIn, touches}
use Rattle.vme_shared.specs.declared.mailbox.Mailbox.{Mailbox}
use Rattle.vme_shared.specs.declared.request.SharedRequest.{SharedRequest}
use Rattle.vme_shared.specs.declared.request.SharedRequest.TheVariants as shared_requests
use Rattle.vme_shared.specs.declared.stage.Stage.{Stage}
use Rattle.vme_shared.specs.declared.stage.StageResult.{StageResult}
use Rattle.vme_shared.specs.declared.stage.StageResult.TheVariants.{Continue, Finish}
use Rattle.vme_shared.specs.Mailboxes.{mailbox_request, stage_request, set_lock, clear_lock}
use Rattle.vme_shared.specs.Steps.{first_stage, step_after}
use Rattle.vme_shared.specs.Tables.{SharedJob, Progress, At, Over, checked_job, stage_job, stage_begun, step_begun, progress_by, progress_given, progress_of, next_at, shared_next}
use Rattle.vme_shared.proofs.lemmas.Tenures.{shown_makes}
use Rattle.vme_mailbox_laws.specs.Along.{mailbox_in, LiesAt, UsesMailbox, IsGood, GoesTo}
use Rattle.vme_mailbox_laws.proofs.Stages.{shape, own_request, distance, distance_within, stage_command, stage_touches}
use Rattle.vme_mailbox_laws.proofs.Courses.{some_slot}
use Rattle.vme_mailbox_laws.proofs.Answers.{stage_answered}
use Rattle.vme_mailbox_laws.proofs.lemmas.OwnJobs.{OwnJob, own_job}

-- the one datum of a request goes to the board that its address selects
record Sent (s : SharedJob) (request : Request) (x : ℕ) (command : Option Command) : Type 0 where
  code : CodeRow
  row : read_code (code_of request) ≡ Ok code
  offset : ℕ
  selected : selection_at s.map code (addr_of request) ≡ Some (x, offset)
  own : command ≡ Some (datum_command request 0 offset)

-- the command of a bus job with one datum is that datum, at the selected board and offset
sent_by : (s : SharedJob) (request : Request) (t : Transfer) (g : Inputs) (x : ℕ) (command : Option Command) → count_of request ≡ 1
    → transfer_of request ≡ Ok t → next_of (bus_job s.map s.slot s.level t) g ≡ Invokes (OnBoard x command) → Sent s request x command
sent_by s request t g x command one lawful makes =
    let from = comes_from request t lawful in
    let bus : BusJob = record { slot = s.slot; level = s.level; transfer = t; place = selection_at s.map t.am (addr_of t.request) } in
    let next = data_go_on bus g x command makes in
    let count : count_of t.request ≡ 1 = ap count_of from.same ∙ one in
    let none : data_in g ≡ 0 = let more = next.more in omega arith in
    let here : next.offset + 0 * datum_len t.request ≡ next.offset = omega arith in
    record {
      code = t.am;
      row = from.row;
      offset = next.offset;
      selected = ap (λ r. selection_at s.map t.am (addr_of r)) (sym from.same) ∙ next.placed;
      own = next.own
          ∙ ap (λ i. Some (datum_command t.request i (next.offset + i * datum_len t.request))) none
          ∙ ap (λ a. Some (datum_command t.request 0 a)) here
          ∙ ap (λ r. Some (datum_command r 0 next.offset)) from.same;
    }

-- the command of a bus job for a request with one datum is that datum
sent_in : (s : SharedJob) (request : Request) (result : Result Transfer CycleFault) (job : Job) (g : Inputs) (x : ℕ) (command : Option Command)
    → count_of request ≡ 1 → transfer_of request ≡ result → checked_job s result ≡ Ok job → next_of job g ≡ Invokes (OnBoard x command)
    → Sent s request x command
sent_in s request (Ok t) job g x command one is made makes =
    let same : job ≡ bus_job s.map s.slot s.level t = cc in
    sent_by s request t g x command one is (ap (λ j. next_of j g) (sym same) ∙ makes)
sent_in s request (Err fault) job g x command one is made makes = absurd cc

-- each transfer has one datum
single : (request : SharedRequest) (stage : Stage) → count_of (stage_request request stage) ≡ 1
single (shared_requests.Lock am addr) stage = refl
single (shared_requests.Unlock am addr) stage = refl
single (shared_requests.Put mailbox word) stage = (shape mailbox (record { offset = 0; slots = mailbox.slots }) stage refl).count
single (shared_requests.Take mailbox) stage = (shape mailbox (record { offset = 0; slots = mailbox.slots }) stage refl).count

-- at each progress the command to a board is the datum of a stage
sent_at : (s : SharedJob) (progress : Progress) (x : ℕ) (command : Option Command) → OwnJob s progress → next_at progress ≡ Invokes (OnBoard x command)
    → (stage : Stage) × Sent s (stage_request s.request stage) x command
sent_at s (At stage job g) x command own makes = (
  stage,
  sent_in s (stage_request s.request stage) (transfer_of (stage_request s.request stage)) job g x command (single s.request stage) refl own
      (shown_makes (next_of job g) (OnBoard x command) makes),
)
sent_at s (Over end) x command own makes = absurd cc

-- each command to a board is the datum of a stage
sent : (s : SharedJob) (given : Inputs) (x : ℕ) (command : Option Command) → shared_next s given ≡ Invokes (OnBoard x command)
    → (stage : Stage) × Sent s (stage_request s.request stage) x command
sent s given x command makes = sent_at s (progress_of s given) x command (own_job s given) makes

-- equal options of a place have equal places
same_place : (p q : ℕ × ℕ) → Some p ≡ Some q → p ≡ q
same_place p q same = cc

-- a command of a mailbox's stage goes to the mailbox's board
mailbox_sent : (s : SharedJob) (mailbox : Mailbox) (board x : ℕ) (m : BoardMailbox) (stage : Stage) (command : Option Command)
    → LiesAt s.map mailbox board m → 1 ≤ m.slots → Sent s (mailbox_request mailbox stage) x command
    → (x ≡ board) × (command ≡ Some (stage_command m stage))
mailbox_sent s mailbox board x m stage command lies some out =
    let form = shape mailbox m stage lies.slots in
    let row : read_code mailbox.am ≡ Ok out.code = ap read_code (sym form.code) ∙ out.row in
    let there = lies.each out.code (distance m stage) row (distance_within m stage some) in
    let place : Some (x, out.offset) ≡ Some (board, m.offset + distance m stage) =
    sym out.selected ∙ ap (selection_at s.map out.code) form.addr ∙ there in
    let same = same_place (x, out.offset) (board, m.offset + distance m stage) place in
    let at : out.offset ≡ m.offset + distance m stage = ap (λ p. p.1) same in
    (ap (λ p. p.0) same, out.own ∙ ap (λ a. Some (datum_command (mailbox_request mailbox stage) 0 a)) at ∙ ap Some form.own)

-- the board of the mailbox gets the commands of the stages
pub stage_commands : (s : SharedJob) (given : Inputs) (mailbox : Mailbox) (board x : ℕ) (m : BoardMailbox) (command : Option Command)
    → mailbox_in s.request ≡ Some mailbox → LiesAt s.map mailbox board m → 1 ≤ m.slots
    → shared_next s given ≡ Invokes (OnBoard x command)
    → (x ≡ board) × ((stage : Stage) × (command ≡ Some (stage_command m stage)))
stage_commands s given mailbox board x m command asks lies some makes =
    let out = sent s given x command makes in
    let own = own_request s.request mailbox out.0 asks in
    let is = mailbox_sent s mailbox board x m out.0 command lies some (subst (λ r. Sent s r x command) own out.1) in
    (is.0, (out.0, is.1))

-- the board of the mailbox that is used gets the commands of the stages
pub commands : (s : SharedJob) (given : Inputs) (board x : ℕ) (m : BoardMailbox) (command : Option Command) → UsesMailbox s board m
    → shared_next s given ≡ Invokes (OnBoard x command) → (x ≡ board) × ((stage : Stage) × (command ≡ Some (stage_command m stage)))
commands s given board x m command uses makes =
    stage_commands s given uses.mailbox board x m command uses.asked uses.lies (some_slot s board m uses) makes

-- each command to a board goes to the board of the mailbox that is used and touches the mailbox
pub touching : (s : SharedJob) (given : Inputs) (board x : ℕ) (m : BoardMailbox) (command : Option Command) → UsesMailbox s board m
    → shared_next s given ≡ Invokes (OnBoard x command) → (x ≡ board) × ((c : Command) × (command ≡ Some c) × (touches m c ≡ true))
touching s given board x m command uses makes =
    let own = commands s given board x m command uses makes in
    (own.0, (stage_command m own.1.0, own.1.1, stage_touches m own.1.0 (some_slot s board m uses)))

-- the board of the mailbox gives good replies
pub answered : (s : SharedJob) (given : Inputs) (board x : ℕ) (m : BoardMailbox) (command : Option Command) (memory : Board) → UsesMailbox s board m
    → LiesIn memory m → shared_next s given ≡ Invokes (OnBoard x command)
    → IsGood (shared_next s given) (Some (replies.Board (command_step memory command).1))
answered s given board x m command memory uses lies makes =
    let own = commands s given board x m command uses makes in
    let fine : IsGood (Invokes (OnBoard x (Some (stage_command m own.1.0)))) (Some (replies.Board (command_step memory (Some (stage_command m own.1.0))).1)) = (
      reply_form memory (stage_command m own.1.0),
      λ error. let berr : (command_step memory (Some (stage_command m own.1.0))).1 ≡ Berr = cc in stage_answered memory m lies own.1.0 berr,
      λ denied. absurd cc,
    ) in
    rw makes (rw own.1.1 fine)

-- each command of a lock is the read-modify-write that sets it
pub taken : (s : SharedJob) (given : Inputs) (am addr board : ℕ) (command : Option Command) → s.request ≡ shared_requests.Lock am addr
    → shared_next s given ≡ Invokes (OnBoard board command) → GoesTo s.map am addr board (λ offset. Modify offset 1 Set) command
taken s given am addr board command is makes =
    let out = sent s given board command makes in
    let own : Sent s (set_lock am addr) board command = subst (λ r. Sent s (stage_request r out.0) board command) is out.1 in
    record { code = own.code; row = own.row; offset = own.offset; selected = own.selected; own = own.own }

-- each command of an unlock is the write that clears the lock
pub lock_cleared : (s : SharedJob) (given : Inputs) (am addr board : ℕ) (command : Option Command) → s.request ≡ shared_requests.Unlock am addr
    → shared_next s given ≡ Invokes (OnBoard board command) → GoesTo s.map am addr board (λ offset. Write offset (0 ∷ [])) command
lock_cleared s given am addr board command is makes =
    let out = sent s given board command makes in
    let own : Sent s (clear_lock am addr) board command = subst (λ r. Sent s (stage_request r out.0) board command) is out.1 in
    record { code = own.code; row = own.row; offset = own.offset; selected = own.selected; own = own.own }
