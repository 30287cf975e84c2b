-- The transfer of each stage of a put or a take is one datum, at its place in the mailbox.
use Rattle.std.proofs.Common.{◌≡◌, ℕ, ◌+◌, ◌*◌, ◌%◌, ◌≤◌, ◌<◌, true, [], ◌∷◌, Some, Result, Ok, Err, refl, ap, sym, subst, ◌∙◌, arith}
use Rattle.std.proofs.lemmas.Bool.{and_from, lt-ltb}
use Rattle.vme_am.specs.Codes.{read_code}
use Rattle.vme_cycle.specs.declared.fault.CycleFault.{CycleFault}
use Rattle.vme_cycle.specs.declared.modify.Modify.TheVariants.{Set}
use Rattle.vme_cycle.specs.declared.request.Request.{Request}
use Rattle.vme_cycle.specs.Functions.{number_bytes}
use Rattle.vme_cycle.specs.Requests.{code_of, addr_of, count_of, datum_len}
use Rattle.vme_cycle.specs.Lawful.{Transfer, transfer_of}
use Rattle.vme_cycle.proofs.lemmas.Transfers.{comes_from}
use Rattle.vme_decode.specs.Select.{selection_at}
use Rattle.vme_memory.specs.Steps.{Command, Read, Write, Modify}
use Rattle.vme_memory.specs.Data.{datum_command}
use Rattle.vme_core.specs.Calls.{OnBoard}
use Rattle.vme_master.specs.declared.expected.ExpectedReply.{ExpectedReply}
use Rattle.vme_master.specs.declared.expected.ExpectedReply.TheVariants as expected_replies
use Rattle.vme_master.specs.declared.job.BusJob.{BusJob}
use Rattle.vme_master.specs.declared.job.Job.{Job}
use Rattle.vme_master.specs.declared.job.Job.TheVariants.{Bus}
use Rattle.vme_master.specs.Jobs.{bus_job, datum_call, request_expected}
use Rattle.vme_shared.specs.MailboxSteps as places
use Rattle.vme_shared.specs.Layout.{mailbox_len}
use Rattle.vme_shared.specs.MailboxSteps.{BoardMailbox, end_of, touches, offset_of, len_of}
use Rattle.vme_shared.proofs.lemmas.Places.{rest_below}
use Rattle.vme_shared.specs.declared.mailbox.Mailbox.{Mailbox}
use Rattle.vme_shared.specs.declared.request.SharedRequest.{SharedRequest}
use Rattle.vme_shared.specs.declared.request.SharedRequest.TheVariants as shared_requests
use Rattle.vme_shared.specs.declared.stage.Stage.{Stage}
use Rattle.vme_shared.specs.declared.stage.Stage.TheVariants.{Locks, ReadsPutCount, ReadsTakeCount, WritesWord, RaisesPutCount, ReadsWord, RaisesTakeCount, Unlocks}
use Rattle.vme_shared.specs.Mailboxes.{raised, mailbox_request, stage_request}
use Rattle.vme_shared.specs.Tables.{SharedJob, stage_job, checked_job}
use Rattle.vme_mailbox_laws.specs.Along.{mailbox_in, LiesAt}

-- the distance of a stage's transfer from the first byte of the mailbox
abbrev pub distance : BoardMailbox → Stage → ℕ
distance m Locks = 0
distance m ReadsPutCount = 4
distance m (ReadsTakeCount p) = 8
distance m (WritesWord p word) = 16 + 4 * (p % m.slots)
distance m (RaisesPutCount p) = 4
distance m (ReadsWord t) = 16 + 4 * (t % m.slots)
distance m (RaisesTakeCount t word) = 8
distance m (Unlocks end) = 0

-- the command of a stage to the board
abbrev pub stage_command : BoardMailbox → Stage → Command
stage_command m Locks = Modify (places.lock_at m) 1 Set
stage_command m ReadsPutCount = Read (places.put_count_at m) 4
stage_command m (ReadsTakeCount p) = Read (places.take_count_at m) 4
stage_command m (WritesWord p word) = Write (places.word_at m p) (number_bytes 4 word)
stage_command m (RaisesPutCount p) = Write (places.put_count_at m) (number_bytes 4 (raised p))
stage_command m (ReadsWord t) = Read (places.word_at m t) 4
stage_command m (RaisesTakeCount t word) = Write (places.take_count_at m) (number_bytes 4 (raised t))
stage_command m (Unlocks end) = Write (places.lock_at m) (0 ∷ [])

-- the reply that a stage expects
abbrev pub stage_expected : Stage → ExpectedReply
stage_expected Locks = expected_replies.Modify 1
stage_expected ReadsPutCount = expected_replies.Read 4
stage_expected (ReadsTakeCount p) = expected_replies.Read 4
stage_expected (WritesWord p word) = expected_replies.Write
stage_expected (RaisesPutCount p) = expected_replies.Write
stage_expected (ReadsWord t) = expected_replies.Read 4
stage_expected (RaisesTakeCount t word) = expected_replies.Write
stage_expected (Unlocks end) = expected_replies.Write

-- the transfer of each stage begins within the mailbox
pub distance_within : (m : BoardMailbox) (stage : Stage) → 1 ≤ m.slots → distance m stage < mailbox_len m.slots
distance_within m Locks some = omega arith
distance_within m ReadsPutCount some = omega arith
distance_within m (ReadsTakeCount p) some = omega arith
distance_within m (WritesWord p word) some = let rest = rest_below p m.slots some in omega arith
distance_within m (RaisesPutCount p) some = omega arith
distance_within m (ReadsWord t) some = let rest = rest_below t m.slots some in omega arith
distance_within m (RaisesTakeCount t word) some = omega arith
distance_within m (Unlocks end) some = omega arith

-- a command with a byte of the mailbox touches it
touches_by : (m : BoardMailbox) (c : Command) → 0 < len_of c → offset_of c < end_of m → m.offset < offset_of c + len_of c → touches m c ≡ true
touches_by m c some before behind =
    and_from _ _ (and_from _ _ (lt-ltb 0 (len_of c) some) (lt-ltb (offset_of c) (end_of m) before)) (lt-ltb m.offset (offset_of c + len_of c) behind)

-- the command of each stage touches the mailbox
pub stage_touches : (m : BoardMailbox) (stage : Stage) → 1 ≤ m.slots → touches m (stage_command m stage) ≡ true
stage_touches m Locks some = touches_by m (stage_command m Locks) (omega arith) (omega arith) (omega arith)
stage_touches m ReadsPutCount some = touches_by m (stage_command m ReadsPutCount) (omega arith) (omega arith) (omega arith)
stage_touches m (ReadsTakeCount p) some = touches_by m (stage_command m (ReadsTakeCount p)) (omega arith) (omega arith) (omega arith)
stage_touches m (WritesWord p word) some =
    let rest = rest_below p m.slots some in touches_by m (stage_command m (WritesWord p word)) (omega arith) (omega arith) (omega arith)
stage_touches m (RaisesPutCount p) some = touches_by m (stage_command m (RaisesPutCount p)) (omega arith) (omega arith) (omega arith)
stage_touches m (ReadsWord t) some =
    let rest = rest_below t m.slots some in touches_by m (stage_command m (ReadsWord t)) (omega arith) (omega arith) (omega arith)
stage_touches m (RaisesTakeCount t word) some = touches_by m (stage_command m (RaisesTakeCount t word)) (omega arith) (omega arith) (omega arith)
stage_touches m (Unlocks end) some = touches_by m (stage_command m (Unlocks end)) (omega arith) (omega arith) (omega arith)

-- the request of a stage of a mailbox
pub record Shape (mailbox : Mailbox) (m : BoardMailbox) (stage : Stage) (request : Request) : Type 0 where
  pub code : code_of request ≡ mailbox.am
  pub addr : addr_of request ≡ mailbox.addr + distance m stage
  pub count : count_of request ≡ 1
  pub expected : request_expected request ≡ stage_expected stage
  pub own : datum_command request 0 (m.offset + distance m stage) ≡ stage_command m stage

-- the request of each stage has the stage's place, datum and expected reply
pub shape : (mailbox : Mailbox) (m : BoardMailbox) (stage : Stage) → m.slots ≡ mailbox.slots → Shape mailbox m stage (mailbox_request mailbox stage)
shape mailbox m Locks slots =
    let here : m.offset + 0 ≡ m.offset = omega arith in
    record { code = refl; addr = omega arith; count = refl; expected = refl; own = ap (λ a. Modify a 1 Set) here }
shape mailbox m ReadsPutCount slots = record { code = refl; addr = refl; count = refl; expected = refl; own = refl }
shape mailbox m (ReadsTakeCount p) slots = record { code = refl; addr = refl; count = refl; expected = refl; own = refl }
shape mailbox m (WritesWord p word) slots =
    let same : p % mailbox.slots ≡ p % m.slots = ap (λ n. p % n) (sym slots) in
    let here : m.offset + (16 + 4 * (p % m.slots)) ≡ places.word_at m p = omega arith in
    record { code = refl; addr = omega arith; count = refl; expected = refl; own = ap (λ a. Write a (number_bytes 4 word)) here }
shape mailbox m (RaisesPutCount p) slots = record { code = refl; addr = refl; count = refl; expected = refl; own = refl }
shape mailbox m (ReadsWord t) slots =
    let same : t % mailbox.slots ≡ t % m.slots = ap (λ n. t % n) (sym slots) in
    let here : m.offset + (16 + 4 * (t % m.slots)) ≡ places.word_at m t = omega arith in
    record { code = refl; addr = omega arith; count = refl; expected = refl; own = ap (λ a. Read a 4) here }
shape mailbox m (RaisesTakeCount t word) slots = record { code = refl; addr = refl; count = refl; expected = refl; own = refl }
shape mailbox m (Unlocks end) slots =
    let here : m.offset + 0 ≡ m.offset = omega arith in
    record { code = refl; addr = omega arith; count = refl; expected = refl; own = ap (λ a. Write a (0 ∷ [])) here }

-- a stage of a put or a take is a stage of its mailbox
pub own_request : (request : SharedRequest) (mailbox : Mailbox) (stage : Stage) → mailbox_in request ≡ Some mailbox
    → stage_request request stage ≡ mailbox_request mailbox stage
own_request (shared_requests.Lock am addr) mailbox stage is = absurd cc
own_request (shared_requests.Unlock am addr) mailbox stage is = absurd cc
own_request (shared_requests.Put own word) mailbox stage is = let same : own ≡ mailbox = cc in ap (λ o. mailbox_request o stage) same
own_request (shared_requests.Take own) mailbox stage is = let same : own ≡ mailbox = cc in ap (λ o. mailbox_request o stage) same

-- a bus job of one datum, which sends the command of a stage to the board of the mailbox
pub record IsStage (m : BoardMailbox) (board : ℕ) (stage : Stage) (job : Job) : Type 0 where
  pub bus : BusJob
  pub is : job ≡ Bus bus
  pub one : count_of bus.transfer.request ≡ 1
  pub place : ℕ × ℕ
  pub placed : bus.place ≡ Some place
  pub datum : datum_call bus bus.place 0 ≡ OnBoard board (Some (stage_command m stage))
  pub expected : request_expected bus.transfer.request ≡ stage_expected stage

-- the bus job of a lawful transfer with the shape of a stage satisfies `IsStage`
by_transfer : (s : SharedJob) (mailbox : Mailbox) (board : ℕ) (m : BoardMailbox) (stage : Stage) (request : Request) (t : Transfer)
    → 1 ≤ m.slots → LiesAt s.map mailbox board m → Shape mailbox m stage request → transfer_of request ≡ Ok t
    → IsStage m board stage (bus_job s.map s.slot s.level t)
by_transfer s mailbox board m stage request t some lies form lawful =
    let from = comes_from request t lawful in
    let row : read_code mailbox.am ≡ Ok t.am = ap read_code (sym form.code) ∙ from.row in
    let there : selection_at s.map t.am (addr_of t.request) ≡ Some (board, m.offset + distance m stage) =
    ap (λ r. selection_at s.map t.am (addr_of r)) from.same ∙ ap (selection_at s.map t.am) form.addr
    ∙ lies.each t.am (distance m stage) row (distance_within m stage some) in
    let here : m.offset + distance m stage + 0 * datum_len t.request ≡ m.offset + distance m stage = omega arith in
    record {
      bus = record { slot = s.slot; level = s.level; transfer = t; place = selection_at s.map t.am (addr_of t.request) };
      is = refl;
      one = ap count_of from.same ∙ form.count;
      place = (board, m.offset + distance m stage);
      placed = there;
      datum = rw there
          (ap (λ c. OnBoard board (Some c))
          (ap (λ a. datum_command t.request 0 a) here ∙ ap (λ r. datum_command r 0 (m.offset + distance m stage)) from.same ∙ form.own));
      expected = ap request_expected from.same ∙ form.expected;
    }

-- the bus job of a request with the shape of a stage, if it is not refused, satisfies `IsStage`
by_result : (s : SharedJob) (mailbox : Mailbox) (board : ℕ) (m : BoardMailbox) (stage : Stage) (request : Request) (job : Job)
    (result : Result Transfer CycleFault) → 1 ≤ m.slots → LiesAt s.map mailbox board m → Shape mailbox m stage request → transfer_of request ≡ result
    → checked_job s result ≡ Ok job → IsStage m board stage job
by_result s mailbox board m stage request job (Ok t) some lies form is made =
    let same : bus_job s.map s.slot s.level t ≡ job = cc in
    subst (λ j. IsStage m board stage j) same (by_transfer s mailbox board m stage request t some lies form is)
by_result s mailbox board m stage request job (Err fault) some lies form is made = absurd cc

-- the bus job of each stage of a put or a take satisfies `IsStage`
pub is_stage : (s : SharedJob) (mailbox : Mailbox) (board : ℕ) (m : BoardMailbox) (stage : Stage) (job : Job)
    → 1 ≤ m.slots → mailbox_in s.request ≡ Some mailbox → LiesAt s.map mailbox board m → stage_job s stage ≡ Ok job → IsStage m board stage job
is_stage s mailbox board m stage job some is lies made =
    let own = own_request s.request mailbox stage is in
    by_result s mailbox board m stage (stage_request s.request stage) job (transfer_of (stage_request s.request stage)) some lies
    (subst (λ r. Shape mailbox m stage r) (sym own) (shape mailbox m stage lies.slots)) refl made
