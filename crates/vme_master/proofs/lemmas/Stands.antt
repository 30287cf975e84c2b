-- The machine of a task follows the table: its fields match what it was given.
use Rattle.std.proofs.Common.{◌≡◌, ℕ, zero, suc, ◌+◌, true, false, List, [], ◌∷◌, ◌++◌, Option, Some, None, refl, ap, sym, ◌∙◌, inl, inr, ◌⊎◌}
use Rattle.std.specs.Prelude.{nat_lt, is_some}
use Rattle.std.proofs.lemmas.Bool.{cases_Bool}
use Rattle.std.proofs.lemmas.List.{append-nil}
use Rattle.vme_cycle.specs.Requests.{count_of}
use Rattle.vme_memory.specs.declared.reply.Reply.{Reply}
use Rattle.vme_memory.specs.declared.reply.Reply.TheVariants.{Bytes, Done, Berr}
use Rattle.vme_memory.specs.Data.{has_form}
use Rattle.vme_arbiter.specs.declared.command.ArbReply.{ArbReply}
use Rattle.vme_arbiter.specs.declared.command.ArbReply.TheVariants as arb_replies
use Rattle.vme_core.specs.declared.event.EventReply.{EventReply}
use Rattle.vme_core.specs.declared.event.EventReply.TheVariants as replies
use Rattle.vme_core.specs.NextSteps.{Invokes, Returns}
use Rattle.vme_master.specs.declared.job.BusJob.{BusJob}
use Rattle.vme_master.specs.declared.job.LocalJob.{LocalJob}
use Rattle.vme_master.specs.declared.job.Job.{Job}
use Rattle.vme_master.specs.declared.job.Job.TheVariants.{Bus, Local}
use Rattle.vme_master.specs.declared.phase.Phase.{Phase}
use Rattle.vme_master.specs.declared.phase.Phase.TheVariants.{New, Requesting, Polling, Transferring, Releasing, Finished, Denied}
use Rattle.vme_master.specs.declared.outcome.Outcome.TheVariants as outcomes
use Rattle.vme_master.specs.Jobs.{ask_call, look_call, done_call, datum_call, local_call, fits_call, request_expected, expected_outcome, error_outcome}
use Rattle.vme_master.specs.Tables.{Inputs, data_in, bytes_in, datum_or_done, outcome_by, next_of}
use Rattle.vme_master.specs.Machine.{TaskView, job_expected, expected_len, end_outcome, datum_phase, phase_answered, phase_replied, bytes_of, task_after, task_given, job_next, to_do}
use Rattle.vme_master.proofs.lemmas.Expected.{datum_len_wanted, local_len_wanted}

-- no datum was answered yet
record Idle (read : List ℕ) (given : Inputs) : Type 0 where
  none : data_in given ≡ 0
  empty : read ≡ []
  bytes : bytes_in given ≡ []

-- the fields of a transfer fit what it was given
abbrev BusFacts : BusJob → Phase → List ℕ → Inputs → Type 0
BusFacts j New read g = (g ≡ []) × (read ≡ [])
BusFacts j Requesting read g = (next_of (Bus j) g ≡ Invokes (ask_call j)) × Idle read g
BusFacts j Polling read g = (next_of (Bus j) g ≡ Invokes (look_call j)) × Idle read g
BusFacts j (Transferring i) read g =
    (next_of (Bus j) g ≡ Invokes (datum_call j j.place i)) × (is_some j.place ≡ true) × (i ≡ data_in g) × (read ≡ bytes_in g)
BusFacts j (Releasing berr) read g =
    (next_of (Bus j) g ≡ Invokes (done_call j)) × (end_outcome (job_expected (Bus j)) berr read ≡ outcome_by j j.place g)
BusFacts j (Finished berr) read g = next_of (Bus j) g ≡ Returns (end_outcome (job_expected (Bus j)) berr read)
BusFacts j Denied read g = next_of (Bus j) g ≡ Returns outcomes.Denied

-- the fields of a local command fit what it was given
abbrev LocalFacts : LocalJob → Phase → List ℕ → Inputs → Type 0
LocalFacts j New read g = (g ≡ []) × (read ≡ [])
LocalFacts j (Transferring i) read g = (next_of (Local j) g ≡ Invokes (local_call j)) × (i ≡ 0) × (read ≡ [])
LocalFacts j (Finished berr) read g = next_of (Local j) g ≡ Returns (end_outcome (job_expected (Local j)) berr read)
LocalFacts j Denied read g = next_of (Local j) g ≡ Returns outcomes.Denied
LocalFacts j phase read g = ⊥

-- the fields of a job fit what it was given
abbrev Facts : Job → Phase → List ℕ → Inputs → Type 0
Facts (Bus j) phase read g = BusFacts j phase read g
Facts (Local j) phase read g = LocalFacts j phase read g

-- a task by its parts
abbrev task : Job → Phase → List ℕ → TaskView
task job phase read = record { job = job; phase = phase; read = read }

-- after what was given, datum i or the release is next, and the numbers of data and of bytes are the task's
record LeadsOn (j : BusJob) (i : ℕ) (read : List ℕ) (g : Inputs) : Type 0 where
  next : next_of (Bus j) g ≡ Invokes (datum_or_done j i)
  count : i ≡ data_in g
  bytes : read ≡ bytes_in g
  whole : (p : ℕ × ℕ) → outcome_by j (Some p) g ≡ expected_outcome (request_expected j.transfer.request) (bytes_in g)

-- the fields fit in the phase at datum i if a board is selected
leads_there : (j : BusJob) (p : ℕ × ℕ) (i : ℕ) (read : List ℕ) (g : Inputs) → j.place ≡ Some p → LeadsOn j i read g
    → BusFacts j (datum_phase j (Some p) i) read g
leads_there j p i read g placed leads =
    elim (cases_Bool (nat_lt i (count_of j.transfer.request))) [
      | inl less ↦
          let here : next_of (Bus j) g ≡ Invokes (datum_call j j.place i) = leads.next ∙ rw less refl in
          let some : is_some j.place ≡ true = rw placed refl in
          rw less (here, some, leads.count, leads.bytes)
      | inr past ↦
          let here : next_of (Bus j) g ≡ Invokes (done_call j) = leads.next ∙ rw past refl in
          let end : expected_outcome (request_expected j.transfer.request) read ≡ outcome_by j j.place g =
          ap (expected_outcome (request_expected j.transfer.request)) leads.bytes ∙ sym (leads.whole p) ∙ ap (λ q. outcome_by j q g) (sym placed) in
          rw past (here, end)
    ]

-- the fields fit in the phase at datum i if no board is selected
leads_nowhere : (j : BusJob) (i : ℕ) (read : List ℕ) (g : Inputs) → j.place ≡ None → read ≡ [] → LeadsOn j i read g
    → BusFacts j (datum_phase j None i) read g
leads_nowhere j i read g placed empty leads =
    let here : next_of (Bus j) g ≡ Invokes (done_call j) =
    leads.next ∙ elim (cases_Bool (nat_lt i (count_of j.transfer.request))) [ inl less ↦ rw (less, placed) refl | inr past ↦ rw past refl ] in
    (here, rw (placed, empty) refl)

-- the fields fit in the phase at datum i, with or without a board
leads_on : (j : BusJob) (place : Option (ℕ × ℕ)) (i : ℕ) (read : List ℕ) (g : Inputs) → j.place ≡ place
    → (is_some place ≡ true) ⊎ (read ≡ []) → LeadsOn j i read g → BusFacts j (datum_phase j place i) read g
leads_on j (Some p) i read g placed why leads = leads_there j p i read g placed leads
leads_on j None i read g placed (inl some) leads = absurd cc
leads_on j None i read g placed (inr empty) leads = leads_nowhere j i read g placed empty leads

-- the fields fit in the phase after a grant
granted : (j : BusJob) (read : List ℕ) (g : Inputs) → Idle read g
    → next_of (Bus j) (Some (replies.Bus arb_replies.Granted) ∷ g) ≡ Invokes (datum_or_done j 0)
    → BusFacts j (datum_phase j j.place 0) read (Some (replies.Bus arb_replies.Granted) ∷ g)
granted j read g idle next =
    leads_on j j.place 0 read (Some (replies.Bus arb_replies.Granted) ∷ g) refl (inr idle.empty)
    (record { next = next; count = sym idle.none; bytes = idle.empty ∙ sym idle.bytes; whole = λ p. refl })

-- the fields fit in the phase after the arbiter's reply to a request or a poll
bus_reported : (j : BusJob) (read : List ℕ) (g : Inputs) (reply : ArbReply) → Idle read g
    → ((next_of (Bus j) g ≡ Invokes (ask_call j)) ⊎ (next_of (Bus j) g ≡ Invokes (look_call j)))
    → BusFacts j (phase_answered (Bus j) reply) read (Some (replies.Bus reply) ∷ g)
bus_reported j read g arb_replies.Granted idle (inl asks) = granted j read g idle (rw asks refl)
bus_reported j read g arb_replies.Granted idle (inr looks) = granted j read g idle (rw looks refl)
bus_reported j read g arb_replies.Waiting idle (inl asks) = (rw asks refl, record { none = idle.none; empty = idle.empty; bytes = idle.bytes })
bus_reported j read g arb_replies.Waiting idle (inr looks) = (rw looks refl, record { none = idle.none; empty = idle.empty; bytes = idle.bytes })
bus_reported j read g arb_replies.Freed idle (inl asks) = rw asks refl
bus_reported j read g arb_replies.Freed idle (inr looks) = rw looks refl
bus_reported j read g arb_replies.Denied idle (inl asks) = rw asks refl
bus_reported j read g arb_replies.Denied idle (inr looks) = rw looks refl

-- a board's reply fits a datum's call by its form alone
datum_fits : (j : BusJob) (place : Option (ℕ × ℕ)) (i : ℕ) (reply : Reply) → is_some place ≡ true
    → fits_call (datum_call j place i) (replies.Board reply) ≡ has_form (expected_len (job_expected (Bus j))) reply
datum_fits j None i reply some = absurd cc
datum_fits j (Some p) i reply some = ap (λ wanted. has_form wanted reply) (datum_len_wanted j.transfer.request i _)

-- the arbiter's reply never fits a datum's call
datum_unreported : (j : BusJob) (place : Option (ℕ × ℕ)) (i : ℕ) (reply : ArbReply) → is_some place ≡ true
    → fits_call (datum_call j place i) (replies.Bus reply) ≡ false
datum_unreported j None i reply some = absurd cc
datum_unreported j (Some p) i reply some = refl

-- the outcome at the release after a bus error has the number of data and the bytes before it
broken : (j : BusJob) (place : Option (ℕ × ℕ)) (i : ℕ) (read : List ℕ) (g : Inputs) → is_some place ≡ true → i ≡ data_in g
    → read ≡ bytes_in g → error_outcome i read ≡ outcome_by j place (Some (replies.Board Berr) ∷ g)
broken j None i read g some count bytes = absurd cc
broken j (Some p) i read g some count bytes = rw (count, bytes) refl

-- the fields of a transfer fit after a board's reply of the expected form
bus_replied : (j : BusJob) (i : ℕ) (read : List ℕ) (g : Inputs) (reply : Reply) → BusFacts j (Transferring i) read g
    → has_form (expected_len (job_expected (Bus j))) reply ≡ true
    → BusFacts j (phase_replied (Bus j) i reply) (read ++ bytes_of reply) (Some (replies.Board reply) ∷ g)
bus_replied j i read g (Bytes datum) facts form =
    let fit : fits_call (datum_call j j.place i) (replies.Board (Bytes datum)) ≡ true = datum_fits j j.place i (Bytes datum) facts.1 ∙ form in
    leads_on j j.place (i + 1) (read ++ datum.items) (Some (replies.Board (Bytes datum)) ∷ g) refl (inl facts.1)
    (record {
      next = rw (facts.0, fit) (ap (λ n. Invokes (datum_or_done j (n + 1))) (sym facts.2));
      count = ap (λ n. n + 1) facts.2;
      bytes = ap (λ bytes. bytes ++ datum.items) facts.3;
      whole = λ p. refl;
    })
bus_replied j i read g Done facts form =
    let fit : fits_call (datum_call j j.place i) (replies.Board Done) ≡ true = datum_fits j j.place i Done facts.1 ∙ form in
    leads_on j j.place (i + 1) (read ++ []) (Some (replies.Board Done) ∷ g) refl (inl facts.1)
    (record {
      next = rw (facts.0, fit) (ap (λ n. Invokes (datum_or_done j (n + 1))) (sym facts.2));
      count = ap (λ n. n + 1) facts.2;
      bytes = append-nil read ∙ facts.3;
      whole = λ p. refl;
    })
bus_replied j i read g Berr facts form =
    let fit : fits_call (datum_call j j.place i) (replies.Board Berr) ≡ true = datum_fits j j.place i Berr facts.1 ∙ form in
    (rw (facts.0, fit) refl, broken j j.place i (read ++ []) g facts.1 facts.2 (append-nil read ∙ facts.3))

-- the fields of a transfer fit after any reply of a board
bus_answered : (j : BusJob) (i : ℕ) (read : List ℕ) (g : Inputs) (reply : Reply) → BusFacts j (Transferring i) read g
    → BusFacts j (task_after (task (Bus j) (Transferring i) read) (Transferring i) (Some (replies.Board reply))).phase
    (task_after (task (Bus j) (Transferring i) read) (Transferring i) (Some (replies.Board reply))).read (Some (replies.Board reply) ∷ g)
bus_answered j i read g reply facts =
    elim (cases_Bool (has_form (expected_len (job_expected (Bus j))) reply)) [
      | inl form ↦ rw form (bus_replied j i read g reply facts form)
      | inr misfit ↦
          let unfit : fits_call (datum_call j j.place i) (replies.Board reply) ≡ false = datum_fits j j.place i reply facts.1 ∙ misfit in
          rw misfit (rw (facts.0, unfit) refl)
    ]

-- the fields of a transfer fit after one more reply
bus_step : (j : BusJob) (phase : Phase) (read : List ℕ) (g : Inputs) (last : Option EventReply) → BusFacts j phase read g
    → BusFacts j (task_after (task (Bus j) phase read) phase last).phase (task_after (task (Bus j) phase read) phase last).read (last ∷ g)
bus_step j New read g None facts = (rw facts.0 refl, record { none = ap data_in facts.0; empty = facts.1; bytes = ap bytes_in facts.0 })
bus_step j New read g (Some reply) facts = rw facts.0 refl
bus_step j Requesting read g None facts = rw facts.0 refl
bus_step j Requesting read g (Some (replies.Bus reply)) facts = bus_reported j read g reply facts.1 (inl facts.0)
bus_step j Requesting read g (Some (replies.Board reply)) facts = rw facts.0 refl
bus_step j Polling read g None facts = rw facts.0 refl
bus_step j Polling read g (Some (replies.Bus reply)) facts = bus_reported j read g reply facts.1 (inr facts.0)
bus_step j Polling read g (Some (replies.Board reply)) facts = rw facts.0 refl
bus_step j (Transferring i) read g None facts = rw facts.0 refl
bus_step j (Transferring i) read g (Some (replies.Bus reply)) facts =
    let unfit : fits_call (datum_call j j.place i) (replies.Bus reply) ≡ false = datum_unreported j j.place i reply facts.1 in
    rw (facts.0, unfit) refl
bus_step j (Transferring i) read g (Some (replies.Board reply)) facts = bus_answered j i read g reply facts
bus_step j (Releasing berr) read g None facts = rw facts.0 refl
bus_step j (Releasing berr) read g (Some (replies.Bus arb_replies.Freed)) facts = rw facts.0 (ap Returns (sym facts.1))
bus_step j (Releasing berr) read g (Some (replies.Bus arb_replies.Granted)) facts = rw facts.0 refl
bus_step j (Releasing berr) read g (Some (replies.Bus arb_replies.Waiting)) facts = rw facts.0 refl
bus_step j (Releasing berr) read g (Some (replies.Bus arb_replies.Denied)) facts = rw facts.0 refl
bus_step j (Releasing berr) read g (Some (replies.Board reply)) facts = rw facts.0 refl
bus_step j (Finished berr) read g last facts = rw facts refl
bus_step j Denied read g last facts = rw facts refl

-- the fields of a local command fit after a board's reply of the expected form
local_replied : (j : LocalJob) (read : List ℕ) (g : Inputs) (reply : Reply) → LocalFacts j (Transferring 0) read g
    → has_form (expected_len (job_expected (Local j))) reply ≡ true
    → LocalFacts j (phase_replied (Local j) 0 reply) (read ++ bytes_of reply) (Some (replies.Board reply) ∷ g)
local_replied j read g (Bytes datum) facts form =
    let fit : fits_call (local_call j) (replies.Board (Bytes datum)) ≡ true = local_len_wanted j (Bytes datum) ∙ form in
    rw (facts.0, fit) (ap (λ bytes. Returns (expected_outcome (job_expected (Local j)) (bytes ++ datum.items))) (sym facts.2))
local_replied j read g Done facts form =
    let fit : fits_call (local_call j) (replies.Board Done) ≡ true = local_len_wanted j Done ∙ form in
    rw (facts.0, fit) (ap (λ bytes. Returns (expected_outcome (job_expected (Local j)) (bytes ++ []))) (sym facts.2))
local_replied j read g Berr facts form = rw facts.0 (ap (λ bytes. Returns (error_outcome 0 (bytes ++ []))) (sym facts.2))

-- the fields of a local command fit after any reply of a board
local_answered : (j : LocalJob) (read : List ℕ) (g : Inputs) (reply : Reply) → LocalFacts j (Transferring 0) read g
    → LocalFacts j (task_after (task (Local j) (Transferring 0) read) (Transferring 0) (Some (replies.Board reply))).phase
    (task_after (task (Local j) (Transferring 0) read) (Transferring 0) (Some (replies.Board reply))).read (Some (replies.Board reply) ∷ g)
local_answered j read g reply facts =
    elim (cases_Bool (has_form (expected_len (job_expected (Local j))) reply)) [
      | inl form ↦ rw form (local_replied j read g reply facts form)
      | inr misfit ↦
          let unfit : fits_call (local_call j) (replies.Board reply) ≡ false = local_len_wanted j reply ∙ misfit in
          rw misfit (rw (facts.0, unfit) refl)
    ]

-- the fields of a local command fit after one more reply
local_step : (j : LocalJob) (phase : Phase) (read : List ℕ) (g : Inputs) (last : Option EventReply) → LocalFacts j phase read g
    → LocalFacts j (task_after (task (Local j) phase read) phase last).phase (task_after (task (Local j) phase read) phase last).read (last ∷ g)
local_step j New read g None facts = (rw facts.0 refl, refl, facts.1)
local_step j New read g (Some reply) facts = rw facts.0 refl
local_step j (Transferring i) read g None facts = rw facts.0 refl
local_step j (Transferring i) read g (Some (replies.Bus reply)) facts = rw facts.0 refl
local_step j (Transferring zero) read g (Some (replies.Board reply)) facts = local_answered j read g reply facts
local_step j (Transferring (suc i)) read g (Some (replies.Board reply)) facts = absurd cc
local_step j (Finished berr) read g last facts = rw facts refl
local_step j Denied read g last facts = rw facts refl
local_step j phase read g last facts = absurd facts

-- a task keeps its job in every step
pub job_stays : (t : TaskView) (phase : Phase) (last : Option EventReply) → (task_after t phase last).job ≡ t.job
job_stays t New None = refl
job_stays t Requesting (Some (replies.Bus reply)) = refl
job_stays t Polling (Some (replies.Bus reply)) = refl
job_stays t (Transferring i) (Some (replies.Board reply)) =
    elim (cases_Bool (has_form (expected_len (job_expected t.job)) reply)) [ inl form ↦ rw form refl | inr misfit ↦ rw misfit refl ]
job_stays t (Releasing berr) (Some (replies.Bus arb_replies.Freed)) = refl
job_stays t (Finished berr) last = refl
job_stays t phase last = refl

-- a task keeps its job after any replies
pub given_job : (job : Job) (g : Inputs) → (task_given job g).job ≡ job
given_job job [] = refl
given_job job (last ∷ g) = job_stays (task_given job g) (task_given job g).phase last ∙ given_job job g

-- the fields of a job fit after one more reply
step_facts : (job : Job) (phase : Phase) (read : List ℕ) (g : Inputs) (last : Option EventReply) → Facts job phase read g
    → Facts job (task_after (task job phase read) phase last).phase (task_after (task job phase read) phase last).read (last ∷ g)
step_facts (Bus j) phase read g last facts = bus_step j phase read g last facts
step_facts (Local j) phase read g last facts = local_step j phase read g last facts

-- the fields fit before the first call
fresh_facts : (job : Job) → Facts job New [] []
fresh_facts (Bus j) = (refl, refl)
fresh_facts (Local j) = (refl, refl)

-- the fields fit after any replies
given_facts : (job : Job) (g : Inputs) → Facts job (task_given job g).phase (task_given job g).read g
given_facts job [] = fresh_facts job
given_facts job (last ∷ g) =
    let t = task_given job g in
    let same : task job t.phase t.read ≡ t = ap (λ (one : Job). task one t.phase t.read) (sym (given_job job g)) in
    let facts = step_facts job t.phase t.read g last (given_facts job g) in
    rw same at facts

-- a task whose fields fit does next what the table states
facts_next : (job : Job) (phase : Phase) (read : List ℕ) (g : Inputs) → Facts job phase read g → job_next job phase read ≡ next_of job g
facts_next (Bus j) New read g facts = rw facts.0 refl
facts_next (Bus j) Requesting read g facts = sym facts.0
facts_next (Bus j) Polling read g facts = sym facts.0
facts_next (Bus j) (Transferring i) read g facts = sym facts.0
facts_next (Bus j) (Releasing berr) read g facts = sym facts.0
facts_next (Bus j) (Finished berr) read g facts = sym facts
facts_next (Bus j) Denied read g facts = sym facts
facts_next (Local j) New read g facts = rw facts.0 refl
facts_next (Local j) (Transferring i) read g facts = sym facts.0
facts_next (Local j) (Finished berr) read g facts = sym facts
facts_next (Local j) Denied read g facts = sym facts
facts_next (Local j) phase read g facts = absurd facts

-- a task does next what the table states
pub by_the_table : (job : Job) (g : Inputs) → to_do (task_given job g) ≡ next_of job g
by_the_table job g =
    let t = task_given job g in
    ap (λ (one : Job). job_next one t.phase t.read) (given_job job g) ∙ facts_next job t.phase t.read g (given_facts job g)

-- a task does next what the table states after one more reply
pub next_by_the_table : (job : Job) (g : Inputs) (t : TaskView) (last : Option EventReply) → t ≡ task_given job g
    → to_do (task_after t t.phase last) ≡ next_of job (last ∷ g)
next_by_the_table job g t last same = ap (λ (u : TaskView). to_do (task_after u u.phase last)) same ∙ by_the_table job (last ∷ g)
