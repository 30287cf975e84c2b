-- A bus job of one datum with good replies: its next step and its outcome.
use Rattle.std.proofs.Common.{◌≡◌, ◌≢◌, ℕ, ◌+◌, ◌⊎◌, List, [], ◌∷◌, ◌++◌, Option, Some, None, refl, ap, sym, subst, ◌∙◌, inl, inr}
use Rattle.std.specs.Prelude.{IsTrue}
use Rattle.vme_cycle.specs.Requests.{count_of}
use Rattle.vme_memory.specs.declared.reply.Reply.{Reply}
use Rattle.vme_memory.specs.declared.reply.Reply.TheVariants.{Bytes, Done, Berr}
use Rattle.vme_arbiter.specs.declared.command.ArbReply.{ArbReply}
use Rattle.vme_arbiter.specs.declared.command.ArbReply.TheVariants as arb_replies
use Rattle.vme_core.specs.declared.event.EventReply.{EventReply}
use Rattle.vme_core.specs.declared.event.EventReply.TheVariants as replies
use Rattle.vme_core.specs.Calls.{Call}
use Rattle.vme_core.specs.NextSteps.{NextStep, NotStarted, Invokes, Returns}
use Rattle.vme_master.specs.declared.outcome.Outcome.{Outcome}
use Rattle.vme_master.specs.declared.job.BusJob.{BusJob}
use Rattle.vme_master.specs.declared.job.Job.TheVariants.{Bus}
use Rattle.vme_master.specs.Jobs.{ask_call, look_call, done_call, datum_call, fits_call, request_expected, expected_outcome}
use Rattle.vme_master.specs.Tables.{Inputs, data_in, bytes_in, datum_or_done, next_of}

-- the bytes of a reply
abbrev pub reply_bytes : Reply → List ℕ
reply_bytes (Bytes datum) = datum.items
reply_bytes Done = []
reply_bytes Berr = []

-- a reply is good for the next step of a job
abbrev pub IsGoodTo : NextStep Outcome → Option EventReply → Type 0
IsGoodTo NotStarted last = last ≡ None
IsGoodTo (Invokes call) None = ⊥
IsGoodTo (Invokes call) (Some reply) = IsTrue (fits_call call reply) × (reply ≢ replies.Board Berr) × (reply ≢ replies.Bus arb_replies.Denied)
IsGoodTo (Returns outcome) last = Unit {0}

-- the datum has no reply yet: the job has not started, requests the bus, polls the arbiter, or sends its datum
pub record Waits (job : BusJob) (g : Inputs) : Type 0 where
  pub none : data_in g ≡ 0
  pub bytes : bytes_in g ≡ []
  pub next :
      (next_of (Bus job) g ≡ NotStarted) ⊎ ((next_of (Bus job) g ≡ Invokes (ask_call job))
      ⊎ ((next_of (Bus job) g ≡ Invokes (look_call job)) ⊎ (next_of (Bus job) g ≡ Invokes (datum_call job job.place 0))))

-- the datum has its reply, and the bus is released next
pub record Answered (job : BusJob) (reply : Reply) (g : Inputs) : Type 0 where
  pub before : Inputs
  pub is : g ≡ Some (replies.Board reply) ∷ before
  pub bytes : bytes_in g ≡ reply_bytes reply
  pub good : reply ≢ Berr
  pub next : next_of (Bus job) g ≡ Invokes (done_call job)

-- the datum of a job has no reply before the first call
pub waits_fresh : (job : BusJob) → Waits job []
waits_fresh job = record { none = refl; bytes = refl; next = inl refl }

-- the datum of a job has no reply at the first call
pub waits_called : (job : BusJob) (g : Inputs) → Waits job g → next_of (Bus job) g ≡ NotStarted → Waits job (None ∷ g)
waits_called job g waits rests = record { none = waits.none; bytes = waits.bytes; next = inr (inl (rw rests refl)) }

module _ (job : BusJob) (one : count_of job.transfer.request ≡ 1) where
  -- the call for the first datum is the datum's command
  first_datum : datum_or_done job 0 ≡ datum_call job job.place 0
  first_datum = rw one refl

  -- the call after the datum is the release of the bus
  past_datum : (n : ℕ) → n ≡ 0 → datum_or_done job (n + 1) ≡ done_call job
  past_datum n none = rw none (rw one refl)

  -- the datum has no reply after a reply of the arbiter to a request or a poll
  pub waits_reported : (g : Inputs) (cmd : Call) (reply : ArbReply) → ((cmd ≡ ask_call job) ⊎ (cmd ≡ look_call job)) → Waits job g
      → next_of (Bus job) g ≡ Invokes cmd → IsGoodTo (Invokes cmd) (Some (replies.Bus reply)) → Waits job (Some (replies.Bus reply) ∷ g)
  waits_reported g cmd arb_replies.Granted which waits makes good = record {
    none = waits.none;
    bytes = waits.bytes;
    next = inr (inr (inr (rw makes (rw good.0 (ap Invokes first_datum)))));
  }
  waits_reported g cmd arb_replies.Waiting which waits makes good = record {
    none = waits.none;
    bytes = waits.bytes;
    next = inr (inr (inl (rw makes (rw good.0 refl))));
  }
  waits_reported g cmd arb_replies.Freed (inl asks) waits makes good = let fit = ap (λ c. fits_call c (replies.Bus arb_replies.Freed)) (sym asks) ∙ good.0 in absurd cc
  waits_reported g cmd arb_replies.Freed (inr looks) waits makes good = let fit = ap (λ c. fits_call c (replies.Bus arb_replies.Freed)) (sym looks) ∙ good.0 in absurd cc
  waits_reported g cmd arb_replies.Denied which waits makes good = absurd (good.2 refl)

  -- the datum has its reply after a good reply of a board
  pub answered_by : (g : Inputs) (call : Call) (reply : Reply) → Waits job g → next_of (Bus job) g ≡ Invokes call
      → IsGoodTo (Invokes call) (Some (replies.Board reply)) → Answered job reply (Some (replies.Board reply) ∷ g)
  answered_by g call (Bytes datum) waits makes good = record {
    before = g;
    is = refl;
    bytes = ap (λ bytes. bytes ++ datum.items) waits.bytes;
    good = λ error. absurd cc;
    next = rw makes (rw good.0 (ap Invokes (past_datum (data_in g) waits.none)));
  }
  answered_by g call Done waits makes good = record {
    before = g;
    is = refl;
    bytes = waits.bytes;
    good = λ error. absurd cc;
    next = rw makes (rw good.0 (ap Invokes (past_datum (data_in g) waits.none)));
  }
  answered_by g call Berr waits makes good = absurd (good.1 refl)

  -- the job ends with its outcome after the release of the bus
  ended_by : (g before : Inputs) (reply : Reply) (place : ℕ × ℕ) → job.place ≡ Some place → g ≡ Some (replies.Board reply) ∷ before → reply ≢ Berr
      → next_of (Bus job) g ≡ Invokes (done_call job)
      → next_of (Bus job) (Some (replies.Bus arb_replies.Freed) ∷ g) ≡ Returns (expected_outcome (request_expected job.transfer.request) (bytes_in g))
  ended_by g before (Bytes datum) place placed is good next = rw next (rw placed (rw is refl))
  ended_by g before Done place placed is good next = rw next (rw placed (rw is refl))
  ended_by g before Berr place placed is good next = absurd (good refl)

  -- after the datum and a good reply, the bus is free and the job has its outcome
  pub ended : (g : Inputs) (last : Option EventReply) (reply : Reply) (place : ℕ × ℕ) → job.place ≡ Some place → Answered job reply g
      → IsGoodTo (next_of (Bus job) g) last
      → (last ≡ Some (replies.Bus arb_replies.Freed))
      × (next_of (Bus job) (last ∷ g) ≡ Returns (expected_outcome (request_expected job.transfer.request) (reply_bytes reply)))
  ended g last reply place placed answered good = by_last last (subst (λ n. IsGoodTo n last) answered.next good)
    where
      by_last : (last : Option EventReply) → IsGoodTo (Invokes (done_call job)) last
          → (last ≡ Some (replies.Bus arb_replies.Freed))
          × (next_of (Bus job) (last ∷ g) ≡ Returns (expected_outcome (request_expected job.transfer.request) (reply_bytes reply)))
      by_last None fine = absurd fine
      by_last (Some (replies.Board r)) fine = let fit = fine.0 in absurd cc
      by_last (Some (replies.Bus arb_replies.Granted)) fine = let fit = fine.0 in absurd cc
      by_last (Some (replies.Bus arb_replies.Waiting)) fine = let fit = fine.0 in absurd cc
      by_last (Some (replies.Bus arb_replies.Freed)) fine = (
        refl,
        ended_by g answered.before reply place placed answered.is answered.good answered.next
            ∙ ap (λ bytes. Returns (expected_outcome (request_expected job.transfer.request) bytes)) answered.bytes,
      )
      by_last (Some (replies.Bus arb_replies.Denied)) fine = absurd (fine.2 refl)
