-- Between two data a transfer makes no call but those of data.
use Rattle.std.proofs.Common.{ℕ, [], ◌∷◌, ◌++◌, Option, Some, None, inl, inr, ◌⊎◌}
use Rattle.std.specs.Prelude.{All, nat_lt}
use Rattle.std.proofs.lemmas.Bool.{cases_Bool}
use Rattle.std.proofs.lemmas.List.Elements.{All-nil, All-cons}
use Rattle.vme_cycle.specs.Requests.{count_of}
use Rattle.vme_memory.specs.declared.reply.Reply.{Reply}
use Rattle.vme_memory.specs.declared.reply.Reply.TheVariants.{Bytes, Done, Berr}
use Rattle.vme_arbiter.specs.declared.command.ArbCmd.TheVariants as arb_commands
use Rattle.vme_arbiter.specs.declared.command.ArbReply.TheVariants as arb_replies
use Rattle.vme_core.specs.declared.event.EventReply.{EventReply}
use Rattle.vme_core.specs.declared.event.EventReply.TheVariants as replies
use Rattle.vme_core.specs.Calls.{OnBoard, OnBus}
use Rattle.vme_core.specs.NextSteps.{NextStep, NotStarted, Invokes, Returns}
use Rattle.vme_master.specs.declared.job.BusJob.{BusJob}
use Rattle.vme_master.specs.declared.job.Job.TheVariants.{Bus}
use Rattle.vme_master.specs.declared.outcome.Outcome.{Outcome}
use Rattle.vme_master.specs.Jobs.{datum_call, fits_call}
use Rattle.vme_master.specs.Tables.{Inputs, datum_or_done, bus_row, next_after, next_of}
use Rattle.vme_runner.specs.TransferTenures.{CallsBoard, AnswersDatum}

-- a transfer has no datum left: it releases the bus, or has ended
abbrev IsPastData : NextStep Outcome → Type 0
IsPastData (Invokes (OnBus (arb_commands.Done slot))) = Unit {0}
IsPastData (Returns outcome) = Unit {0}
IsPastData next = ⊥

-- a transfer is at a datum, or has none left
abbrev IsFromData : NextStep Outcome → Type 0
IsFromData next = CallsBoard next ⊎ IsPastData next

-- past its data a transfer stays so
past_step : (j : BusJob) (g : Inputs) (next : NextStep Outcome) (last : Option EventReply) → IsPastData next
    → IsPastData (next_after (Bus j) next last g)
past_step j g (Returns outcome) last past = tt
past_step j g (Invokes (OnBus (arb_commands.Done slot))) None past = tt
past_step j g (Invokes (OnBus (arb_commands.Done slot))) (Some (replies.Board reply)) past = tt
past_step j g (Invokes (OnBus (arb_commands.Done slot))) (Some (replies.Bus arb_replies.Freed)) past = tt
past_step j g (Invokes (OnBus (arb_commands.Done slot))) (Some (replies.Bus arb_replies.Denied)) past = tt
past_step j g (Invokes (OnBus (arb_commands.Done slot))) (Some (replies.Bus arb_replies.Granted)) past = tt
past_step j g (Invokes (OnBus (arb_commands.Done slot))) (Some (replies.Bus arb_replies.Waiting)) past = tt
past_step j g (Invokes (OnBus (arb_commands.Ask slot level))) last past = absurd past
past_step j g (Invokes (OnBus (arb_commands.Look slot))) last past = absurd past
past_step j g (Invokes (OnBoard place command)) last past = absurd past
past_step j g NotStarted last past = absurd past

-- the call of a datum is on a board, or releases the bus
datum_from : (j : BusJob) (place : Option (ℕ × ℕ)) (i : ℕ) → IsFromData (Invokes (datum_call j place i))
datum_from j None i = inr tt
datum_from j (Some place) i = inl tt

-- the next datum, or the release of the bus
on_from : (j : BusJob) (i : ℕ) → IsFromData (Invokes (datum_or_done j i))
on_from j i =
    elim (cases_Bool (nat_lt i (count_of j.transfer.request))) [
      | inl less ↦ rw less (datum_from j j.place i)
      | inr past ↦ rw past (inr tt)
    ]

-- after a datum comes the next, or none
row_from : (j : BusJob) (g : Inputs) (reply : Reply) → IsFromData (bus_row j (replies.Board reply) g)
row_from j g (Bytes datum) = on_from j _
row_from j g Done = on_from j _
row_from j g Berr = inr tt

-- after a datum comes the next, or none, whatever was given
datum_step : (j : BusJob) (g : Inputs) (next : NextStep Outcome) (last : Option EventReply) → CallsBoard next
    → IsFromData (next_after (Bus j) next last g)
datum_step j g (Invokes (OnBoard place command)) None at = inr tt
datum_step j g (Invokes (OnBoard place command)) (Some (replies.Bus reply)) at = inr tt
datum_step j g (Invokes (OnBoard place command)) (Some (replies.Board reply)) at =
    elim (cases_Bool (fits_call (OnBoard place command) (replies.Board reply))) [
      | inl fit ↦ rw fit (row_from j g reply)
      | inr misfit ↦ rw misfit (inr tt)
    ]
datum_step j g (Invokes (OnBus cmd)) last at = absurd at
datum_step j g (Returns outcome) last at = absurd at
datum_step j g NotStarted last at = absurd at

-- from a datum on a transfer is at one, or has none left
from_step : (j : BusJob) (g : Inputs) (last : Option EventReply) → IsFromData (next_of (Bus j) g)
    → IsFromData (next_of (Bus j) (last ∷ g))
from_step j g last since =
    elim since [
      | inl at ↦ datum_step j g (next_of (Bus j) g) last at
      | inr past ↦ inr (past_step j g (next_of (Bus j) g) last past)
    ]

-- from a datum on, whatever was given after it
from_all : (j : BusJob) (newer g : Inputs) → IsFromData (next_of (Bus j) g) → IsFromData (next_of (Bus j) (newer ++ g))
from_all j [] g since = since
from_all j (last ∷ newer) g since = from_step j (newer ++ g) last (from_all j newer g since)

-- past its data a transfer stays so, whatever was given after it
past_all : (j : BusJob) (newer g : Inputs) → IsPastData (next_of (Bus j) g) → IsPastData (next_of (Bus j) (newer ++ g))
past_all j [] g past = past
past_all j (last ∷ newer) g past = past_step j (newer ++ g) (next_of (Bus j) (newer ++ g)) last (past_all j newer g past)

-- a transfer past its data is at none
not_both : (next : NextStep Outcome) → CallsBoard next → IsPastData next → ⊥
not_both (Invokes (OnBoard place command)) at past = past
not_both (Invokes (OnBus cmd)) at past = at
not_both (Returns outcome) at past = at
not_both NotStarted at past = at

-- between two data a transfer is at a datum
pub at_datum : (j : BusJob) (g older newer : Inputs) → CallsBoard (next_of (Bus j) g)
    → CallsBoard (next_of (Bus j) (newer ++ (older ++ g))) → CallsBoard (next_of (Bus j) (older ++ g))
at_datum j g older newer first last =
    elim (from_all j older g (inl first)) [
      | inl at ↦ at
      | inr past ↦ absurd (not_both (next_of (Bus j) (newer ++ (older ++ g))) last (past_all j newer (older ++ g) past))
    ]

-- a transfer that was at a datum, and is at the next, had a board's reply that is no bus error
answered_step : (j : BusJob) (g : Inputs) (next : NextStep Outcome) (last : Option EventReply) → CallsBoard next
    → CallsBoard (next_after (Bus j) next last g) → AnswersDatum last
answered_step j g (Invokes (OnBoard place command)) None at then = absurd then
answered_step j g (Invokes (OnBoard place command)) (Some (replies.Bus reply)) at then = absurd then
answered_step j g (Invokes (OnBoard place command)) (Some (replies.Board (Bytes datum))) at then = tt
answered_step j g (Invokes (OnBoard place command)) (Some (replies.Board Done)) at then = tt
answered_step j g (Invokes (OnBoard place command)) (Some (replies.Board Berr)) at then = absurd then
answered_step j g (Invokes (OnBus cmd)) last at then = absurd at
answered_step j g (Returns outcome) last at then = absurd at
answered_step j g NotStarted last at then = absurd at

-- the replies between two data are boards', and no bus errors
pub answered_all : (j : BusJob) (g between : Inputs) → CallsBoard (next_of (Bus j) g)
    → CallsBoard (next_of (Bus j) (between ++ g)) → All AnswersDatum between
answered_all j g [] first last = All-nil AnswersDatum
answered_all j g (one ∷ between) first last =
    let at : CallsBoard (next_of (Bus j) (between ++ g)) = at_datum j g between (one ∷ []) first last in
    All-cons AnswersDatum one between (answered_step j (between ++ g) (next_of (Bus j) (between ++ g)) one at last)
    (answered_all j g between first at)
