-- The one call of a local command, the boards that jobs call, and the replies of boards and of the arbiter.
use Rattle.std.proofs.Common.{◌≡◌, ℕ, ◌<◌, true, List, [], ◌∷◌, length, Option, Some, None, refl, sym, subst, inl, inr}
use Rattle.std.proofs.lemmas.Bool.{cases_Bool}
use Rattle.vme_cycle.specs.Requests.{addr_of}
use Rattle.vme_cycle.specs.Lawful.{Transfer}
use Rattle.vme_decode.specs.declared.entry.Entry.{Entry}
use Rattle.vme_decode.proofs.lemmas.Selection.{result_place}
use Rattle.vme_memory.specs.declared.reply.Reply.TheVariants.{Bytes, Done, Berr}
use Rattle.vme_memory.specs.Boards.{Board}
use Rattle.vme_memory.specs.Steps.{Command}
use Rattle.vme_memory.proofs.lemmas.Data.{reply_form}
use Rattle.vme_arbiter.specs.declared.command.ArbCmd.{ArbCmd}
use Rattle.vme_arbiter.specs.declared.command.ArbCmd.TheVariants as arb_commands
use Rattle.vme_arbiter.specs.Requests.{bus_request}
use Rattle.vme_arbiter.specs.Arbitration.{Arbitration, holds, pends, can_ask, lawful_ask, arbiter_step}
use Rattle.vme_core.specs.declared.event.EventReply.{EventReply}
use Rattle.vme_core.specs.declared.event.EventReply.TheVariants as replies
use Rattle.vme_core.specs.Calls.{Call, OnBoard, OnBus, command_step}
use Rattle.vme_core.specs.NextSteps.{NextStep, NotStarted, Invokes, Returns}
use Rattle.vme_master.specs.declared.outcome.Outcome.{Outcome}
use Rattle.vme_master.specs.declared.job.LocalJob.{LocalJob}
use Rattle.vme_master.specs.declared.job.Job.{Job}
use Rattle.vme_master.specs.declared.job.Job.TheVariants.{Bus, Local}
use Rattle.vme_master.specs.Jobs.{bus_job, local_call, answers_command, fits_call}
use Rattle.vme_master.specs.Tables.{Inputs, next_after, next_of}
use Rattle.vme_master.specs.Laws.{IsBelow}
use Rattle.vme_master.proofs.lemmas.Tenures.{data_go_on}

-- a local command makes no other call than its own
abbrev MakesOwn : LocalJob → NextStep Outcome → Type 0
MakesOwn j (Invokes call) = call ≡ local_call j
MakesOwn j next = Unit {0}

-- after a call and a reply, a local command makes no other call than its own
own_row : (j : LocalJob) (call : Call) (reply : EventReply) (g : Inputs) → MakesOwn j (next_after (Local j) (Invokes call) (Some reply) g)
own_row j call (replies.Board (Bytes datum)) g =
    elim (cases_Bool (fits_call call (replies.Board (Bytes datum)))) [ inl fit ↦ rw fit tt | inr misfit ↦ rw misfit tt ]
own_row j call (replies.Board Done) g = elim (cases_Bool (fits_call call (replies.Board Done))) [ inl fit ↦ rw fit tt | inr misfit ↦ rw misfit tt ]
own_row j call (replies.Board Berr) g = elim (cases_Bool (fits_call call (replies.Board Berr))) [ inl fit ↦ rw fit tt | inr misfit ↦ rw misfit tt ]
own_row j call (replies.Bus reply) g = elim (cases_Bool (fits_call call (replies.Bus reply))) [ inl fit ↦ rw fit tt | inr misfit ↦ rw misfit tt ]

-- after one more input, a local command makes no other call than its own
own_step : (j : LocalJob) (next : NextStep Outcome) (last : Option EventReply) (g : Inputs) → MakesOwn j (next_after (Local j) next last g)
own_step j NotStarted None g = refl
own_step j NotStarted (Some reply) g = tt
own_step j (Invokes call) None g = tt
own_step j (Invokes call) (Some reply) g = own_row j call reply g
own_step j (Returns outcome) last g = tt

-- after any replies, a local command makes no other call than its own
own_calls : (j : LocalJob) (g : Inputs) → MakesOwn j (next_of (Local j) g)
own_calls j [] = tt
own_calls j (last ∷ g) = own_step j (next_of (Local j) g) last g

-- a local command's call is its own
pub local_calls : (j : LocalJob) (g : Inputs) (call : Call) → next_of (Local j) g ≡ Invokes call → call ≡ local_call j
local_calls j g call next = subst (MakesOwn j) next (own_calls j g)

-- each board that is called is among those of the job
pub calls_below : (n : ℕ) (job : Job) (g : Inputs) (board : ℕ) (command : Option Command) → IsBelow n job
    → next_of job g ≡ Invokes (OnBoard board command) → board < n
calls_below n (Bus j) g board command below next =
    let one = data_go_on j g board command next in below board one.offset one.placed
calls_below n (Local j) g board command below next =
    let same : board ≡ j.board = let own = local_calls j g (OnBoard board command) next in cc in
    subst (λ (b : ℕ). b < n) (sym same) below

-- the boards of a transfer are those of the map
pub bus_below : (map : List Entry) (slot level : ℕ) (t : Transfer) → IsBelow (length map) (bus_job map slot level t)
bus_below map slot level t board offset placed = result_place (Some (board, offset)) map t.am (addr_of t.request) (sym placed)

-- a board's reply fits its command
pub board_fits : (m : Board) (board : ℕ) (command : Option Command) → fits_call (OnBoard board command) (replies.Board (command_step m command).1) ≡ true
board_fits m board None = refl
board_fits m board (Some command) = reply_form m command

-- the reply to a valid request fits it
ask_fits : (holder : Option ℕ) (bus : Arbitration) (slot level : ℕ)
    → answers_command (arb_commands.Ask slot level) (lawful_ask holder bus (bus_request level slot)).1 ≡ true
ask_fits None bus slot level = refl
ask_fits (Some h) bus slot level = refl

-- the arbiter's reply fits its command
pub arbiter_fits : (bus : Arbitration) (cmd : ArbCmd) → fits_call (OnBus cmd) (replies.Bus (arbiter_step bus cmd).1) ≡ true
arbiter_fits bus (arb_commands.Ask slot level) =
    elim (cases_Bool (can_ask bus slot level)) [ inl can ↦ rw can (ask_fits bus.holder bus slot level) | inr cannot ↦ rw cannot refl ]
arbiter_fits bus (arb_commands.Look slot) =
    elim (cases_Bool (holds bus slot)) [
      | inl held ↦ rw held refl
      | inr not_held ↦ elim (cases_Bool (pends bus slot)) [ inl one ↦ rw (not_held, one) refl | inr none ↦ rw (not_held, none) refl ]
    ]
arbiter_fits bus (arb_commands.Done slot) =
    elim (cases_Bool (holds bus slot)) [ inl held ↦ rw held refl | inr not_held ↦ rw not_held refl ]
