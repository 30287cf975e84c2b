-- The calls of a transfer: request, poll, the data in order while the slot holds the bus, and release.
use Rattle.std.proofs.Common.{◌≡◌, ◌≢◌, ℕ, ◌+◌, ◌<◌, true, [], ◌∷◌, Option, Some, None, refl, ap, sym, subst, inl, inr, ◌⊎◌}
use Rattle.std.specs.Prelude.{nat_lt}
use Rattle.std.proofs.lemmas.Bool.{cases_Bool, ltb-true, eq-eqb, and_from}
use Rattle.vme_cycle.specs.Requests.{count_of}
use Rattle.vme_memory.specs.declared.reply.Reply.{Reply}
use Rattle.vme_memory.specs.declared.reply.Reply.TheVariants.{Bytes, Done, Berr}
use Rattle.vme_memory.specs.Steps.{Command}
use Rattle.vme_arbiter.specs.declared.command.ArbCmd.{ArbCmd}
use Rattle.vme_arbiter.specs.declared.command.ArbCmd.TheVariants as arb_commands
use Rattle.vme_arbiter.specs.declared.command.ArbReply.TheVariants as arb_replies
use Rattle.vme_arbiter.specs.Requests.{is_level}
use Rattle.vme_arbiter.specs.Masters.{may_give}
use Rattle.vme_core.specs.declared.event.EventReply.{EventReply}
use Rattle.vme_core.specs.declared.event.EventReply.TheVariants as replies
use Rattle.vme_core.specs.Calls.{Call, OnBoard, OnBus}
use Rattle.vme_core.specs.NextSteps.{NextStep, NotStarted, Invokes, Returns}
use Rattle.vme_master.specs.declared.job.BusJob.{BusJob}
use Rattle.vme_master.specs.declared.job.Job.TheVariants.{Bus}
use Rattle.vme_master.specs.declared.outcome.Outcome.{Outcome}
use Rattle.vme_master.specs.declared.outcome.Outcome.TheVariants as outcomes
use Rattle.vme_master.specs.Jobs.{datum_call, fits_call, error_outcome}
use Rattle.vme_master.specs.Tables.{Inputs, data_in, datum_or_done, outcome_by, bus_row, next_after, next_of}
use Rattle.vme_master.specs.Laws.{last_arb_reply, IsNextDatum}

-- a command to the arbiter is the slot's own and follows from the last reply
abbrev FollowsReply : BusJob → Inputs → ArbCmd → Type 0
FollowsReply j g (arb_commands.Ask slot level) = (slot ≡ j.slot) × (level ≡ j.level) × (last_arb_reply g ≡ None) × (data_in g ≡ 0)
FollowsReply j g (arb_commands.Look slot) = (slot ≡ j.slot) × (last_arb_reply g ≡ Some arb_replies.Waiting) × (data_in g ≡ 0)
FollowsReply j g (arb_commands.Done slot) = (slot ≡ j.slot) × (last_arb_reply g ≡ Some arb_replies.Granted)

-- what a transfer does next follows from what it was given
abbrev Stands : BusJob → Inputs → NextStep Outcome → Type 0
Stands j g NotStarted = g ≡ []
Stands j g (Invokes (OnBus cmd)) = FollowsReply j g cmd
Stands j g (Invokes (OnBoard board command)) = IsNextDatum j g board command × (last_arb_reply g ≡ Some arb_replies.Granted)
Stands j g (Returns outcome) = (outcome ≡ outcomes.Denied) ⊎ (j.place ≡ None → outcome ≡ error_outcome 0 [])

-- the next datum follows from the data so far
datum_stands : (j : BusJob) (place : Option (ℕ × ℕ)) (g : Inputs) → j.place ≡ place → data_in g < count_of j.transfer.request
    → last_arb_reply g ≡ Some arb_replies.Granted → Stands j g (Invokes (datum_call j place (data_in g)))
datum_stands j None g placed more held = (refl, held)
datum_stands j (Some p) g placed more held = (record { offset = p.1; placed = placed; more = more; own = refl }, held)

-- after a grant or a board's reply, the next datum or the release follows
on_stands : (j : BusJob) (g : Inputs) (i : ℕ) → i ≡ data_in g → last_arb_reply g ≡ Some arb_replies.Granted → Stands j g (Invokes (datum_or_done j i))
on_stands j g i same held =
    elim (cases_Bool (nat_lt i (count_of j.transfer.request))) [
      | inl less ↦
          let more : data_in g < count_of j.transfer.request = rw same at (ltb-true i (count_of j.transfer.request) less) in
          rw less (subst (λ (n : ℕ). Stands j g (Invokes (datum_call j j.place n))) (sym same) (datum_stands j j.place g refl more held))
      | inr past ↦ rw past (refl, held)
    ]

-- with no board selected, the outcome is the bus timer's error
timer : (j : BusJob) (g : Inputs) → j.place ≡ None → outcome_by j j.place g ≡ error_outcome 0 []
timer j g placed = rw placed refl

-- what a transfer does next after a board's reply follows from what it was given
board_stands : (j : BusJob) (g : Inputs) (board : ℕ) (command : Option Command) (reply : Reply)
    → IsNextDatum j g board command × (last_arb_reply g ≡ Some arb_replies.Granted)
    → Stands j (Some (replies.Board reply) ∷ g) (bus_row j (replies.Board reply) g)
board_stands j g board command (Bytes datum) stands = on_stands j (Some (replies.Board (Bytes datum)) ∷ g) (data_in g + 1) refl stands.1
board_stands j g board command Done stands = on_stands j (Some (replies.Board Done) ∷ g) (data_in g + 1) refl stands.1
board_stands j g board command Berr stands = (refl, stands.1)

-- what a transfer does next after one more reply follows from what it was given
step_stands : (j : BusJob) (g : Inputs) (next : NextStep Outcome) (last : Option EventReply) → Stands j g next
    → Stands j (last ∷ g) (next_after (Bus j) next last g)
step_stands j g NotStarted None stands = (refl, refl, ap last_arb_reply stands, ap data_in stands)
step_stands j g NotStarted (Some reply) stands = inl refl
step_stands j g (Invokes call) None stands = inl refl
step_stands j g (Invokes (OnBus (arb_commands.Ask slot level))) (Some (replies.Bus arb_replies.Granted)) stands =
    on_stands j (Some (replies.Bus arb_replies.Granted) ∷ g) 0 (sym stands.3) refl
step_stands j g (Invokes (OnBus (arb_commands.Ask slot level))) (Some (replies.Bus arb_replies.Waiting)) stands = (refl, refl, stands.3)
step_stands j g (Invokes (OnBus (arb_commands.Ask slot level))) (Some (replies.Bus arb_replies.Freed)) stands = inl refl
step_stands j g (Invokes (OnBus (arb_commands.Ask slot level))) (Some (replies.Bus arb_replies.Denied)) stands = inl refl
step_stands j g (Invokes (OnBus (arb_commands.Look slot))) (Some (replies.Bus arb_replies.Granted)) stands =
    on_stands j (Some (replies.Bus arb_replies.Granted) ∷ g) 0 (sym stands.2) refl
step_stands j g (Invokes (OnBus (arb_commands.Look slot))) (Some (replies.Bus arb_replies.Waiting)) stands = (refl, refl, stands.2)
step_stands j g (Invokes (OnBus (arb_commands.Look slot))) (Some (replies.Bus arb_replies.Freed)) stands = inl refl
step_stands j g (Invokes (OnBus (arb_commands.Look slot))) (Some (replies.Bus arb_replies.Denied)) stands = inl refl
step_stands j g (Invokes (OnBus (arb_commands.Done slot))) (Some (replies.Bus arb_replies.Freed)) stands = inr (timer j g)
step_stands j g (Invokes (OnBus (arb_commands.Done slot))) (Some (replies.Bus arb_replies.Granted)) stands = inl refl
step_stands j g (Invokes (OnBus (arb_commands.Done slot))) (Some (replies.Bus arb_replies.Waiting)) stands = inl refl
step_stands j g (Invokes (OnBus (arb_commands.Done slot))) (Some (replies.Bus arb_replies.Denied)) stands = inl refl
step_stands j g (Invokes (OnBus cmd)) (Some (replies.Board reply)) stands = inl refl
step_stands j g (Invokes (OnBoard board command)) (Some (replies.Bus reply)) stands = inl refl
step_stands j g (Invokes (OnBoard board command)) (Some (replies.Board reply)) stands =
    elim (cases_Bool (fits_call (OnBoard board command) (replies.Board reply))) [
      | inl fit ↦ rw fit (board_stands j g board command reply stands)
      | inr misfit ↦ rw misfit (inl refl)
    ]
step_stands j g (Returns outcome) last stands = stands

-- what a transfer does next follows from any replies
pub next_stands : (j : BusJob) (g : Inputs) → Stands j g (next_of (Bus j) g)
next_stands j [] = refl
next_stands j (last ∷ g) = step_stands j g (next_of (Bus j) g) last (next_stands j g)

-- a board's command is that of the next datum
pub data_go_on : (j : BusJob) (g : Inputs) (board : ℕ) (command : Option Command) → next_of (Bus j) g ≡ Invokes (OnBoard board command)
    → IsNextDatum j g board command
data_go_on j g board command next = (subst (Stands j g) next (next_stands j g)).0

-- data go to a board only while the arbiter's last reply is `Granted`
pub holds_for_data : (j : BusJob) (g : Inputs) (board : ℕ) (command : Option Command) → next_of (Bus j) g ≡ Invokes (OnBoard board command)
    → last_arb_reply g ≡ Some arb_replies.Granted
holds_for_data j g board command next = (subst (Stands j g) next (next_stands j g)).1

-- a command that follows from the last reply is one that the reply allows
may_follow : (j : BusJob) (g : Inputs) (cmd : ArbCmd) → is_level j.level ≡ true → FollowsReply j g cmd → may_give j.slot (last_arb_reply g) cmd ≡ true
may_follow j g (arb_commands.Ask slot level) lawful stands =
    rw (stands.2, stands.0, stands.1) (and_from _ _ (eq-eqb j.slot j.slot refl) lawful)
may_follow j g (arb_commands.Look slot) lawful stands = rw (stands.1, stands.0) (eq-eqb j.slot j.slot refl)
may_follow j g (arb_commands.Done slot) lawful stands = rw (stands.1, stands.0) (eq-eqb j.slot j.slot refl)

-- each command to the arbiter is one that its last reply allows
pub commands_are_allowed : (j : BusJob) (g : Inputs) (cmd : ArbCmd) → is_level j.level ≡ true → next_of (Bus j) g ≡ Invokes (OnBus cmd)
    → may_give j.slot (last_arb_reply g) cmd ≡ true
commands_are_allowed j g cmd lawful next = may_follow j g cmd lawful (subst (Stands j g) next (next_stands j g))

-- a command that follows from the last reply is the slot's request, poll or release
is_own_command : (j : BusJob) (g : Inputs) (cmd : ArbCmd) → FollowsReply j g cmd
    → (cmd ≡ arb_commands.Ask j.slot j.level) ⊎ ((cmd ≡ arb_commands.Look j.slot) ⊎ (cmd ≡ arb_commands.Done j.slot))
is_own_command j g (arb_commands.Ask slot level) stands = inl (rw (stands.0, stands.1) refl)
is_own_command j g (arb_commands.Look slot) stands = inr (inl (rw stands.0 refl))
is_own_command j g (arb_commands.Done slot) stands = inr (inr (rw stands.0 refl))

-- each command to the arbiter is the slot's own
pub commands_are_own : (j : BusJob) (g : Inputs) (cmd : ArbCmd) → next_of (Bus j) g ≡ Invokes (OnBus cmd)
    → (cmd ≡ arb_commands.Ask j.slot j.level) ⊎ ((cmd ≡ arb_commands.Look j.slot) ⊎ (cmd ≡ arb_commands.Done j.slot))
commands_are_own j g cmd next = is_own_command j g cmd (subst (Stands j g) next (next_stands j g))

-- a transfer with no board ends denied or with the bus timer's error
pub nowhere_ends : (j : BusJob) (g : Inputs) (outcome : Outcome) → j.place ≡ None → next_of (Bus j) g ≡ Returns outcome
    → (outcome ≡ outcomes.Denied) ⊎ (outcome ≡ error_outcome 0 [])
nowhere_ends j g outcome placed next =
    elim (subst (Stands j g) next (next_stands j g)) [ inl denied ↦ inl denied | inr berr ↦ inr (berr placed) ]

-- equal ends have equal outcomes
same_end : (a b : Outcome) → Returns a ≡ Returns b → a ≡ b
same_end a b same = cc

-- an end without a denial comes only with the reply `Freed`
row_ends : (j : BusJob) (g : Inputs) (reply : EventReply) (outcome : Outcome) → bus_row j reply g ≡ Returns outcome
    → outcome ≢ outcomes.Denied → reply ≡ replies.Bus arb_replies.Freed
row_ends j g (replies.Bus arb_replies.Freed) outcome row good = refl
row_ends j g (replies.Bus arb_replies.Denied) outcome row good = absurd (good (sym (same_end outcomes.Denied outcome row)))
row_ends j g (replies.Bus arb_replies.Granted) outcome row good = absurd cc
row_ends j g (replies.Bus arb_replies.Waiting) outcome row good = absurd cc
row_ends j g (replies.Board (Bytes datum)) outcome row good = absurd cc
row_ends j g (replies.Board Done) outcome row good = absurd cc
row_ends j g (replies.Board Berr) outcome row good = absurd cc

-- a call after which a transfer ends without a denial had the reply `Freed`
pub ends_freed : (j : BusJob) (g : Inputs) (call : Call) (reply : EventReply) (outcome : Outcome) → next_of (Bus j) g ≡ Invokes call
    → next_of (Bus j) (Some reply ∷ g) ≡ Returns outcome → outcome ≢ outcomes.Denied → reply ≡ replies.Bus arb_replies.Freed
ends_freed j g call reply outcome made next good =
    let after = rw made at next in
    elim (cases_Bool (fits_call call reply)) [
      | inl fit ↦ row_ends j g reply outcome (rw fit at after) good
      | inr misfit ↦ absurd (good (sym (same_end outcomes.Denied outcome (rw misfit at after))))
    ]
