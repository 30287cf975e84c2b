-- A lock, an unlock, a put and a take keep their tenure of the bus, transfer by transfer.
use Rattle.std.proofs.Common.{◌≡◌, ◌≢◌, ℕ, ◌<◌, true, [], ◌∷◌, length, Option, Some, None, Result, Ok, Err, refl, ap, sym, subst, ◌∙◌}
use Rattle.vme_cycle.specs.declared.fault.CycleFault.{CycleFault}
use Rattle.vme_cycle.specs.declared.request.Request.{Request}
use Rattle.vme_cycle.specs.Requests.{addr_of, count_of}
use Rattle.vme_cycle.specs.Lawful.{Transfer, transfer_of}
use Rattle.vme_cycle.proofs.lemmas.Transfers.{comes_from}
use Rattle.vme_decode.specs.Select.{selection_at}
use Rattle.vme_memory.specs.declared.reply.Reply.{Reply}
use Rattle.vme_memory.specs.Steps.{Command}
use Rattle.vme_arbiter.specs.declared.command.ArbCmd.{ArbCmd}
use Rattle.vme_arbiter.specs.declared.command.ArbReply.{ArbReply}
use Rattle.vme_arbiter.specs.declared.command.ArbReply.TheVariants as arb_replies
use Rattle.vme_arbiter.specs.Requests.{is_level}
use Rattle.vme_arbiter.specs.Arbitration.{Arbitration}
use Rattle.vme_arbiter.specs.Masters.{may_give, MatchesReply}
use Rattle.vme_core.specs.declared.event.EventReply.{EventReply}
use Rattle.vme_core.specs.declared.event.EventReply.TheVariants as replies
use Rattle.vme_core.specs.Calls.{Call, OnBoard, OnBus}
use Rattle.vme_core.specs.NextSteps.{NextStep, NotStarted, Invokes, Returns}
use Rattle.vme_core.proofs.lemmas.NextSteps.{map_makes}
use Rattle.vme_master.specs.declared.job.BusJob.{BusJob}
use Rattle.vme_master.specs.declared.job.Job.{Job}
use Rattle.vme_master.specs.declared.job.Job.TheVariants.{Bus}
use Rattle.vme_master.specs.declared.outcome.Outcome.{Outcome}
use Rattle.vme_master.specs.declared.outcome.Outcome.TheVariants as outcomes
use Rattle.vme_master.specs.Jobs.{bus_job, fits_call, request_expected}
use Rattle.vme_master.specs.Tables.{Inputs, next_of}
use Rattle.vme_master.specs.Laws.{last_arb_reply, IsBelow}
use Rattle.vme_master.proofs.lemmas.Tenures as transfers
use Rattle.vme_master.proofs.lemmas.Locals as locals
use Rattle.vme_shared.specs.declared.mailbox.Mailbox.{Mailbox}
use Rattle.vme_shared.specs.declared.outcome.SharedOutcome.{SharedOutcome}
use Rattle.vme_shared.specs.declared.outcome.SharedOutcome.TheVariants as shared
use Rattle.vme_shared.specs.declared.request.SharedRequest.{SharedRequest}
use Rattle.vme_shared.specs.declared.request.SharedRequest.TheVariants.{Lock, Unlock, Put, Take}
use Rattle.vme_shared.specs.declared.stage.Stage.{Stage}
use Rattle.vme_shared.specs.declared.stage.Stage.TheVariants as stages
use Rattle.vme_shared.specs.declared.stage.StageResult.{StageResult}
use Rattle.vme_shared.specs.declared.stage.StageResult.TheVariants.{Continue, Finish}
use Rattle.vme_shared.specs.Mailboxes.{mailbox_request, stage_request}
use Rattle.vme_shared.specs.Steps.{first_stage, step_after}
use Rattle.vme_shared.specs.Tables.{SharedJob, Progress, At, Over, checked_job, stage_job, stage_begun, step_begun, progress_by, progress_given, progress_of, task_shown, next_at, shared_next, arb_reply_at, shared_arb_reply}
use Rattle.vme_shared.proofs.Transfers.{IsFormed, good_end, ends_formed}
use Rattle.vme_shared.proofs.Steps.{IsSound, IsGood, GoesSound, first_sound, step_goes, step_good}

-- the current stage has its own bus job, which has not ended
record IsCurrent (s : SharedJob) (stage : Stage) (job : Job) (given : Inputs) : Type 0 where
  own : stage_job s stage ≡ Ok job
  sound : IsSound stage
  going : (outcome : Outcome) → next_of job given ≢ Returns outcome

-- a progress at a stage has its own bus job, which has not ended
abbrev Standing : SharedJob → Progress → Type 0
Standing s (At stage job given) = IsCurrent s stage job given
Standing s (Over end) = Unit {0}

-- a stage before its first call has its own bus job
fresh_standing : (s : SharedJob) (stage : Stage) (job : Result Job CycleFault) → stage_job s stage ≡ job → IsSound stage
    → Standing s (stage_begun stage [] job)
fresh_standing s stage (Ok job) own sound = record { own = own; sound = sound; going = λ outcome ends. absurd cc }
fresh_standing s stage (Err fault) own sound = tt

-- a stage after its first call has its own bus job
called_standing : (s : SharedJob) (stage : Stage) (job : Result Job CycleFault) → stage_job s stage ≡ job → IsSound stage
    → Standing s (stage_begun stage (None ∷ []) job)
called_standing s stage (Ok job) own sound = record { own = own; sound = sound; going = λ outcome ends. absurd cc }
called_standing s stage (Err fault) own sound = tt

-- the stage that follows a transfer has its own bus job
step_standing : (s : SharedJob) (step : StageResult) → GoesSound step → Standing s (step_begun s step)
step_standing s (Continue stage) sound = called_standing s stage (stage_job s stage) refl sound
step_standing s (Finish end) sound = tt

-- whatever its bus job does next, the current stage has its own bus job
by_standing : (s : SharedJob) (stage : Stage) (job : Job) (given : Inputs) (next : NextStep Outcome) → next_of job given ≡ next
    → stage_job s stage ≡ Ok job → IsSound stage → Standing s (progress_by s stage job given next)
by_standing s stage job given NotStarted is own sound =
    record { own = own; sound = sound; going = λ outcome ends. let same : NotStarted ≡ Returns outcome = sym is ∙ ends in absurd cc }
by_standing s stage job given (Invokes call) is own sound = record {
  own = own;
  sound = sound;
  going = λ outcome ends. let same : Invokes call ≡ Returns outcome = sym is ∙ ends in absurd cc;
}
by_standing s stage job given (Returns outcome) is own sound =
    step_standing s (step_after s.request stage outcome) (step_goes s.request stage outcome)

-- after one more reply, the current stage has its own bus job
given_standing : (s : SharedJob) (p : Progress) (last : Option EventReply) → Standing s p → Standing s (progress_given s last p)
given_standing s (At stage job given) last at =
    by_standing s stage job (last ∷ given) (next_of job (last ∷ given)) refl at.own at.sound
given_standing s (Over end) last at = tt

-- after any replies, the current stage has its own bus job
standing : (s : SharedJob) (g : Inputs) → Standing s (progress_of s g)
standing s [] = fresh_standing s (first_stage s.request) (stage_job s (first_stage s.request)) refl (first_sound s.request)
standing s (last ∷ g) = given_standing s (progress_of s g) last (standing s g)

-- the bus job of a stage is one of the slot, on its level, for the stage's transfer
record OwnTask (s : SharedJob) (stage : Stage) (job : Job) : Type 0 where
  bus : BusJob
  is : job ≡ Bus bus
  slot : bus.slot ≡ s.slot
  level : bus.level ≡ s.level
  below : IsBelow (length s.map) (Bus bus)
  request : bus.transfer.request ≡ stage_request s.request stage

-- the bus job of a lawful transfer is one of the slot, on its level
same_job : (s : SharedJob) (t : Transfer) (job : Job) → checked_job s (Ok t) ≡ Ok job → job ≡ bus_job s.map s.slot s.level t
same_job s t job same = cc

-- the bus job of a lawful transfer is one for the transfer, over the boards of the map
own_by : (s : SharedJob) (stage : Stage) (transfer : Result Transfer CycleFault) (job : Job)
    → transfer_of (stage_request s.request stage) ≡ transfer → checked_job s transfer ≡ Ok job → OwnTask s stage job
own_by s stage (Err fault) job from own = absurd cc
own_by s stage (Ok t) job from own = record {
  bus = record { slot = s.slot; level = s.level; transfer = t; place = selection_at s.map t.am (addr_of t.request) };
  is = same_job s t job own;
  slot = refl;
  level = refl;
  below = locals.bus_below s.map s.slot s.level t;
  request = (comes_from (stage_request s.request stage) t from).same;
}

-- the bus job of a stage satisfies `OwnTask`
own_task : (s : SharedJob) (stage : Stage) (job : Job) → stage_job s stage ≡ Ok job → OwnTask s stage job
own_task s stage job own = own_by s stage (transfer_of (stage_request s.request stage)) job refl own

-- each transfer of a mailbox has one datum
mailbox_single : (m : Mailbox) (stage : Stage) → count_of (mailbox_request m stage) ≡ 1
mailbox_single m stages.Locks = refl
mailbox_single m stages.ReadsPutCount = refl
mailbox_single m (stages.ReadsTakeCount p) = refl
mailbox_single m (stages.WritesWord p word) = refl
mailbox_single m (stages.RaisesPutCount p) = refl
mailbox_single m (stages.ReadsWord t) = refl
mailbox_single m (stages.RaisesTakeCount t word) = refl
mailbox_single m (stages.Unlocks end) = refl

-- each transfer of a lock, an unlock, a put or a take has one datum
single : (request : SharedRequest) (stage : Stage) → count_of (stage_request request stage) ≡ 1
single (Lock am addr) stage = refl
single (Unlock am addr) stage = refl
single (Put mailbox word) stage = mailbox_single mailbox stage
single (Take mailbox) stage = mailbox_single mailbox stage

-- a call is that of the current bus job
pub shown_makes : (next : NextStep Outcome) (call : Call) → task_shown next ≡ Invokes call → next ≡ Invokes call
shown_makes next call made = map_makes (λ outcome. shared.Denied) next call made

-- at each progress the arbiter's last reply allows the command to the arbiter
turns_at : (s : SharedJob) (p : Progress) (cmd : ArbCmd) → Standing s p → is_level s.level ≡ true → next_at p ≡ Invokes (OnBus cmd)
    → may_give s.slot (arb_reply_at p) cmd ≡ true
turns_at s (At stage job given) cmd at lawful made =
    let own = own_task s stage job at.own in
    let task : next_of (Bus own.bus) given ≡ Invokes (OnBus cmd) =
    subst (λ (one : Job). next_of one given ≡ Invokes (OnBus cmd)) own.is (shown_makes (next_of job given) (OnBus cmd) made) in
    subst (λ (slot : ℕ). may_give slot (last_arb_reply given) cmd ≡ true) own.slot
    (transfers.commands_are_allowed own.bus given cmd (ap is_level own.level ∙ lawful) task)
turns_at s (Over end) cmd at lawful made = absurd cc

-- the arbiter's last reply allows each command to the arbiter
pub commands_are_allowed : (s : SharedJob) (g : Inputs) (cmd : ArbCmd) → is_level s.level ≡ true → shared_next s g ≡ Invokes (OnBus cmd)
    → may_give s.slot (shared_arb_reply s g) cmd ≡ true
commands_are_allowed s g cmd lawful made = turns_at s (progress_of s g) cmd (standing s g) lawful made

-- at each progress data go to a board only while the arbiter's last reply is `Granted`
holds_at : (s : SharedJob) (p : Progress) (board : ℕ) (command : Option Command) → Standing s p
    → next_at p ≡ Invokes (OnBoard board command) → arb_reply_at p ≡ Some arb_replies.Granted
holds_at s (At stage job given) board command at made =
    let own = own_task s stage job at.own in
    transfers.holds_for_data own.bus given board command
    (subst (λ (one : Job). next_of one given ≡ Invokes (OnBoard board command)) own.is
    (shown_makes (next_of job given) (OnBoard board command) made))
holds_at s (Over end) board command at made = absurd cc

-- data go to a board only while the arbiter's last reply is `Granted`
pub holds_for_data : (s : SharedJob) (g : Inputs) (board : ℕ) (command : Option Command)
    → shared_next s g ≡ Invokes (OnBoard board command) → shared_arb_reply s g ≡ Some arb_replies.Granted
holds_for_data s g board command made = holds_at s (progress_of s g) board command (standing s g) made

-- at each progress the board that is called is one of the map
below_at : (s : SharedJob) (p : Progress) (board : ℕ) (command : Option Command) → Standing s p
    → next_at p ≡ Invokes (OnBoard board command) → board < length s.map
below_at s (At stage job given) board command at made =
    let own = own_task s stage job at.own in
    locals.calls_below (length s.map) (Bus own.bus) given board command own.below
    (subst (λ (one : Job). next_of one given ≡ Invokes (OnBoard board command)) own.is
    (shown_makes (next_of job given) (OnBoard board command) made))
below_at s (Over end) board command at made = absurd cc

-- each board that is called is one of the map
pub calls_below : (s : SharedJob) (g : Inputs) (board : ℕ) (command : Option Command)
    → shared_next s g ≡ Invokes (OnBoard board command) → board < length s.map
calls_below s g board command made = below_at s (progress_of s g) board command (standing s g) made

-- a first stage has no reply of the arbiter at its first call
begun_reported : (s : SharedJob) (stage : Stage) (job : Result Job CycleFault)
    → arb_reply_at (progress_given s None (stage_begun stage [] job)) ≡ None
begun_reported s stage (Ok job) = refl
begun_reported s stage (Err fault) = refl

-- there is no reply of the arbiter at the first call
pub begin_reported : (s : SharedJob) → shared_arb_reply s (None ∷ []) ≡ None
begin_reported s = begun_reported s (first_stage s.request) (stage_job s (first_stage s.request))

-- a transfer that begins has no reply of the arbiter
called_reported : (stage : Stage) (job : Result Job CycleFault) → arb_reply_at (stage_begun stage (None ∷ []) job) ≡ None
called_reported stage (Ok job) = refl
called_reported stage (Err fault) = refl

-- after a transfer, there is no reply of the arbiter
step_reported : (s : SharedJob) (step : StageResult) → arb_reply_at (step_begun s step) ≡ None
step_reported s (Continue stage) = called_reported stage (stage_job s stage)
step_reported s (Finish end) = refl

-- a transfer that ends with a good reply: the bus is free, and what follows is good
record EndsWell (s : SharedJob) (stage : Stage) (reply : EventReply) (outcome : Outcome) : Type 0 where
  freed : reply ≡ replies.Bus arb_replies.Freed
  good : IsGood (step_after s.request stage outcome)

-- a transfer that ends after a good reply ends well
task_ends : (s : SharedJob) (stage : Stage) (job : Job) (given : Inputs) (call : Call) (reply : EventReply) (outcome : Outcome)
    → IsCurrent s stage job given → next_of job given ≡ Invokes call → fits_call call reply ≡ true → reply ≢ replies.Bus arb_replies.Denied
    → next_of job (Some reply ∷ given) ≡ Returns outcome → EndsWell s stage reply outcome
task_ends s stage job given call reply outcome at made fit good ends =
    let own = own_task s stage job at.own in
    let task : next_of (Bus own.bus) given ≡ Invokes call =
    subst (λ (one : Job). next_of one given ≡ Invokes call) own.is made in
    let over : next_of (Bus own.bus) (Some reply ∷ given) ≡ Returns outcome =
    subst (λ (one : Job). next_of one (Some reply ∷ given) ≡ Returns outcome) own.is ends in
    let granted : outcome ≢ outcomes.Denied = good_end own.bus given call reply outcome task fit good over in
    let one : count_of own.bus.transfer.request ≡ 1 = ap count_of own.request ∙ single s.request stage in
    record {
      freed = transfers.ends_freed own.bus given call reply outcome task over granted;
      good = step_good s.request stage outcome at.sound
          (subst (λ (r : Request). IsFormed (request_expected r) outcome) own.request (ends_formed own.bus (Some reply ∷ given) outcome one over))
          granted;
    }

-- after a good reply of the arbiter the slot holds or waits as it states, or the transfer has ended and the slot is free
turn_by : (s : SharedJob) (stage : Stage) (job : Job) (given : Inputs) (reply : ArbReply) (bus : Arbitration) (slot : ℕ) (next : NextStep Outcome)
    → ((outcome : Outcome) → next ≡ Returns outcome → replies.Bus reply ≡ replies.Bus arb_replies.Freed) → MatchesReply bus slot (Some reply)
    → MatchesReply bus slot (arb_reply_at (progress_by s stage job (Some (replies.Bus reply) ∷ given) next))
turn_by s stage job given reply bus slot NotStarted freed stands = stands
turn_by s stage job given reply bus slot (Invokes call) freed stands = stands
turn_by s stage job given reply bus slot (Returns outcome) freed stands =
    let free : reply ≡ arb_replies.Freed = let one = freed outcome refl in cc in
    subst (MatchesReply bus slot) (sym (step_reported s (step_after s.request stage outcome)))
    (subst (λ (r : ArbReply). MatchesReply bus slot (Some r)) free stands)

-- at each progress, after a good reply of the arbiter, the slot holds or waits as the last reply states
turn_at : (s : SharedJob) (p : Progress) (cmd : ArbCmd) (reply : ArbReply) (bus : Arbitration) (slot : ℕ) → Standing s p
    → next_at p ≡ Invokes (OnBus cmd) → fits_call (OnBus cmd) (replies.Bus reply) ≡ true → replies.Bus reply ≢ replies.Bus arb_replies.Denied
    → MatchesReply bus slot (Some reply) → MatchesReply bus slot (arb_reply_at (progress_given s (Some (replies.Bus reply)) p))
turn_at s (At stage job given) cmd reply bus slot at made fit good stands =
    turn_by s stage job given reply bus slot (next_of job (Some (replies.Bus reply) ∷ given))
    (λ outcome ends.
    let well = task_ends s stage job given (OnBus cmd) (replies.Bus reply) outcome at (shown_makes (next_of job given) (OnBus cmd) made) fit good ends in
    well.freed)
    stands
turn_at s (Over end) cmd reply bus slot at made fit good stands = absurd cc

-- after a good reply of the arbiter the slot holds or waits as the last reply states
pub turn_reported : (s : SharedJob) (g : Inputs) (cmd : ArbCmd) (reply : ArbReply) (bus : Arbitration) (slot : ℕ)
    → shared_next s g ≡ Invokes (OnBus cmd) → fits_call (OnBus cmd) (replies.Bus reply) ≡ true → replies.Bus reply ≢ replies.Bus arb_replies.Denied
    → MatchesReply bus slot (Some reply) → MatchesReply bus slot (shared_arb_reply s (Some (replies.Bus reply) ∷ g))
turn_reported s g cmd reply bus slot made fit good stands = turn_at s (progress_of s g) cmd reply bus slot (standing s g) made fit good stands

-- a good reply of a board leaves the arbiter's last reply the same, at each stage
datum_by : (s : SharedJob) (stage : Stage) (job : Job) (given : Inputs) (reply : Reply) (next : NextStep Outcome)
    → ((outcome : Outcome) → next ≡ Returns outcome → replies.Board reply ≡ replies.Bus arb_replies.Freed)
    → arb_reply_at (progress_by s stage job (Some (replies.Board reply) ∷ given) next) ≡ last_arb_reply given
datum_by s stage job given reply NotStarted freed = refl
datum_by s stage job given reply (Invokes call) freed = refl
datum_by s stage job given reply (Returns outcome) freed = let one = freed outcome refl in absurd cc

-- at each progress a good reply of a board leaves the arbiter's last reply the same
datum_at : (s : SharedJob) (p : Progress) (call : Call) (reply : Reply) → Standing s p → next_at p ≡ Invokes call
    → fits_call call (replies.Board reply) ≡ true → arb_reply_at (progress_given s (Some (replies.Board reply)) p) ≡ arb_reply_at p
datum_at s (At stage job given) call reply at made fit =
    datum_by s stage job given reply (next_of job (Some (replies.Board reply) ∷ given))
    (λ outcome ends.
    let well = task_ends s stage job given call (replies.Board reply) outcome at (shown_makes (next_of job given) call made) fit (λ same. absurd cc) ends in
    well.freed)
datum_at s (Over end) call reply at made fit = absurd cc

-- a board's reply that fits leaves the arbiter's last reply the same
pub datum_reported : (s : SharedJob) (g : Inputs) (call : Call) (reply : Reply) → shared_next s g ≡ Invokes call
    → fits_call call (replies.Board reply) ≡ true → shared_arb_reply s (Some (replies.Board reply) ∷ g) ≡ shared_arb_reply s g
datum_reported s g call reply made fit = datum_at s (progress_of s g) call reply (standing s g) made fit

-- an end after a good reply: it is no denial, the bus is free, and no reply of the arbiter is left
pub record GoodEnd (reply : EventReply) (end : SharedOutcome) (last : Option ArbReply) : Type 0 where
  pub granted : end ≢ shared.Denied
  pub freed : reply ≡ replies.Bus arb_replies.Freed
  pub nothing : last ≡ None

-- a task that ends at the first call of a stage ends with a bus error
called_ends : (stage : Stage) (job : Result Job CycleFault) (end : SharedOutcome) → next_at (stage_begun stage (None ∷ []) job) ≡ Returns end
    → end ≡ shared.Berr
called_ends stage (Ok job) end ends = absurd cc
called_ends stage (Err fault) end ends = cc

-- a good step ends with no denial
step_ends : (s : SharedJob) (step : StageResult) (end : SharedOutcome) → IsGood step → next_at (step_begun s step) ≡ Returns end
    → end ≢ shared.Denied
step_ends s (Continue stage) end good ends = λ denied. let berr = called_ends stage (stage_job s stage) end ends in absurd cc
step_ends s (Finish stop) end good ends = λ denied. let same : stop ≡ end = cc in good (same ∙ denied)

-- a task that ends after a good reply at a stage has a good end
ends_by : (s : SharedJob) (stage : Stage) (job : Job) (given : Inputs) (reply : EventReply) (end : SharedOutcome) (next : NextStep Outcome)
    → next_of job (Some reply ∷ given) ≡ next → ((outcome : Outcome) → next ≡ Returns outcome → EndsWell s stage reply outcome)
    → next_at (progress_by s stage job (Some reply ∷ given) next) ≡ Returns end
    → GoodEnd reply end (arb_reply_at (progress_by s stage job (Some reply ∷ given) next))
ends_by s stage job given reply end NotStarted is well ends =
    let same : task_shown NotStarted ≡ Returns end = ap task_shown (sym is) ∙ ends in absurd cc
ends_by s stage job given reply end (Invokes call) is well ends =
    let same : task_shown (Invokes call) ≡ Returns end = ap task_shown (sym is) ∙ ends in absurd cc
ends_by s stage job given reply end (Returns outcome) is well ends =
    let one = well outcome refl in
    record {
      granted = step_ends s (step_after s.request stage outcome) end one.good ends;
      freed = one.freed;
      nothing = step_reported s (step_after s.request stage outcome);
    }

-- at each progress an end after a good reply is a good end
ends_at : (s : SharedJob) (p : Progress) (call : Call) (reply : EventReply) (end : SharedOutcome) → Standing s p → next_at p ≡ Invokes call
    → fits_call call reply ≡ true → reply ≢ replies.Bus arb_replies.Denied → next_at (progress_given s (Some reply) p) ≡ Returns end
    → GoodEnd reply end (arb_reply_at (progress_given s (Some reply) p))
ends_at s (At stage job given) call reply end at made fit good ends =
    ends_by s stage job given reply end (next_of job (Some reply ∷ given)) refl
    (λ outcome over. task_ends s stage job given call reply outcome at (shown_makes (next_of job given) call made) fit good over) ends
ends_at s (Over stop) call reply end at made fit good ends = absurd cc

-- an end after a good reply is no denial, and the bus is free
pub ends_well : (s : SharedJob) (g : Inputs) (call : Call) (reply : EventReply) (end : SharedOutcome) → shared_next s g ≡ Invokes call
    → fits_call call reply ≡ true → reply ≢ replies.Bus arb_replies.Denied → shared_next s (Some reply ∷ g) ≡ Returns end
    → GoodEnd reply end (shared_arb_reply s (Some reply ∷ g))
ends_well s g call reply end made fit good ends = ends_at s (progress_of s g) call reply end (standing s g) made fit good ends

-- at each progress an end is final
stays_at : (s : SharedJob) (p : Progress) (end : SharedOutcome) (last : Option EventReply) → Standing s p → next_at p ≡ Returns end
    → next_at (progress_given s last p) ≡ Returns end
stays_at s (At stage job given) end last at ends = absurd (never (next_of job given) refl)
  where
    never : (next : NextStep Outcome) → next_of job given ≡ next → ⊥
    never NotStarted is = let same : task_shown NotStarted ≡ Returns end = ap task_shown (sym is) ∙ ends in absurd cc
    never (Invokes call) is = let same : task_shown (Invokes call) ≡ Returns end = ap task_shown (sym is) ∙ ends in absurd cc
    never (Returns outcome) is = at.going outcome is
stays_at s (Over stop) end last at ends = ends

-- an end is final
pub end_stays : (s : SharedJob) (g : Inputs) (end : SharedOutcome) (last : Option EventReply) → shared_next s g ≡ Returns end
    → shared_next s (last ∷ g) ≡ Returns end
end_stays s g end last ends = stays_at s (progress_of s g) end last (standing s g) ends
