-- An attempt keeps its tenure of the bus, as its transfers do.
use Rattle.std.proofs.Common.{◌≡◌, ◌≢◌, ℕ, true, false, Bool, List, [], ◌∷◌, Option, Some, None, refl, sym, subst, ◌∙◌}
use Rattle.std.specs.Prelude.{if◌then◌else◌}
use Rattle.std.specs.Str.{bytes_eq}
use Rattle.vme_memory.specs.declared.reply.Reply.{Reply}
use Rattle.vme_memory.specs.Steps.{Command}
use Rattle.vme_arbiter.specs.declared.command.ArbCmd.{ArbCmd}
use Rattle.vme_arbiter.specs.declared.command.ArbReply.{ArbReply}
use Rattle.vme_arbiter.specs.declared.command.ArbReply.TheVariants as arb_replies
use Rattle.vme_arbiter.specs.Requests.{is_level}
use Rattle.vme_arbiter.specs.Arbitration.{Arbitration}
use Rattle.vme_arbiter.specs.Masters.{may_give, MatchesReply}
use Rattle.vme_core.specs.declared.event.EventReply.{EventReply}
use Rattle.vme_core.specs.declared.event.EventReply.TheVariants as event_replies
use Rattle.vme_core.specs.Calls.{Call, OnBoard, OnBus}
use Rattle.vme_core.specs.NextSteps.{NextStep, NotStarted, Invokes, Returns}
use Rattle.vme_master.specs.declared.job.Job.{Job}
use Rattle.vme_master.specs.declared.job.Job.TheVariants.{Bus, Local}
use Rattle.vme_master.specs.declared.outcome.Outcome.{Outcome}
use Rattle.vme_master.specs.declared.outcome.Outcome.TheVariants as outcomes
use Rattle.vme_master.specs.Tables.{Inputs, next_of}
use Rattle.vme_master.specs.Laws.{last_arb_reply}
use Rattle.vme_master.proofs.lemmas.Tenures.{commands_are_allowed, holds_for_data}
use Rattle.vme_shared.specs.declared.reply.LineReply.{LineReply}
use Rattle.vme_shared.specs.declared.reply.LineReply.TheVariants as replies
use Rattle.vme_shared.specs.declared.outcome.SharedOutcome.{SharedOutcome}
use Rattle.vme_shared.specs.declared.outcome.SharedOutcome.TheVariants as shared
use Rattle.vme_shared.specs.Tables.{shared_next, shared_arb_reply}
use Rattle.vme_shared.proofs.lemmas.Tenures as laws
use Rattle.vme_line_task.specs.Scripts.{Attempt, Transferring, Awaiting, Sharing}
use Rattle.vme_line_task.specs.Tables.{transferring_next, awaiting_next, sharing_next, attempt_next}
use Rattle.vme_line_task.specs.Tenures.{job_arb_reply, attempt_arb_reply, IsUndeniedReply, IsGranted}
use Rattle.vme_line_task.proofs.lemmas.Below.{transferring_makes, waits_makes, shares_makes}
use Rattle.vme_line_task.proofs.Tenures.{good_end, good_freed, FreedBy, freed_stands, local_never, turn_reported, datum_reported, begin_reported, IsOwnJob}

-- an attempt begins without a reply of the arbiter
pub attempt_begins : (a : Attempt) → attempt_arb_reply a (None ∷ []) ≡ None
attempt_begins (Transferring job) = begin_reported job
attempt_begins (Awaiting job want) = begin_reported job
attempt_begins (Sharing s) = laws.begin_reported s

-- the transfers of an attempt are those of a slot, which requests the bus on a level
abbrev pub IsOwnAttempt : ℕ → ℕ → Attempt → Type 0
IsOwnAttempt slot level (Transferring job) = IsOwnJob slot level job
IsOwnAttempt slot level (Awaiting job want) = IsOwnJob slot level job
IsOwnAttempt slot level (Sharing s) = (s.slot ≡ slot) × (s.level ≡ level)

-- the arbiter's last reply to a job allows each command to the arbiter
job_turns : (slot level : ℕ) (job : Job) (g : Inputs) (cmd : ArbCmd) → IsOwnJob slot level job → is_level level ≡ true
    → next_of job g ≡ Invokes (OnBus cmd) → may_give slot (job_arb_reply job g) cmd ≡ true
job_turns slot level (Bus j) g cmd own lawful made =
    subst (λ (s : ℕ). may_give s (last_arb_reply g) cmd ≡ true) own.0
    (commands_are_allowed j g cmd (subst (λ (l : ℕ). is_level l ≡ true) (sym own.1) lawful) made)
job_turns slot level (Local j) g cmd own lawful made = absurd (local_never j g cmd made)

-- the arbiter's last reply to an attempt allows each command to the arbiter
pub attempt_turns : (slot level : ℕ) (a : Attempt) (g : Inputs) (cmd : ArbCmd) → IsOwnAttempt slot level a → is_level level ≡ true
    → attempt_next a g ≡ Invokes (OnBus cmd) → may_give slot (attempt_arb_reply a g) cmd ≡ true
attempt_turns slot level (Transferring job) g cmd own lawful made =
    job_turns slot level job g cmd own lawful (transferring_makes (next_of job g) (OnBus cmd) made)
attempt_turns slot level (Awaiting job want) g cmd own lawful made =
    job_turns slot level job g cmd own lawful (waits_makes want (next_of job g) (OnBus cmd) made)
attempt_turns slot level (Sharing s) g cmd own lawful made =
    subst (λ (one : ℕ). may_give one (shared_arb_reply s g) cmd ≡ true) own.0
    (laws.commands_are_allowed s g cmd (subst (λ (l : ℕ). is_level l ≡ true) (sym own.1) lawful) (shares_makes (shared_next s g) (OnBus cmd) made))

-- the attempt is not a command to the local port
abbrev pub IsTransfer : Attempt → Type 0
IsTransfer (Transferring (Bus j)) = Unit {0}
IsTransfer (Transferring (Local j)) = ⊥
IsTransfer (Awaiting (Bus j) want) = Unit {0}
IsTransfer (Awaiting (Local j) want) = ⊥
IsTransfer (Sharing s) = Unit {0}

-- the data of an attempt go to a board only while the arbiter's last reply is `Granted`
pub attempt_holds : (a : Attempt) (g : Inputs) (b : ℕ) (command : Option Command) → IsTransfer a
    → attempt_next a g ≡ Invokes (OnBoard b command) → attempt_arb_reply a g ≡ Some arb_replies.Granted
attempt_holds (Transferring (Bus j)) g b command transfer made =
    holds_for_data j g b command (transferring_makes (next_of (Bus j) g) (OnBoard b command) made)
attempt_holds (Transferring (Local j)) g b command transfer made = absurd transfer
attempt_holds (Awaiting (Bus j) want) g b command transfer made =
    holds_for_data j g b command (waits_makes want (next_of (Bus j) g) (OnBoard b command) made)
attempt_holds (Awaiting (Local j) want) g b command transfer made = absurd transfer
attempt_holds (Sharing s) g b command transfer made =
    laws.holds_for_data s g b command (shares_makes (shared_next s g) (OnBoard b command) made)

-- after a reply of the arbiter that fits and is no denial, the slot's state is the one that the last reply states
pub attempt_turn : (a : Attempt) (g : Inputs) (cmd : ArbCmd) (reply : ArbReply) (bus : Arbitration) (slot : ℕ)
    → attempt_next a g ≡ Invokes (OnBus cmd) → IsUndeniedReply (OnBus cmd) (event_replies.Bus reply) → MatchesReply bus slot (Some reply)
    → MatchesReply bus slot (attempt_arb_reply a (Some (event_replies.Bus reply) ∷ g))
attempt_turn (Transferring job) g cmd reply bus slot made good stands =
    turn_reported job g cmd reply bus slot (transferring_makes (next_of job g) (OnBus cmd) made) stands
attempt_turn (Awaiting job want) g cmd reply bus slot made good stands =
    turn_reported job g cmd reply bus slot (waits_makes want (next_of job g) (OnBus cmd) made) stands
attempt_turn (Sharing s) g cmd reply bus slot made good stands =
    laws.turn_reported s g cmd reply bus slot (shares_makes (shared_next s g) (OnBus cmd) made) good.fit good.granted stands

-- a reply of a board that fits leaves the arbiter's last reply unchanged
pub attempt_datum : (a : Attempt) (g : Inputs) (call : Call) (reply : Reply) → attempt_next a g ≡ Invokes call → IsUndeniedReply call (event_replies.Board reply)
    → attempt_arb_reply a (Some (event_replies.Board reply) ∷ g) ≡ attempt_arb_reply a g
attempt_datum (Transferring job) g call reply made good = datum_reported job g reply
attempt_datum (Awaiting job want) g call reply made good = datum_reported job g reply
attempt_datum (Sharing s) g call reply made good =
    laws.datum_reported s g call reply (shares_makes (shared_next s g) call made) good.fit

-- an end that is no denial, after which the slot's state is that of a slot without a reply of the arbiter; if the last
-- reply is a board's, the arbiter had not replied before
pub record EndsWell (a : Attempt) (g : Inputs) (reply : EventReply) (answer : LineReply) : Type 0 where
  pub granted : IsGranted answer
  pub free : (bus : Arbitration) (slot : ℕ) → MatchesReply bus slot (attempt_arb_reply a (Some reply ∷ g)) → MatchesReply bus slot None
  pub quiet : (datum : Reply) → reply ≡ event_replies.Board datum → attempt_arb_reply a g ≡ None

-- the end of an attempt is the end of its task
record EndsBy (next : NextStep Outcome) (answer : LineReply) : Type 0 where
  outcome : Outcome
  ends : next ≡ Returns outcome
  granted : outcome ≢ outcomes.Denied → IsGranted answer

-- the end of a transfer or a local command is the end of its task
transferring_ends : (next : NextStep Outcome) (answer : LineReply) → transferring_next next ≡ Returns answer → EndsBy next answer
transferring_ends NotStarted answer ends = absurd cc
transferring_ends (Invokes call) answer ends = absurd cc
transferring_ends (Returns outcome) answer ends = record {
  outcome = outcome;
  ends = refl;
  granted = λ good. (λ denied. good cc, λ denied. absurd cc);
}

-- `Met` and `Timeout` are no denials
found_granted : (b : Bool) (answer : LineReply) → Returns (if b then replies.Met else replies.Timeout) ≡ Returns answer → IsGranted answer
found_granted true answer ends = (λ denied. absurd cc, λ denied. absurd cc)
found_granted false answer ends = (λ denied. absurd cc, λ denied. absurd cc)

-- the end of a read that waits for bytes is the end of its task
waits_ends : (want : List ℕ) (next : NextStep Outcome) (answer : LineReply) → awaiting_next want next ≡ Returns answer → EndsBy next answer
waits_ends want NotStarted answer ends = absurd cc
waits_ends want (Invokes call) answer ends = absurd cc
waits_ends want (Returns (outcomes.Read bytes)) answer ends = record {
  outcome = outcomes.Read bytes;
  ends = refl;
  granted = λ good. found_granted (bytes_eq bytes.items want) answer ends;
}
waits_ends want (Returns outcome) answer ends = record {
  outcome = outcome;
  ends = refl;
  granted = λ good. (λ denied. good cc, λ denied. absurd cc);
}

-- the end of a request to a lock or a mailbox, whose outcome is the line's reply
record SharedEnd (next : NextStep SharedOutcome) (answer : LineReply) : Type 0 where
  outcome : SharedOutcome
  ends : next ≡ Returns outcome
  is : replies.Shared outcome ≡ answer

-- the end of a request to a lock or a mailbox is the end of its task
shares_ends : (next : NextStep SharedOutcome) (answer : LineReply) → sharing_next next ≡ Returns answer → SharedEnd next answer
shares_ends NotStarted answer ends = absurd cc
shares_ends (Invokes call) answer ends = absurd cc
shares_ends (Returns outcome) answer ends = record { outcome = outcome; ends = refl; is = cc }

-- the reply of a request to a lock or a mailbox whose outcome is no denial is no denial
shared_granted : (outcome : SharedOutcome) → outcome ≢ shared.Denied → IsGranted (replies.Shared outcome)
shared_granted outcome good = (λ denied. absurd cc, λ denied. good cc)

-- if a board's reply ends a job, the job has no reply of the arbiter
board_quiet : (job : Job) (g : Inputs) (reply : EventReply) (datum : Reply) → FreedBy job reply → reply ≡ event_replies.Board datum → job_arb_reply job g ≡ None
board_quiet (Bus j) g reply datum freed board = absurd cc
board_quiet (Local j) g reply datum freed board = refl

-- an attempt that ends with a reply that fits and is no denial ends well
pub attempt_ends : (a : Attempt) (g : Inputs) (call : Call) (reply : EventReply) (answer : LineReply) → attempt_next a g ≡ Invokes call
    → IsUndeniedReply call reply → attempt_next a (Some reply ∷ g) ≡ Returns answer → EndsWell a g reply answer
attempt_ends (Transferring job) g call reply answer made good ends =
    let was : next_of job g ≡ Invokes call = transferring_makes (next_of job g) call made in
    let by = transferring_ends (next_of job (Some reply ∷ g)) answer ends in
    let freed = good_freed job g call reply by.outcome was good by.ends in
    record {
      granted = by.granted (good_end job g call reply by.outcome was good by.ends);
      free = λ bus slot stands. freed_stands job g reply bus slot freed stands;
      quiet = λ datum board. board_quiet job g reply datum freed board;
    }
attempt_ends (Awaiting job want) g call reply answer made good ends =
    let was : next_of job g ≡ Invokes call = waits_makes want (next_of job g) call made in
    let by = waits_ends want (next_of job (Some reply ∷ g)) answer ends in
    let freed = good_freed job g call reply by.outcome was good by.ends in
    record {
      granted = by.granted (good_end job g call reply by.outcome was good by.ends);
      free = λ bus slot stands. freed_stands job g reply bus slot freed stands;
      quiet = λ datum board. board_quiet job g reply datum freed board;
    }
attempt_ends (Sharing s) g call reply answer made good ends =
    let by = shares_ends (shared_next s (Some reply ∷ g)) answer ends in
    let well = laws.ends_well s g call reply by.outcome (shares_makes (shared_next s g) call made) good.fit good.granted by.ends in
    record {
      granted = subst IsGranted by.is (shared_granted by.outcome well.granted);
      free = λ bus slot stands. subst (MatchesReply bus slot) well.nothing stands;
      quiet = λ datum board. let one : event_replies.Bus arb_replies.Freed ≡ event_replies.Board datum = sym well.freed ∙ board in absurd cc;
    }
