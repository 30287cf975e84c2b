-- A line keeps its tenure of the bus, as its attempts do.
use Rattle.std.proofs.Common.{◌≡◌, ℕ, ◌-◌, true, List, [], ◌∷◌, Option, Some, None, Result, Ok, Err, refl, ap, sym, subst, ◌∙◌, inl, inr, ◌⊎◌}
use Rattle.std.specs.Prelude.{nat_lt, ◌&&◌, length}
use Rattle.std.proofs.lemmas.Bool.{cases_Bool}
use Rattle.vme_cycle.specs.declared.fault.CycleFault.{CycleFault}
use Rattle.vme_cycle.specs.declared.request.Request.TheVariants as requests
use Rattle.vme_cycle.specs.Lawful.{Transfer, transfer_of}
use Rattle.vme_memory.specs.declared.command.BoardCmd.{BoardCmd}
use Rattle.vme_memory.specs.declared.command.BoardCmd.TheVariants as given_cmd
use Rattle.vme_memory.specs.Locals.{command_given}
use Rattle.vme_memory.specs.declared.reply.Reply.{Reply}
use Rattle.vme_memory.specs.Steps.{Command}
use Rattle.vme_arbiter.specs.declared.command.ArbCmd.{ArbCmd}
use Rattle.vme_arbiter.specs.declared.command.ArbReply.{ArbReply}
use Rattle.vme_arbiter.specs.declared.command.ArbReply.TheVariants as arb_replies
use Rattle.vme_arbiter.specs.Requests.{is_level}
use Rattle.vme_arbiter.specs.Arbitration.{Arbitration}
use Rattle.vme_arbiter.specs.Masters.{may_give, MatchesReply}
use Rattle.vme_core.specs.declared.event.EventReply.{EventReply}
use Rattle.vme_core.specs.declared.event.EventReply.TheVariants as event_replies
use Rattle.vme_core.specs.Calls.{Call, OnBoard, OnBus}
use Rattle.vme_core.specs.NextSteps.{NextStep, NotStarted, Invokes, Returns}
use Rattle.vme_master.specs.Jobs.{local_job}
use Rattle.vme_master.specs.Tables.{Inputs, next_of}
use Rattle.vme_master.proofs.lemmas.Locals.{local_calls}
use Rattle.vme_shared.specs.declared.reply.LineReply.{LineReply}
use Rattle.vme_shared.specs.declared.reply.LineReply.TheVariants as replies
use Rattle.vme_shared.specs.declared.request.SharedRequest.{SharedRequest}
use Rattle.vme_shared.specs.declared.request.SharedRequest.TheVariants as asked_shared
use Rattle.vme_shared.specs.Mailboxes.{shared_refusal}
use Rattle.vme_grammar.specs.declared.line.Line.{Line}
use Rattle.vme_grammar.specs.declared.line.Line.TheVariants as lines
use Rattle.vme_grammar.specs.Grammar.{IsOwnLine}
use Rattle.vme_script.specs.Configurations.{Configuration}
use Rattle.vme_line_task.specs.Scripts.{Attempt, Transferring, Awaiting, Sharing, slot_at, level_at, mailbox_at, transfer_job, request_attempt, unless_refused, shared_job, shared_attempt, line_attempt}
use Rattle.vme_line_task.specs.Tables.{attempt_next, asks_again, AttemptsGiven, next_attempt, attempts_of, lawful_next, next_given, line_next, given_of}
use Rattle.vme_line_task.specs.Tenures.{attempt_arb_reply, lawful_arb_reply, line_arb_reply, IsLocal, IsUndeniedReply, IsGranted}
use Rattle.vme_line_task.proofs.lemmas.Below.{transferring_makes}
use Rattle.vme_line_task.proofs.Ends.{just_begun}
use Rattle.vme_line_task.proofs.Attempted.{attempt_begins, IsOwnAttempt, attempt_turns, IsTransfer, attempt_holds, attempt_turn, attempt_datum, attempt_ends}

-- the attempts after the current one was given one more reply, or an absent one
abbrev now_made : AttemptsGiven → Option EventReply → AttemptsGiven
now_made made last = record { given = last ∷ made.given; left = made.left }

-- the current attempt has ended, and another attempt begins
record IsFollowed (made : AttemptsGiven) (next : NextStep LineReply) : Type 0 where
  answer : LineReply
  ended : next ≡ Returns answer
  begun : next_attempt made next ≡ record { given = None ∷ []; left = made.left - 1 }

-- either the current attempt stays, or it has ended and another begins
either : (made : AttemptsGiven) (next : NextStep LineReply) → (next_attempt made next ≡ made) ⊎ IsFollowed made next
either made NotStarted = inl refl
either made (Invokes call) = inl refl
either made (Returns answer) =
    elim (cases_Bool (asks_again answer && nat_lt 1 made.left)) [
      | inl more ↦ inr (record { answer = answer; ended = refl; begun = rw more refl })
      | inr last ↦ inl (rw last refl)
    ]

-- the transfers of a line are of its processor's slot and level
abbrev IsOwn : ℕ → ℕ → Result Attempt CycleFault → Type 0
IsOwn slot level (Ok a) = IsOwnAttempt slot level a
IsOwn slot level (Err fault) = Unit {0}

-- the transfers of a request to a lock or a mailbox are of its processor's slot and level
shared_own : (config : Configuration) (board : ℕ) (request : SharedRequest)
    → IsOwn (slot_at config board) (level_at config board) (shared_attempt config board request)
shared_own config board request = by_refusal (shared_refusal request)
  where
    by_refusal : (refusal : Option CycleFault)
        → IsOwn (slot_at config board) (level_at config board) (unless_refused (Sharing (shared_job config board request)) refusal)
    by_refusal None = (refl, refl)
    by_refusal (Some fault) = tt

-- the transfers of a line are of its processor's slot and level
line_own : (config : Configuration) (board : ℕ) (line : Line)
    → IsOwn (slot_at config board) (level_at config board) (line_attempt config board line)
line_own config board (lines.Bus request) = request_own (transfer_of request)
  where
    request_own : (transfer : Result Transfer CycleFault)
        → IsOwn (slot_at config board) (level_at config board) (request_attempt (λ t. Transferring (transfer_job config board t)) transfer)
    request_own (Ok t) = (refl, refl)
    request_own (Err fault) = tt
line_own config board (lines.Local cmd) = tt
line_own config board (lines.Await am addr bytes) = request_own (transfer_of (requests.Read am addr (length bytes.items)))
  where
    request_own : (transfer : Result Transfer CycleFault)
        → IsOwn (slot_at config board) (level_at config board) (request_attempt (λ t. Awaiting (transfer_job config board t) bytes.items) transfer)
    request_own (Ok t) = (refl, refl)
    request_own (Err fault) = tt
line_own config board (lines.Lock am addr) = shared_own config board (asked_shared.Lock am addr)
line_own config board (lines.Unlock am addr) = shared_own config board (asked_shared.Unlock am addr)
line_own config board (lines.Put box word) = shared_own config board (asked_shared.Put (mailbox_at config box) word)
line_own config board (lines.Take box) = shared_own config board (asked_shared.Take (mailbox_at config box))

-- at the first call of a line, its current attempt was given only an absent reply
first_given : (tries : ℕ) (a : Attempt) → (attempts_of a tries (None ∷ [])).given ≡ None ∷ []
first_given tries a =
    let now : AttemptsGiven = record { given = None ∷ []; left = tries } in
    elim (either now (attempt_next a now.given)) [
      | inl same ↦ ap (λ (m : AttemptsGiven). m.given) same
      | inr next ↦ ap (λ (m : AttemptsGiven). m.given) next.begun
    ]

-- the attempts at a line begin without a reply of the arbiter
lawful_begins : (tries : ℕ) (attempt : Result Attempt CycleFault) → lawful_arb_reply tries attempt (None ∷ []) ≡ None
lawful_begins tries (Err fault) = refl
lawful_begins tries (Ok a) = ap (attempt_arb_reply a) (first_given tries a) ∙ attempt_begins a

-- a line begins without a reply of the arbiter
pub line_begins : (config : Configuration) (board : ℕ) (line : Line) → line_arb_reply config board line [] ≡ None
unfolding line_arb_reply
line_begins config board line = lawful_begins config.tries (line_attempt config board line)

-- an attempt that ends the line at its first call is no denial
lawful_first : (tries : ℕ) (attempt : Result Attempt CycleFault) (answer : LineReply) → lawful_next tries attempt (None ∷ []) ≡ Returns answer
    → IsGranted answer
lawful_first tries (Err fault) answer ends = subst IsGranted (is cc) (λ denied. absurd cc, λ denied. absurd cc)
  where
    is : replies.Refused fault ≡ answer → replies.Refused fault ≡ answer
    is same = same
lawful_first tries (Ok a) answer ends = (just_begun a answer (sym (ap (attempt_next a) (first_given tries a)) ∙ ends)).granted

-- the reply of a line without a call is no denial
pub line_first : (config : Configuration) (board : ℕ) (line : Line) (answer : LineReply) → line_next config board line [] ≡ Returns answer
    → IsGranted answer
unfolding next_given
line_first config board line answer ends = lawful_first config.tries (line_attempt config board line) answer ends

-- the arbiter's last reply to an attempt allows each command to the arbiter
lawful_turns : (slot level tries : ℕ) (attempt : Result Attempt CycleFault) (given : Inputs) (cmd : ArbCmd) → IsOwn slot level attempt
    → is_level level ≡ true → lawful_next tries attempt given ≡ Invokes (OnBus cmd) → may_give slot (lawful_arb_reply tries attempt given) cmd ≡ true
lawful_turns slot level tries (Ok a) given cmd own lawful made =
    attempt_turns slot level a (attempts_of a tries given).given cmd own lawful made
lawful_turns slot level tries (Err fault) given cmd own lawful made = absurd cc

-- the arbiter's last reply to a line's slot allows each command to the arbiter
pub line_command_allowed : (config : Configuration) (board : ℕ) (line : Line) (replies : List EventReply) (cmd : ArbCmd)
    → is_level (level_at config board) ≡ true → line_next config board line replies ≡ Invokes (OnBus cmd)
    → may_give (slot_at config board) (line_arb_reply config board line replies) cmd ≡ true
unfolding next_given line_arb_reply
line_command_allowed config board line replies cmd lawful made =
    lawful_turns (slot_at config board) (level_at config board) config.tries (line_attempt config board line) (given_of replies) cmd
    (line_own config board line) lawful made

-- data of a transfer go to a board only while the arbiter's last reply is `Granted`
lawful_holds : (tries : ℕ) (a : Attempt) (given : Inputs) (b : ℕ) (command : Option Command) → IsTransfer a
    → lawful_next tries (Ok a) given ≡ Invokes (OnBoard b command) → lawful_arb_reply tries (Ok a) given ≡ Some arb_replies.Granted
lawful_holds tries a given b command transfer made = attempt_holds a (attempts_of a tries given).given b command transfer made

-- data of a lawful request go to a board only while the arbiter's last reply is `Granted`
request_holds : (tries : ℕ) (attempt : Transfer → Attempt) (transfer : Result Transfer CycleFault) (given : Inputs) (b : ℕ) (command : Option Command)
    → ((t : Transfer) → IsTransfer (attempt t)) → lawful_next tries (request_attempt attempt transfer) given ≡ Invokes (OnBoard b command)
    → lawful_arb_reply tries (request_attempt attempt transfer) given ≡ Some arb_replies.Granted
request_holds tries attempt (Ok t) given b command each made = lawful_holds tries (attempt t) given b command (each t) made
request_holds tries attempt (Err fault) given b command each made = absurd cc

-- data of a request to a lock or a mailbox go to a board only while the arbiter's last reply is `Granted`
shared_holds : (config : Configuration) (board : ℕ) (request : SharedRequest) (given : Inputs) (b : ℕ) (command : Option Command)
    → lawful_next config.tries (shared_attempt config board request) given ≡ Invokes (OnBoard b command)
    → lawful_arb_reply config.tries (shared_attempt config board request) given ≡ Some arb_replies.Granted
shared_holds config board request given b command made = by_refusal (shared_refusal request) made
  where
    by_refusal : (refusal : Option CycleFault)
        → lawful_next config.tries (unless_refused (Sharing (shared_job config board request)) refusal) given ≡ Invokes (OnBoard b command)
        → lawful_arb_reply config.tries (unless_refused (Sharing (shared_job config board request)) refusal) given ≡ Some arb_replies.Granted
    by_refusal None made = lawful_holds config.tries (Sharing (shared_job config board request)) given b command tt made
    by_refusal (Some fault) made = absurd cc

-- the command that a line gives the local port is no bus cycle
own_local : (board b : ℕ) (cmd : BoardCmd) (g : Inputs) (command : Option Command) → IsOwnLine (lines.Local cmd)
    → next_of (local_job board cmd) g ≡ Invokes (OnBoard b command) → IsLocal command
own_local board b cmd g command own made =
    let one : OnBoard b command ≡ OnBoard board (command_given cmd) = local_calls (record { board = board; cmd = cmd }) g (OnBoard b command) made in
    let same : command_given cmd ≡ command = cc in
    subst IsLocal same (by_command cmd own)
  where
    by_command : (cmd : BoardCmd) → IsOwnLine (lines.Local cmd) → IsLocal (command_given cmd)
    by_command (given_cmd.LocalRead offset n) own = tt
    by_command (given_cmd.LocalWrite offset bytes) own = tt
    by_command (given_cmd.LocalModify offset n f) own = tt
    by_command (given_cmd.Cycle signals at f) own = absurd own

-- a command to a board is one of the local port, or the arbiter's last reply is `Granted`, by all that the line was given
line_holds_by : (config : Configuration) (board : ℕ) (line : Line) (given : Inputs) (b : ℕ) (command : Option Command) → IsOwnLine line
    → lawful_next config.tries (line_attempt config board line) given ≡ Invokes (OnBoard b command)
    → IsLocal command ⊎ (lawful_arb_reply config.tries (line_attempt config board line) given ≡ Some arb_replies.Granted)
line_holds_by config board (lines.Bus request) given b command own made =
    inr (request_holds config.tries (λ t. Transferring (transfer_job config board t)) (transfer_of request) given b command (λ t. tt) made)
line_holds_by config board (lines.Local cmd) given b command own made =
    let g = (attempts_of (Transferring (local_job board cmd)) config.tries given).given in
    inl (own_local board b cmd g command own (transferring_makes (next_of (local_job board cmd) g) (OnBoard b command) made))
line_holds_by config board (lines.Await am addr bytes) given b command own made =
    inr (request_holds config.tries (λ t. Awaiting (transfer_job config board t) bytes.items)
    (transfer_of (requests.Read am addr (length bytes.items))) given b command (λ t. tt) made)
line_holds_by config board (lines.Lock am addr) given b command own made =
    inr (shared_holds config board (asked_shared.Lock am addr) given b command made)
line_holds_by config board (lines.Unlock am addr) given b command own made =
    inr (shared_holds config board (asked_shared.Unlock am addr) given b command made)
line_holds_by config board (lines.Put box word) given b command own made =
    inr (shared_holds config board (asked_shared.Put (mailbox_at config box) word) given b command made)
line_holds_by config board (lines.Take box) given b command own made =
    inr (shared_holds config board (asked_shared.Take (mailbox_at config box)) given b command made)

-- a line's command to a board is one of the local port, or the arbiter's last reply is `Granted`
pub line_holds : (config : Configuration) (board : ℕ) (line : Line) (replies : List EventReply) (b : ℕ) (command : Option Command)
    → IsOwnLine line → line_next config board line replies ≡ Invokes (OnBoard b command)
    → IsLocal command ⊎ (line_arb_reply config board line replies ≡ Some arb_replies.Granted)
unfolding next_given line_arb_reply
line_holds config board line replies b command own made = line_holds_by config board line (given_of replies) b command own made

-- after a reply of the arbiter to an attempt that fits and is no denial, the slot's state is the one that the last reply
-- states
lawful_turn : (tries : ℕ) (attempt : Result Attempt CycleFault) (given : Inputs) (cmd : ArbCmd) (reply : ArbReply) (bus : Arbitration)
    (slot : ℕ) → lawful_next tries attempt given ≡ Invokes (OnBus cmd) → IsUndeniedReply (OnBus cmd) (event_replies.Bus reply) → MatchesReply bus slot (Some reply)
    → MatchesReply bus slot (lawful_arb_reply tries attempt (Some (event_replies.Bus reply) ∷ given))
lawful_turn tries (Err fault) given cmd reply bus slot made good stands = absurd cc
lawful_turn tries (Ok a) given cmd reply bus slot made good stands =
    let was = attempts_of a tries given in
    let now = now_made was (Some (event_replies.Bus reply)) in
    let reported_now = attempt_turn a was.given cmd reply bus slot made good stands in
    elim (either now (attempt_next a now.given)) [
      | inl same ↦ subst (λ (m : AttemptsGiven). MatchesReply bus slot (attempt_arb_reply a m.given)) (sym same) reported_now
      | inr next ↦
          let ends = attempt_ends a was.given (OnBus cmd) (event_replies.Bus reply) next.answer made good next.ended in
          subst (λ (m : AttemptsGiven). MatchesReply bus slot (attempt_arb_reply a m.given)) (sym next.begun)
          (subst (MatchesReply bus slot) (sym (attempt_begins a)) (ends.free bus slot reported_now))
    ]

-- after a reply of the arbiter that fits and is no denial, the slot's state is the one that the last reply states
pub line_slot_state : (config : Configuration) (board : ℕ) (line : Line) (replies : List EventReply) (cmd : ArbCmd) (reply : ArbReply)
    (bus : Arbitration) (slot : ℕ) → line_next config board line replies ≡ Invokes (OnBus cmd) → IsUndeniedReply (OnBus cmd) (event_replies.Bus reply)
    → MatchesReply bus slot (Some reply) → MatchesReply bus slot (line_arb_reply config board line (event_replies.Bus reply ∷ replies))
unfolding next_given line_arb_reply
line_slot_state config board line replies cmd reply bus slot made good stands =
    lawful_turn config.tries (line_attempt config board line) (given_of replies) cmd reply bus slot made good stands

-- a reply of a board to an attempt that fits leaves the arbiter's last reply unchanged
lawful_datum : (tries : ℕ) (attempt : Result Attempt CycleFault) (given : Inputs) (call : Call) (reply : Reply)
    → lawful_next tries attempt given ≡ Invokes call → IsUndeniedReply call (event_replies.Board reply)
    → lawful_arb_reply tries attempt (Some (event_replies.Board reply) ∷ given) ≡ lawful_arb_reply tries attempt given
lawful_datum tries (Err fault) given call reply made good = absurd cc
lawful_datum tries (Ok a) given call reply made good =
    let was = attempts_of a tries given in
    let now = now_made was (Some (event_replies.Board reply)) in
    elim (either now (attempt_next a now.given)) [
      | inl same ↦ ap (λ (m : AttemptsGiven). attempt_arb_reply a m.given) same ∙ attempt_datum a was.given call reply made good
      | inr next ↦
          let ends = attempt_ends a was.given call (event_replies.Board reply) next.answer made good next.ended in
          ap (λ (m : AttemptsGiven). attempt_arb_reply a m.given) next.begun ∙ attempt_begins a ∙ sym (ends.quiet reply refl)
    ]

-- a reply of a board that fits leaves the arbiter's last reply unchanged
pub line_datum : (config : Configuration) (board : ℕ) (line : Line) (replies : List EventReply) (call : Call) (reply : Reply)
    → line_next config board line replies ≡ Invokes call → IsUndeniedReply call (event_replies.Board reply)
    → line_arb_reply config board line (event_replies.Board reply ∷ replies) ≡ line_arb_reply config board line replies
unfolding next_given line_arb_reply
line_datum config board line replies call reply made good =
    lawful_datum config.tries (line_attempt config board line) (given_of replies) call reply made good

-- a line's reply that is no denial, after which the slot's state is that of a slot without a reply of the arbiter
pub record IsWellEnded (answer : LineReply) (last : Option ArbReply) : Type 0 where
  pub granted : IsGranted answer
  pub free : (bus : Arbitration) (slot : ℕ) → MatchesReply bus slot last → MatchesReply bus slot None

-- attempts that end the line with a reply that fits and is no denial end without a denial
lawful_ends : (tries : ℕ) (attempt : Result Attempt CycleFault) (given : Inputs) (call : Call) (reply : EventReply) (answer : LineReply)
    → lawful_next tries attempt given ≡ Invokes call → IsUndeniedReply call reply → lawful_next tries attempt (Some reply ∷ given) ≡ Returns answer
    → IsWellEnded answer (lawful_arb_reply tries attempt (Some reply ∷ given))
lawful_ends tries (Err fault) given call reply answer made good ends = absurd cc
lawful_ends tries (Ok a) given call reply answer made good ends =
    let was = attempts_of a tries given in
    let now = now_made was (Some reply) in
    elim (either now (attempt_next a now.given)) [
      | inl same ↦
          let last : attempt_next a now.given ≡ Returns answer = sym (ap (λ (m : AttemptsGiven). attempt_next a m.given) same) ∙ ends in
          let well = attempt_ends a was.given call reply answer made good last in
          subst (λ (m : AttemptsGiven). IsWellEnded answer (attempt_arb_reply a m.given)) (sym same) (record { granted = well.granted; free = well.free })
      | inr next ↦
          let begun = just_begun a answer (sym (ap (λ (m : AttemptsGiven). attempt_next a m.given) next.begun) ∙ ends) in
          let reported_none : attempt_arb_reply a (next_attempt now (attempt_next a now.given)).given ≡ None
          = ap (λ (m : AttemptsGiven). attempt_arb_reply a m.given) next.begun ∙ attempt_begins a in
          record { granted = begun.granted; free = λ bus slot stands. subst (MatchesReply bus slot) reported_none stands }
    ]

-- a line that ends with a reply that fits and is no denial ends without a denial, and the slot's state is that of a slot
-- without a reply of the arbiter
pub line_ends : (config : Configuration) (board : ℕ) (line : Line) (replies : List EventReply) (call : Call) (reply : EventReply)
    (answer : LineReply) → line_next config board line replies ≡ Invokes call → IsUndeniedReply call reply
    → line_next config board line (reply ∷ replies) ≡ Returns answer → IsWellEnded answer (line_arb_reply config board line (reply ∷ replies))
unfolding next_given line_arb_reply
line_ends config board line replies call reply answer made good ends =
    lawful_ends config.tries (line_attempt config board line) (given_of replies) call reply answer made good ends
