-- How a line and its attempts advance by a call, and whether they end with it.
use Rattle.std.proofs.Common.{◌≡◌, ◌≢◌, ℕ, ◌-◌, nat_lt, Bool, false, true, ◌&&◌, is_some, Option, Some, None, refl, ap, sym, subst, ◌∙◌}
use Rattle.arrayvec.specs.ArrayVec.{ArrayVec}
use Rattle.vme_core.specs.declared.event.EventReply.{EventReply}
use Rattle.vme_core.specs.Runs.{Machine}
use Rattle.vme_core.specs.Calls.{Call}
use Rattle.vme_core.specs.NextSteps.{NextStep, NotStarted, Invokes, Returns, call_in, result_in, next_map}
use Rattle.vme_core.specs.Advances.{advanced_on, AdvancesOn, ends_by_call}
use Rattle.vme_core.proofs.lemmas.NextSteps.{map_rests, map_same, map_call}
use Rattle.vme_core.proofs.lemmas.Advances.{part_advances}
use Rattle.vme_master.specs.declared.outcome.Outcome.{Outcome}
use Rattle.vme_master.specs.Machine.{TaskView, advance, to_do}
use Rattle.vme_shared.specs.declared.outcome.SharedOutcome.{SharedOutcome}
use Rattle.vme_shared.specs.declared.reply.LineReply.{LineReply}
use Rattle.vme_shared.specs.declared.reply.LineReply.TheVariants as answers
use Rattle.vme_shared.specs.Machine.{SharedView, shared_advance, shared_to_do}
use Rattle.vme_shared.specs.Retries.{RetriesOn as SharedRetriesOn}
use Rattle.vme_line_task.specs.declared.task.LineTask.TheVariants.{Running}
use Rattle.vme_line_task.specs.declared.attempt.Attempts.{Attempts}
use Rattle.vme_line_task.specs.declared.attempt.AttemptTask.{AttemptTask}
use Rattle.vme_line_task.specs.declared.attempt.AttemptTask.TheVariants.{Transfer, Await, Shared}
use Rattle.vme_line_task.specs.declared.wait.AwaitTask.{AwaitTask}
use Rattle.vme_line_task.specs.Attempts.{read_attempts, shared_attempts}
use Rattle.vme_line_task.specs.Tables.{transferring_next, sharing_next, await_reply, next_wants_retry}
use Rattle.vme_line_task.specs.Machine.{line_advance, line_to_do, attempt_advance, attempt_to_do, attempts_again, attempts_advance, attempts_to_do}

-- a transfer or a local command is attempted once
transferring_once : (next : NextStep Outcome) → next_wants_retry (transferring_next next) ≡ false
transferring_once NotStarted = refl
transferring_once (Invokes call) = refl
transferring_once (Returns outcome) = refl

-- attempts at a transfer advance as the transfer's task does
pub transfer_on : (left : ℕ) (t : TaskView) (reply : Option EventReply)
    → attempts_advance (record { attempt = Transfer t; left = left }) reply ≡ record { attempt = Transfer (advance t reply); left = left }
transfer_on left t reply = rw (transferring_once (to_do (advance t reply))) refl

-- attempts at a transfer make a call and advance as the transfer's task does
pub transfer_advances : (left who : ℕ) (before after : Machine) (old new : TaskView) → AdvancesOn to_do advance who before after old new
    → AdvancesOn attempts_to_do attempts_advance who before after (record { attempt = Transfer old; left = left })
    (record { attempt = Transfer new; left = left })
transfer_advances left who before after old new it =
    part_advances (λ t. record { attempt = Transfer t; left = left }) answers.Transfer to_do attempts_to_do advance attempts_advance who before
    after old new (λ t. refl) (transfer_on left) it

-- a line makes a call and advances as its attempts do
pub running_advances : (who : ℕ) (before after : Machine) (old new : Attempts)
    → AdvancesOn attempts_to_do attempts_advance who before after old new
    → AdvancesOn line_to_do line_advance who before after (Running old) (Running new)
running_advances who before after old new it =
    part_advances Running (λ answer. answer) attempts_to_do line_to_do attempts_advance line_advance who before after old new
    (λ a. map_same (attempts_to_do a)) (λ a reply. refl) it

-- a read that waits for bytes makes a call and advances as its task does
pub waits_advances : (who : ℕ) (before after : Machine) (old new : AwaitTask) → new.want ≡ old.want
    → AdvancesOn to_do advance who before after old.task new.task
    → AdvancesOn attempt_to_do attempt_advance who before after (Await old) (Await new)
waits_advances who before after old new same it =
    subst
    (λ (want : ArrayVec ℕ). AdvancesOn attempt_to_do attempt_advance who before after (Await old) (Await (record { task = new.task; want = want })))
    (sym same)
    (part_advances (λ t. Await (record { task = t; want = old.want })) (await_reply old.want.items) to_do attempt_to_do advance attempt_advance who
    before after old.task new.task (λ t. refl) (λ t reply. refl) it)

-- an attempt at a lock or a mailbox makes a call and advances as its task does
pub shares_advances : (who : ℕ) (before after : Machine) (old new : SharedView)
    → AdvancesOn shared_to_do shared_advance who before after old new
    → AdvancesOn attempt_to_do attempt_advance who before after (Shared old) (Shared new)
shares_advances who before after old new it =
    part_advances Shared answers.Shared shared_to_do attempt_to_do shared_advance attempt_advance who before after old new (λ v. refl)
    (λ v reply. refl) it

-- whether a next step has a result, if the result is mapped
pub map_result : {R S : Type 0} (f : R → S) (next : NextStep R) → is_some (result_in next) ≡ is_some (result_in (next_map f next))
map_result f NotStarted = refl
map_result f (Invokes call) = refl
map_result f (Returns result) = refl

-- a whole ends with the call of its one part if the part does
pub part_ends : {R S : Type 0} (f : R → S) (old new : NextStep R)
    → (is_some (call_in old) && is_some (result_in new)) ≡ (is_some (call_in (next_map f old)) && is_some (result_in (next_map f new)))
part_ends f old new = rw (map_call f old, map_result f new) refl

-- a task that had not ended has ended exactly if it ended with its call
pub ends_with_call : {T R : Type 0} (next : T → NextStep R) (advance : T → Option EventReply → T) (who : ℕ) (before after : Machine) (old new : T)
    → AdvancesOn next advance who before after old new → is_some (result_in (next old)) ≡ false
    → is_some (result_in (next new)) ≡ (is_some (call_in (next old)) && is_some (result_in (next new)))
ends_with_call {T} {R} next advance who before after old new it = by (next old) refl it.step
  where
    by : (step : NextStep R) → next old ≡ step → (after, new) ≡ advanced_on advance (call_in step) who before old
        → is_some (result_in step) ≡ false → is_some (result_in (next new)) ≡ (is_some (call_in step) && is_some (result_in (next new)))
    by NotStarted is made going = ap (λ (r : Machine × T). is_some (result_in (next r.1))) made ∙ ap (λ (s : NextStep R). is_some (result_in s)) is
    by (Invokes call) is made going = refl
    by (Returns result) is made going = absurd cc

-- a task that had ended makes no call
pub had_no_call : {R : Type 0} (old new : NextStep R) → is_some (result_in old) ≡ true
    → false ≡ (is_some (call_in old) && is_some (result_in new))
had_no_call NotStarted new ended = absurd cc
had_no_call (Invokes call) new ended = absurd cc
had_no_call (Returns result) new ended = refl

-- what has ended with a call has made one
pub called_first : (called ended : Bool) → (called && ended) ≡ true → called ≡ true
called_first true ended both = refl
called_first false ended both = absurd cc

-- what has made a call has ended exactly if it ended with that call
pub called_then : (called ended : Bool) → called ≡ true → ended ≡ (called && ended)
called_then true ended is = refl
called_then false ended is = absurd cc

-- an attempt that has not ended asks for no other
pub goes_on : (a : Attempts) (next : NextStep LineReply) → is_some (result_in next) ≡ false → attempts_again a next ≡ a
goes_on a NotStarted going = refl
goes_on a (Invokes call) going = refl
goes_on a (Returns answer) going = absurd cc

-- attempts of which the current one does not end with its call make that call
pub attempts_go_on : (who : ℕ) (before after : Machine) (old : Attempts) (new : AttemptTask)
    → (is_some (call_in (attempts_to_do old)) && is_some (result_in (attempt_to_do new))) ≡ false
    → AdvancesOn attempt_to_do attempt_advance who before after old.attempt new
    → AdvancesOn attempts_to_do attempts_advance who before after old (record { attempt = new; left = old.left })
attempts_go_on who before after old new going it =
    record {
      step = by (call_in (attempts_to_do old)) going it.step;
      begun = it.begun;
      boards = it.boards;
      process_count = it.process_count;
    }
  where
    by : (call : Option Call) → (is_some call && is_some (result_in (attempt_to_do new))) ≡ false
        → (after, new) ≡ advanced_on attempt_advance call who before old.attempt
        → ◌≡◌ {A = Machine × Attempts} (after, record { attempt = new; left = old.left }) (advanced_on attempts_advance call who before old)
    by None going step = ap (λ (r : Machine × AttemptTask). let s : Machine × Attempts = (r.0, record { attempt = r.1; left = old.left }) in s) step
    by (Some call) going step =
        ap (λ (a : Attempts). (after, a)) (sym (goes_on (record { attempt = new; left = old.left }) (attempt_to_do new) going))
        ∙ ap (λ (r : Machine × AttemptTask). (r.0, attempts_again (record { attempt = r.1; left = old.left }) (attempt_to_do r.1))) step

-- attempts of which the current one had not ended make its call, and another begins if it asks for that
attempts_advance_going : (who : ℕ) (before after : Machine) (old : Attempts) (new : AttemptTask) (final : Attempts)
    → is_some (result_in (attempts_to_do old)) ≡ false
    → AdvancesOn attempt_to_do attempt_advance who before after old.attempt new
    → final ≡ attempts_again (record { attempt = new; left = old.left }) (attempt_to_do new)
    → (attempt_to_do new ≢ NotStarted → attempts_to_do final ≢ NotStarted)
    → AdvancesOn attempts_to_do attempts_advance who before after old final
attempts_advance_going who before after old new final going it is begun =
    record {
      step = by (call_in (attempts_to_do old)) it.step;
      begun = λ first. begun (it.begun first);
      boards = it.boards;
      process_count = it.process_count;
    }
  where
    by : (call : Option Call) → (after, new) ≡ advanced_on attempt_advance call who before old.attempt
        → (after, final) ≡ advanced_on attempts_advance call who before old
    by None step =
        ap (λ (a : Attempts). (after, a)) is
        ∙ ap (λ (r : Machine × AttemptTask). (r.0, attempts_again (record { attempt = r.1; left = old.left }) (attempt_to_do r.1))) step
        ∙ ap (λ (a : Attempts). (before, a)) (goes_on old (attempts_to_do old) going)
    by (Some call) step =
        ap (λ (a : Attempts). (after, a)) is
        ∙ ap (λ (r : Machine × AttemptTask). (r.0, attempts_again (record { attempt = r.1; left = old.left }) (attempt_to_do r.1))) step

-- what makes a call has not ended
pub calls_going : {R : Type 0} (next : NextStep R) → is_some (call_in next) ≡ true → is_some (result_in next) ≡ false
calls_going NotStarted made = absurd cc
calls_going (Invokes call) made = refl
calls_going (Returns result) made = absurd cc

-- attempts of which the current one ends with its call make that call, and another begins if it asks for that
attempts_advance_ended : (who : ℕ) (before after : Machine) (old : Attempts) (new : AttemptTask) (final : Attempts)
    → (is_some (call_in (attempts_to_do old)) && is_some (result_in (attempt_to_do new))) ≡ true
    → AdvancesOn attempt_to_do attempt_advance who before after old.attempt new
    → final ≡ attempts_again (record { attempt = new; left = old.left }) (attempt_to_do new)
    → (attempt_to_do new ≢ NotStarted → attempts_to_do final ≢ NotStarted)
    → AdvancesOn attempts_to_do attempts_advance who before after old final
attempts_advance_ended who before after old new final ended =
    attempts_advance_going who before after old new final
    (calls_going (attempts_to_do old) (called_first (is_some (call_in (attempts_to_do old))) (is_some (result_in (attempt_to_do new))) ended))

-- a task that begins again since its lock was taken had a call to make
retried_calls : (who : ℕ) (before after : Machine) (old new : SharedView) → SharedRetriesOn who before after old new
    → is_some (call_in (attempt_to_do (Shared old))) ≡ true
retried_calls who before after old new it = by (shared_to_do old) refl it.advances.step
  where
    by : (step : NextStep SharedOutcome) → shared_to_do old ≡ step
        → (after, it.ended) ≡ advanced_on shared_advance (call_in step) who before old → is_some (call_in (sharing_next step)) ≡ true
    by NotStarted is made =
        let rests = ap (λ (r : Machine × SharedView). shared_to_do r.1) made ∙ is in
        let busy = it.busy in
        absurd cc
    by (Invokes call) is made = refl
    by (Returns end) is made = absurd (it.going end is)

-- what asks for another attempt has ended
wants_after_end : (next : NextStep LineReply) → next_wants_retry next ≡ true → is_some (result_in next) ≡ true
wants_after_end NotStarted wanted = cc
wants_after_end (Invokes call) wanted = cc
wants_after_end (Returns answer) wanted = refl

-- a lock, a put or a take that found its lock taken and begins again makes attempts advance, and one is fewer left
pub shared_retries : (who : ℕ) (before after : Machine) (old new : SharedView) (left : ℕ) → SharedRetriesOn who before after old new
    → nat_lt 1 left ≡ true
    → AdvancesOn attempts_to_do attempts_advance who before after (shared_attempts old left) (shared_attempts new (left - 1))
shared_retries who before after old new left it more =
    let wanted : next_wants_retry (attempt_to_do (Shared it.ended)) ≡ true =
    ap (λ (next : NextStep SharedOutcome). next_wants_retry (sharing_next next)) it.busy in
    attempts_advance_ended who before after (shared_attempts old left) (Shared it.ended) (shared_attempts new (left - 1))
    (rw (retried_calls who before after old new it, wants_after_end (attempt_to_do (Shared it.ended)) wanted) refl)
    (shares_advances who before after old it.ended it.advances)
    (rw (wanted, more, it.again) refl)
    (λ started rests. it.begun (map_rests answers.Shared (shared_to_do new) rests))

-- attempts of which one has begun again have ended exactly if they ended with the call
pub shared_retried : (who : ℕ) (before after : Machine) (old new : SharedView) (left left_after : ℕ) → SharedRetriesOn who before after old new
    → is_some (result_in (shared_to_do new)) ≡ ends_by_call attempts_to_do (shared_attempts old left) (shared_attempts new left_after)
shared_retried who before after old new left left_after it =
    map_result answers.Shared (shared_to_do new)
    ∙ called_then (is_some (call_in (attempt_to_do (Shared old)))) (is_some (result_in (attempt_to_do (Shared new))))
    (retried_calls who before after old new it)

-- attempts at a lock or a mailbox of which the current one had not ended make its call, and another begins if it asks for that
pub shared_advances : (who : ℕ) (before after : Machine) (old new final : SharedView) (left left_after : ℕ)
    → is_some (result_in (shared_to_do old)) ≡ false
    → AdvancesOn shared_to_do shared_advance who before after old new
    → shared_attempts final left_after ≡ attempts_again (shared_attempts new left) (attempts_to_do (shared_attempts new left))
    → (attempts_to_do (shared_attempts new left) ≢ NotStarted → attempts_to_do (shared_attempts final left_after) ≢ NotStarted)
    → AdvancesOn attempts_to_do attempts_advance who before after (shared_attempts old left) (shared_attempts final left_after)
shared_advances who before after old new final left left_after going it is begun =
    attempts_advance_going who before after (shared_attempts old left) (Shared new) (shared_attempts final left_after)
    (sym (map_result answers.Shared (shared_to_do old)) ∙ going) (shares_advances who before after old new it) is begun

-- attempts at a lock or a mailbox that had not ended have ended exactly if they ended with the call
pub shared_ends : (who : ℕ) (before after : Machine) (old final : SharedView) (left left_after : ℕ)
    → is_some (result_in (shared_to_do old)) ≡ false
    → AdvancesOn attempts_to_do attempts_advance who before after (shared_attempts old left) (shared_attempts final left_after)
    → is_some (result_in (shared_to_do final)) ≡ ends_by_call attempts_to_do (shared_attempts old left) (shared_attempts final left_after)
shared_ends who before after old final left left_after going it =
    map_result answers.Shared (shared_to_do final)
    ∙ ends_with_call attempts_to_do attempts_advance who before after (shared_attempts old left) (shared_attempts final left_after) it
    (sym (map_result answers.Shared (shared_to_do old)) ∙ going)

-- attempts at a lock or a mailbox that had ended make no call
pub shared_no_call : (old new : SharedView) (left : ℕ) → is_some (result_in (shared_to_do old)) ≡ true
    → false ≡ ends_by_call attempts_to_do (shared_attempts old left) (shared_attempts new left)
shared_no_call old new left ended =
    had_no_call (attempts_to_do (shared_attempts old left)) (attempts_to_do (shared_attempts new left)) (sym (map_result answers.Shared (shared_to_do old)) ∙ ended)

-- attempts at a lock or a mailbox that had ended stay as they are
pub shared_rests : (who : ℕ) (before after : Machine) (old new : SharedView) (left : ℕ) → is_some (result_in (shared_to_do old)) ≡ true
    → AdvancesOn shared_to_do shared_advance who before after old new
    → AdvancesOn attempts_to_do attempts_advance who before after (shared_attempts old left) (shared_attempts new left)
shared_rests who before after old new left ended it =
    attempts_go_on who before after (shared_attempts old left) (Shared new) (sym (shared_no_call old new left ended))
    (shares_advances who before after old new it)

-- attempts at a read that waits for bytes end with the call of the current one if it does
pub read_ends : (old new : AwaitTask) (left : ℕ) → new.want ≡ old.want
    → (is_some (call_in (to_do old.task)) && is_some (result_in (to_do new.task))) ≡ ends_by_call attempts_to_do (read_attempts old left) (read_attempts new left)
read_ends old new left same =
    subst
    (λ (want : ArrayVec ℕ). (is_some (call_in (to_do old.task)) && is_some (result_in (to_do new.task)))
    ≡ ends_by_call attempts_to_do (read_attempts old left) (read_attempts (record { task = new.task; want = want }) left))
    (sym same) (part_ends (await_reply old.want.items) (to_do old.task) (to_do new.task))

-- a read that waits for bytes and has not ended with its call is the current attempt still
pub read_goes_on : (who : ℕ) (before after : Machine) (old new : AwaitTask) (left : ℕ) → new.want ≡ old.want
    → AdvancesOn to_do advance who before after old.task new.task
    → (is_some (call_in (to_do old.task)) && is_some (result_in (to_do new.task))) ≡ false
    → AdvancesOn attempts_to_do attempts_advance who before after (read_attempts old left) (read_attempts new left)
read_goes_on who before after old new left same it going =
    attempts_go_on who before after (read_attempts old left) (Await new) (sym (read_ends old new left same) ∙ going)
    (waits_advances who before after old new same it)

-- a read that waits for bytes and has ended with its call is followed by another if it asks for that
pub read_advances : (who : ℕ) (before after : Machine) (old new final : AwaitTask) (left left_after : ℕ) → new.want ≡ old.want
    → AdvancesOn to_do advance who before after old.task new.task
    → (is_some (call_in (to_do old.task)) && is_some (result_in (to_do new.task))) ≡ true
    → read_attempts final left_after ≡ attempts_again (read_attempts new left) (attempts_to_do (read_attempts new left))
    → (attempts_to_do (read_attempts new left) ≢ NotStarted → attempts_to_do (read_attempts final left_after) ≢ NotStarted)
    → AdvancesOn attempts_to_do attempts_advance who before after (read_attempts old left) (read_attempts final left_after)
read_advances who before after old new final left left_after same it ended is begun =
    attempts_advance_ended who before after (read_attempts old left) (Await new) (read_attempts final left_after) (sym (read_ends old new left same) ∙ ended)
    (waits_advances who before after old new same it) is begun
