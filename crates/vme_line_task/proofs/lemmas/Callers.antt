-- How a line and its attempts advance by a call that a caller makes for them.
use Rattle.std.proofs.Common.{◌≡◌, ◌≢◌, ℕ, Bool, false, true, ◌&&◌, is_some, Option, Some, None, Result, Ok, Err, IfOk, refl, ap, sym, subst, ◌∙◌}
use Rattle.arrayvec.specs.ArrayVec.{ArrayVec}
use Rattle.vme_core.specs.declared.event.EventReply.{EventReply}
use Rattle.vme_core.specs.Calls.{Call}
use Rattle.vme_core.specs.NextSteps.{NotStarted, call_in, result_in}
use Rattle.vme_core.proofs.lemmas.NextSteps.{map_same}
use Rattle.vme_master.specs.Callers.{HasCalled, AdvancesBy}
use Rattle.vme_master.specs.Machine.{TaskView, advance, to_do}
use Rattle.vme_master.proofs.lemmas.Callers.{part_called}
use Rattle.vme_shared.specs.declared.reply.LineReply.TheVariants as answers
use Rattle.vme_shared.specs.Machine.{SharedView, shared_advance, shared_to_do}
use Rattle.vme_line_task.specs.declared.task.LineTask.{LineTask}
use Rattle.vme_line_task.specs.declared.task.LineTask.TheVariants.{Running}
use Rattle.vme_line_task.specs.declared.attempt.Attempts.{Attempts}
use Rattle.vme_line_task.specs.declared.attempt.AttemptTask.{AttemptTask}
use Rattle.vme_line_task.specs.declared.attempt.AttemptTask.TheVariants.{Transfer, Await, Shared}
use Rattle.vme_line_task.specs.declared.wait.AwaitTask.{AwaitTask}
use Rattle.vme_line_task.specs.Attempts.{read_attempts, shared_attempts}
use Rattle.vme_line_task.specs.Tables.{await_reply}
use Rattle.vme_line_task.specs.Machine.{line_advance, line_to_do, attempt_advance, attempt_to_do, attempts_again, attempts_advance, attempts_to_do, IsLineBelow}
use Rattle.vme_line_task.proofs.lemmas.Below.{advance_below}
use Rattle.vme_line_task.proofs.lemmas.Calls.{transfer_on, goes_on, calls_going, called_first, read_ends}

-- attempts at a transfer have a call made and advance as the transfer's task does
pub transfer_called : {C : Type 0} (made : Call → EventReply → C → C → Type 0) (left : ℕ) (before after : C) (old new : TaskView)
    → AdvancesBy made to_do advance before after old new
    → AdvancesBy made attempts_to_do attempts_advance before after (record { attempt = Transfer old; left = left })
    (record { attempt = Transfer new; left = left })
transfer_called made left before after old new it =
    part_called made (λ t. record { attempt = Transfer t; left = left }) answers.Transfer to_do attempts_to_do advance attempts_advance before after
    old new (λ t. refl) (transfer_on left) it

-- a line has a call made and advances as its attempts do
pub running_called : {C : Type 0} (made : Call → EventReply → C → C → Type 0) (before after : C) (old new : Attempts)
    → AdvancesBy made attempts_to_do attempts_advance before after old new
    → AdvancesBy made line_to_do line_advance before after (Running old) (Running new)
running_called made before after old new it =
    part_called made Running (λ answer. answer) attempts_to_do line_to_do attempts_advance line_advance before after old new
    (λ a. map_same (attempts_to_do a)) (λ a reply. refl) it

-- a read that waits for bytes has a call made and advances as its task does
waits_called : {C : Type 0} (made : Call → EventReply → C → C → Type 0) (before after : C) (old new : AwaitTask) → new.want ≡ old.want
    → AdvancesBy made to_do advance before after old.task new.task
    → AdvancesBy made attempt_to_do attempt_advance before after (Await old) (Await new)
waits_called made before after old new same it =
    subst
    (λ (want : ArrayVec ℕ). AdvancesBy made attempt_to_do attempt_advance before after (Await old) (Await (record { task = new.task; want = want })))
    (sym same)
    (part_called made (λ t. Await (record { task = t; want = old.want })) (await_reply old.want.items) to_do attempt_to_do advance attempt_advance
    before after old.task new.task (λ t. refl) (λ t reply. refl) it)

-- an attempt at a lock or a mailbox has a call made and advances as its task does
shares_called : {C : Type 0} (made : Call → EventReply → C → C → Type 0) (before after : C) (old new : SharedView)
    → AdvancesBy made shared_to_do shared_advance before after old new
    → AdvancesBy made attempt_to_do attempt_advance before after (Shared old) (Shared new)
shares_called made before after old new it =
    part_called made Shared answers.Shared shared_to_do attempt_to_do shared_advance attempt_advance before after old new (λ v. refl)
    (λ v reply. refl) it

-- attempts of which the current one does not end with its call have that call made
attempts_called_on : {C : Type 0} (made : Call → EventReply → C → C → Type 0) (before after : C) (old : Attempts) (new : AttemptTask)
    → (is_some (call_in (attempts_to_do old)) && is_some (result_in (attempt_to_do new))) ≡ false
    → AdvancesBy made attempt_to_do attempt_advance before after old.attempt new
    → AdvancesBy made attempts_to_do attempts_advance before after old (record { attempt = new; left = old.left })
attempts_called_on {C} made before after old new going it =
    record { step = by (call_in (attempts_to_do old)) going it.step; begun = it.begun }
  where
    by : (call : Option Call) → (is_some call && is_some (result_in (attempt_to_do new))) ≡ false
        → HasCalled made attempt_advance call before after old.attempt new
        → HasCalled made attempts_advance call before after old (record { attempt = new; left = old.left })
    by None going step = (step.0, ap (λ (a : AttemptTask). let s : Attempts = record { attempt = a; left = old.left } in s) step.1)
    by (Some call) going step = (
      step.0,
      step.1,
      sym (goes_on (record { attempt = new; left = old.left }) (attempt_to_do new) going)
          ∙ ap (λ (a : AttemptTask). attempts_again (record { attempt = a; left = old.left }) (attempt_to_do a)) step.2,
    )

-- attempts of which the current one had not ended have its call made, and another begins if it asks for that
attempts_called : {C : Type 0} (made : Call → EventReply → C → C → Type 0) (before after : C) (old : Attempts) (new : AttemptTask)
    (final : Attempts)
    → is_some (result_in (attempts_to_do old)) ≡ false
    → AdvancesBy made attempt_to_do attempt_advance before after old.attempt new
    → final ≡ attempts_again (record { attempt = new; left = old.left }) (attempt_to_do new)
    → (attempt_to_do new ≢ NotStarted → attempts_to_do final ≢ NotStarted)
    → AdvancesBy made attempts_to_do attempts_advance before after old final
attempts_called {C} made before after old new final going it is begun =
    record { step = by (call_in (attempts_to_do old)) it.step; begun = λ first. begun (it.begun first) }
  where
    by : (call : Option Call) → HasCalled made attempt_advance call before after old.attempt new
        → HasCalled made attempts_advance call before after old final
    by None step = (
      step.0,
      is
          ∙ ap (λ (a : AttemptTask). attempts_again (record { attempt = a; left = old.left }) (attempt_to_do a)) step.1
          ∙ goes_on old (attempts_to_do old) going,
    )
    by (Some call) step = (
      step.0,
      step.1,
      is ∙ ap (λ (a : AttemptTask). attempts_again (record { attempt = a; left = old.left }) (attempt_to_do a)) step.2,
    )

-- a read that waits for bytes and has not ended with its call is the current attempt still
pub read_called_on : {C : Type 0} (made : Call → EventReply → C → C → Type 0) (before after : C) (old new : AwaitTask) (left : ℕ)
    → new.want ≡ old.want → AdvancesBy made to_do advance before after old.task new.task
    → (is_some (call_in (to_do old.task)) && is_some (result_in (to_do new.task))) ≡ false
    → AdvancesBy made attempts_to_do attempts_advance before after (read_attempts old left) (read_attempts new left)
read_called_on made before after old new left same it going =
    attempts_called_on made before after (read_attempts old left) (Await new) (sym (read_ends old new left same) ∙ going)
    (waits_called made before after old new same it)

-- a read that waits for bytes and has ended with its call is followed by another if it asks for that
pub read_called : {C : Type 0} (made : Call → EventReply → C → C → Type 0) (before after : C) (old new final : AwaitTask) (left left_after : ℕ)
    → new.want ≡ old.want → AdvancesBy made to_do advance before after old.task new.task
    → (is_some (call_in (to_do old.task)) && is_some (result_in (to_do new.task))) ≡ true
    → read_attempts final left_after ≡ attempts_again (read_attempts new left) (attempts_to_do (read_attempts new left))
    → (attempts_to_do (read_attempts new left) ≢ NotStarted → attempts_to_do (read_attempts final left_after) ≢ NotStarted)
    → AdvancesBy made attempts_to_do attempts_advance before after (read_attempts old left) (read_attempts final left_after)
read_called made before after old new final left left_after same it ended =
    attempts_called made before after (read_attempts old left) (Await new) (read_attempts final left_after)
    (calls_going (attempts_to_do (read_attempts old left))
    (called_first (is_some (call_in (attempts_to_do (read_attempts old left)))) (is_some (result_in (attempt_to_do (Await new))))
    (sym (read_ends old new left same) ∙ ended)))
    (waits_called made before after old new same it)

-- attempts at a lock or a mailbox of which the current one had not ended have its call made, and another begins if it asks for that
pub shared_called : {C : Type 0} (made : Call → EventReply → C → C → Type 0) (before after : C) (old new final : SharedView) (left left_after : ℕ)
    → is_some (result_in (attempts_to_do (shared_attempts old left))) ≡ false
    → AdvancesBy made shared_to_do shared_advance before after old new
    → shared_attempts final left_after ≡ attempts_again (shared_attempts new left) (attempts_to_do (shared_attempts new left))
    → (attempts_to_do (shared_attempts new left) ≢ NotStarted → attempts_to_do (shared_attempts final left_after) ≢ NotStarted)
    → AdvancesBy made attempts_to_do attempts_advance before after (shared_attempts old left) (shared_attempts final left_after)
shared_called made before after old new final left left_after going it =
    attempts_called made before after (shared_attempts old left) (Shared new) (shared_attempts final left_after) going
    (shares_called made before after old new it)

-- a line that has its next call made still calls only boards among the first n
pub called_below : {C : Type 0} (made : Call → EventReply → C → C → Type 0) (n : ℕ) (before after : C) (task new : LineTask)
    → AdvancesBy made line_to_do line_advance before after task new → IsLineBelow n task → IsLineBelow n new
called_below {C} made n before after task new it below = by (call_in (line_to_do task)) it.step
  where
    by : (call : Option Call) → HasCalled made line_advance call before after task new → IsLineBelow n new
    by None step = subst (IsLineBelow n) (sym step.1) below
    by (Some call) step = subst (IsLineBelow n) (sym step.2) (advance_below n task (Some step.0) below)

-- if attempts have their call made whenever the result is `Ok`, so has their line
pub running_if_called : {C E : Type 0} (made : Call → EventReply → C → C → Type 0) (before after : C) (line : LineTask) (old new : Attempts)
    (result : Result Bool E)
    → line ≡ Running old → IfOk result (λ ended. AdvancesBy made attempts_to_do attempts_advance before after old new)
    → IfOk result (λ ended. AdvancesBy made line_to_do line_advance before after line (Running new))
running_if_called made before after line old new (Ok ended) is it =
    subst (λ (t : LineTask). AdvancesBy made line_to_do line_advance before after t (Running new)) (sym is)
    (running_called made before after old new it)
running_if_called made before after line old new (Err stop) is it = it

-- if a line has its call made whenever the result is `Ok`, it still calls only boards among the first n
pub below_if_called : {C E : Type 0} (made : Call → EventReply → C → C → Type 0) (before after : C) (task new : LineTask) (result : Result Bool E)
    → IfOk result (λ ended. AdvancesBy made line_to_do line_advance before after task new)
    → IfOk result (λ ended. (n : ℕ) → IsLineBelow n task → IsLineBelow n new)
below_if_called made before after task new (Ok ended) it = λ n below. called_below made n before after task new it below
below_if_called made before after task new (Err stop) it = it
