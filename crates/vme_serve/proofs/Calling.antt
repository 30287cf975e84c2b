-- A line that makes its calls: its task follows from what it was given, and its objects can count its calls.
use Rattle.std.proofs.Common.{◌≡◌, ◌≢◌, ℕ, zero, suc, ◌+◌, ◌-◌, ◌<◌, false, true, ◌∷◌, length, Option, Some, None, refl, ap, sym, subst, ◌∙◌, arith, ◌⊎◌, inl, inr}
use Rattle.std.specs.Prelude.{is_some}
use Rattle.vme_core.specs.declared.event.EventReply.{EventReply}
use Rattle.vme_core.specs.declared.event.Target.{Target}
use Rattle.vme_core.specs.Runs.{Machine}
use Rattle.vme_core.specs.Calls.{Call, OnBoard, OnBus, machine_step}
use Rattle.vme_core.specs.EventRefs.{target_of_call, CanCount}
use Rattle.vme_core.specs.Machines.{IsThere}
use Rattle.vme_core.specs.NextSteps.{NextStep, NotStarted, Invokes, Returns, call_in, result_in}
use Rattle.vme_core.specs.Advances.{CanMake, advanced_on, AdvancesOn}
use Rattle.vme_core.proofs.lemmas.NextSteps.{at_work, its_call}
use Rattle.vme_master.specs.Tables.{Inputs}
use Rattle.vme_shared.specs.declared.reply.LineReply.{LineReply}
use Rattle.vme_line_task.specs.declared.task.LineTask.{LineTask}
use Rattle.vme_line_task.specs.Machine.{line_advance, line_to_do, line_advanced, IsLineBelow}
use Rattle.vme_line_task.specs.Events.{IsCallBelow}
use Rattle.vme_line_task.proofs.lemmas.Below.{calls_below}
use Rattle.vme_serve.specs.Calls.{CanCountMore, CallsMade, calls_made, next_of_task}
use Rattle.vme_serve.proofs.Counts.{machine_steps, none_spent}

-- without a call, or if no more can be counted, the calls are over
pub no_call : (next : Inputs → NextStep LineReply) (who n : ℕ) (machine : Machine) (given : Inputs) → call_in (next given) ≡ None
    → calls_made next who n machine given ≡ record { machine = machine; left = n; given = given }
no_call next who zero machine given none = refl
no_call next who (suc n) machine given none = rw none refl

-- a call is counted, and its reply is given
one_call : (next : Inputs → NextStep LineReply) (who n : ℕ) (machine : Machine) (given : Inputs) (call : Call) → 0 < n
    → call_in (next given) ≡ Some call
    → calls_made next who n machine given
    ≡ calls_made next who (n - 1) (machine_step machine who call).0 (Some (machine_step machine who call).1 ∷ given)
one_call next who zero machine given call some is = absurd (omega arith)
one_call next who (suc n) machine given call some is =
    let same : suc n - 1 ≡ n = omega arith in
    rw (is, same) refl

-- a line that has made calls: those that are left lead to the same end as all
pub record HasMadeCalls (start : LineTask) (who left : ℕ) (machine : Machine) (task : LineTask) (end : CallsMade) : Type 0 where
  pub given : Inputs
  pub is : task ≡ line_advanced start given
  pub begun : line_to_do task ≢ NotStarted
  pub calls : calls_made (next_of_task start) who left machine given ≡ end

-- a line has made its calls: machine, count and reply are those at the end
pub record IsCallsEnd (start : LineTask) (left : ℕ) (machine : Machine) (task : LineTask) (end : CallsMade) : Type 0 where
  pub machine_is : machine ≡ end.machine
  pub left_is : left ≡ end.left
  pub reply_is : result_in (line_to_do task) ≡ result_in (next_of_task start end.given)

-- a line that has ended makes no call
ended_calls_none : (next : NextStep LineReply) → is_some (result_in next) ≡ true → call_in next ≡ None
ended_calls_none NotStarted ended = cc
ended_calls_none (Invokes call) ended = absurd (cc ended)
ended_calls_none (Returns reply) ended = refl

module _ (start : LineTask) (who : ℕ) where
  -- a line that makes a further call, of which one less can be counted
  pub one_call_more : (n : ℕ) (before after : Machine) (old new : LineTask) (end : CallsMade) → 0 < n
      → is_some (result_in (line_to_do old)) ≡ false → HasMadeCalls start who n before old end
      → AdvancesOn line_to_do line_advance who before after old new → HasMadeCalls start who (n - 1) after new end
  one_call_more n before after old new end some on made it =
      let call = its_call (line_to_do old) (at_work (line_to_do old) made.begun on) in
      let reply : EventReply = (machine_step before who call.0).1 in
      let step : ◌≡◌ {A = Machine × LineTask} (after, new) (advanced_on line_advance (Some call.0) who before old)
      = it.step ∙ ap (λ (one : NextStep LineReply). advanced_on line_advance (call_in one) who before old) (sym call.1) in
      let machine_is : after ≡ (machine_step before who call.0).0 = ap (λ (p : Machine × LineTask). p.0) step in
      let task_is : new ≡ line_advance old (Some reply) = ap (λ (p : Machine × LineTask). p.1) step in
      let makes : call_in (next_of_task start made.given) ≡ Some call.0 = ap call_in (ap line_to_do (sym made.is) ∙ sym call.1) in
      record {
        given = Some reply ∷ made.given;
        is = task_is ∙ ap (λ t. line_advance t (Some reply)) made.is;
        begun = it.begun made.begun;
        calls = ap (λ m. calls_made (next_of_task start) who (n - 1) m (Some reply ∷ made.given)) machine_is
            ∙ sym (one_call (next_of_task start) who n before made.given call.0 some makes) ∙ made.calls;
      }

  end_by : (n : ℕ) (machine : Machine) (task : LineTask) (end : CallsMade) (made : HasMadeCalls start who n machine task end)
      → calls_made (next_of_task start) who n machine made.given ≡ record { machine = machine; left = n; given = made.given }
      → IsCallsEnd start n machine task end
  end_by n machine task end made none_left =
      let all : record { machine = machine; left = n; given = made.given } ≡ end = sym none_left ∙ made.calls in
      record {
        machine_is = ap (λ (all : CallsMade). all.machine) all;
        left_is = ap (λ (all : CallsMade). all.left) all;
        reply_is = ap (λ t. result_in (line_to_do t)) made.is ∙ ap (λ (all : CallsMade). result_in (next_of_task start all.given)) all;
      }

  -- a line that has ended, or of which no more calls can be counted, has made all its calls
  pub calls_end : (n : ℕ) (machine : Machine) (task : LineTask) (end : CallsMade)
      → (n ≡ 0) ⊎ (is_some (result_in (line_to_do task)) ≡ true) → HasMadeCalls start who n machine task end
      → IsCallsEnd start n machine task end
  calls_end n machine task end (inl none) made = end_by n machine task end made (rw none refl)
  calls_end n machine task end (inr ended) made =
      end_by n machine task end made
      (no_call (next_of_task start) who n machine made.given
      (ap call_in (ap line_to_do (sym made.is)) ∙ ended_calls_none (line_to_do task) ended))

-- the object of a call is there
is_there : (machine : Machine) (call : Call) → IsCallBelow (length machine.boards) call → IsThere machine (target_of_call call)
is_there machine (OnBoard board command) below = below
is_there machine (OnBus cmd) below = tt

-- an object that is there can count one of the calls that are left
can_count : (left : ℕ) (machine : Machine) (target : Target) → 0 < left → CanCountMore left machine → IsThere machine target
    → CanCount machine target
can_count left machine target some more there = record {
  there = there;
  unspent = λ spent. none_spent more.most machine target (omega (arith, some, more.sum)) more.within spent;
}

-- a line can make its call if its boards are there
pub line_can : (left : ℕ) (machine : Machine) (task : LineTask) → 0 < left → CanCountMore left machine → IsLineBelow (length machine.boards) task
    → CanMake machine (call_in (line_to_do task))
line_can left machine task some more below = by (line_to_do task) refl
  where
    by : (next : NextStep LineReply) → line_to_do task ≡ next → CanMake machine (call_in next)
    by NotStarted is = tt
    by (Invokes call) is =
        can_count left machine (target_of_call call) some more
        (is_there machine call (calls_below (length machine.boards) task call below is))
    by (Returns reply) is = tt

-- after a call one less can be counted
pub one_step_more : (who left : ℕ) (before after : Machine) (old new : LineTask) → 0 < left → CanCountMore left before
    → AdvancesOn line_to_do line_advance who before after old new → CanCountMore (left - 1) after
one_step_more who left before after old new some more it = by (call_in (line_to_do old)) it.step
  where
    by : (call : Option Call) → ◌≡◌ {A = Machine × LineTask} (after, new) (advanced_on line_advance call who before old)
        → CanCountMore (left - 1) after
    by None step =
        subst (CanCountMore (left - 1)) (sym (ap (λ (p : Machine × LineTask). p.0) step))
        (record { most = more.most; within = more.within; sum = omega (arith, some, more.sum) })
    by (Some call) step =
        subst (CanCountMore (left - 1)) (sym (ap (λ (p : Machine × LineTask). p.0) step))
        (record { most = more.most + 1; within = machine_steps more.most before who call more.within; sum = omega (arith, some, more.sum) })
