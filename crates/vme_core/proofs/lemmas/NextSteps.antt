-- A task's next step, by its call and its result.
use Rattle.std.proofs.Common.{◌≡◌, ◌≢◌, false, true, is_some, Some, refl, ap, ◌∙◌}
use Rattle.std.proofs.lemmas.Option.{same_Some}
use Rattle.vme_core.specs.Calls.{Call}
use Rattle.vme_core.specs.NextSteps.{NextStep, NotStarted, Invokes, Returns, call_in, result_in, MakesCall, next_map}

-- a next step that has a call makes that call
pub in_makes : {R : Type 0} (next : NextStep R) (call : Call) → Some call ≡ call_in next → next ≡ Invokes call
in_makes NotStarted call is = absurd cc
in_makes (Invokes other) call is = cc
in_makes (Returns result) call is = absurd cc

-- a next step whose result is mapped makes its own call
pub map_makes : {R S : Type 0} (f : R → S) (next : NextStep R) (call : Call) → next_map f next ≡ Invokes call → next ≡ Invokes call
map_makes f NotStarted call made = absurd cc
map_makes f (Invokes other) call made = cc
map_makes f (Returns result) call made = absurd cc

-- a function of the result leaves the call of a next step unchanged
pub map_call : {R S : Type 0} (f : R → S) (next : NextStep R) → call_in (next_map f next) ≡ call_in next
map_call f NotStarted = refl
map_call f (Invokes call) = refl
map_call f (Returns result) = refl

-- if a next step with its result mapped has not started, the next step has not started
pub map_rests : {R S : Type 0} (f : R → S) (next : NextStep R) → next_map f next ≡ NotStarted → next ≡ NotStarted
map_rests f NotStarted rests = refl
map_rests f (Invokes call) rests = absurd cc
map_rests f (Returns result) rests = absurd cc

-- the identity as the function of the result leaves a next step unchanged
pub map_same : {R : Type 0} (next : NextStep R) → next ≡ next_map (λ result. result) next
map_same NotStarted = refl
map_same (Invokes call) = refl
map_same (Returns result) = refl

-- a task that has begun and has no result makes a call
pub at_work : {R : Type 0} (next : NextStep R) → next ≢ NotStarted → is_some (result_in next) ≡ false → MakesCall next
at_work NotStarted begun is = absurd (begun refl)
at_work (Invokes call) begun is = tt
at_work (Returns result) begun is = absurd cc

-- a next step that makes a call has that call
pub its_call : {R : Type 0} (next : NextStep R) → MakesCall next → (call : Call) × (Invokes call ≡ next)
its_call NotStarted makes = absurd makes
its_call (Invokes call) makes = (call, refl)
its_call (Returns result) makes = absurd makes

-- a next step that makes a call has started
pub is_begun : {R : Type 0} (next : NextStep R) → MakesCall next → next ≢ NotStarted
is_begun (Invokes call) makes = λ rests. absurd cc
is_begun NotStarted makes = absurd makes
is_begun (Returns result) makes = absurd makes

-- a next step that has a result returns that result
pub ends_so : {R : Type 0} (next : NextStep R) (result : R) → Some result ≡ result_in next → Returns result ≡ next
ends_so NotStarted result is = absurd cc
ends_so (Invokes call) result is = absurd cc
ends_so (Returns other) result is = cc

-- a next step with a result has the result that it returns
pub its_result : {R : Type 0} (next : NextStep R) → is_some (result_in next) ≡ true → (result : R) × (Returns result ≡ next)
its_result NotStarted over = absurd cc
its_result (Invokes call) over = absurd cc
its_result (Returns result) over = (result, refl)

-- the result that is found is the one that is returned
pub its_own : {R : Type 0} (next : NextStep R) (result other : R) → Some result ≡ result_in next → next ≡ Returns other → result ≡ other
its_own next result other has ends = same_Some _ _ (has ∙ ap result_in ends)
