-- What a task does next, for any type of result.
use Rattle.std.specs.Prelude.{Option, Some, None}
use Rattle.vme_core.specs.Calls.{Call}

-- what a task does next: it has not started; it makes a call and expects the reply; or it has ended with a result
pub data NextStep (R : Type 0) : Type 0 where
  NotStarted : NextStep R
  Invokes : Call → NextStep R
  Returns : R → NextStep R

-- the call that is made next, if one is
abbrev pub call_in : {R : Type 0} → NextStep R → Option Call
call_in (Invokes call) = Some call
call_in next = None

-- a task makes a call next
abbrev pub MakesCall : {R : Type 0} → NextStep R → Type 0
MakesCall (Invokes call) = Unit {0}
MakesCall next = ⊥

-- the result of a task, if it has ended
abbrev pub result_in : {R : Type 0} → NextStep R → Option R
result_in (Returns result) = Some result
result_in next = None

-- what a task does next, with a function applied to its result
abbrev pub next_map : {R S : Type 0} → (R → S) → NextStep R → NextStep S
next_map f NotStarted = NotStarted
next_map f (Invokes call) = Invokes call
next_map f (Returns result) = Returns (f result)
