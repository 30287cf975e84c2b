-- A task that has a caller make its next call, and advances by the reply.
use Rattle.std.specs.Prelude.{◌≡◌, ◌≢◌, Option, Some, None}
use Rattle.vme_core.specs.declared.event.EventReply.{EventReply}
use Rattle.vme_core.specs.Calls.{Call}
use Rattle.vme_core.specs.NextSteps.{NextStep, NotStarted, call_in}

-- a caller and a task after a call, if there is one: the caller made it and got a reply, by which the task advances
abbrev pub HasCalled : {C T : Type 0} → (Call → EventReply → C → C → Type 0) → (T → Option EventReply → T) → Option Call → C
    → C → T
    → T
    → Type 0
HasCalled made advance None before after old new = (after ≡ before) × (new ≡ old)
HasCalled made advance (Some call) before after old new =
    (reply : EventReply) × made call reply before after × (new ≡ advance old (Some reply))

-- a task makes its next call by a caller and advances by the reply; without a next call nothing changes. A task that has
-- begun stays begun
pub record AdvancesBy {C T R : Type 0} (made : Call → EventReply → C → C → Type 0) (next : T → NextStep R)
    (advance : T → Option EventReply → T) (before after : C) (old new : T) : Type 0 where
  pub step : HasCalled made advance (call_in (next old)) before after old new
  pub begun : next old ≢ NotStarted → next new ≢ NotStarted
