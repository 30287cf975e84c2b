-- What a lock, an unlock, a put or a take does next, as the result of `next` states it.
use Rattle.std.specs.Prelude.{◌≡◌, ◌∷◌, Option}
use Rattle.vme_core.specs.declared.event.EventReply.{EventReply}
use Rattle.vme_core.specs.Calls.{call_of}
use Rattle.vme_core.specs.NextSteps.{NextStep, Invokes, Returns}
use Rattle.vme_master.specs.Tables.{Inputs}
use Rattle.vme_shared.specs.declared.outcome.SharedOutcome.{SharedOutcome}
use Rattle.vme_shared.specs.declared.todo.SharedTodo.{SharedTodo}
use Rattle.vme_shared.specs.declared.todo.SharedTodo.TheVariants as todos
use Rattle.vme_shared.specs.Tables.{SharedJob, shared_next}
use Rattle.vme_shared.specs.Machine.{SharedView, shared_advance, shared_given, shared_to_do}

-- what a `SharedTodo` states: the call of the next event, or the outcome
abbrev pub next_in : SharedTodo → NextStep SharedOutcome
next_in (todos.Call event) = Invokes (call_of event)
next_in (todos.Finished outcome) = Returns outcome

-- a task that is given a reply, or none, advances by it, and does next what the table says for all that it was given
pub record IsNextOf (old new : SharedView) (reply : Option EventReply) (result : SharedTodo) : Type 0 where
  pub task : new ≡ shared_advance old reply
  pub todo : next_in result ≡ shared_to_do new
  pub table : (s : SharedJob) (before : Inputs) → old ≡ shared_given s before → next_in result ≡ shared_next s (reply ∷ before)
