-- What a task does next and how it ended, as the results of its functions show them.
use Rattle.std.specs.Prelude.{Option, Some, None}
use Rattle.vme_core.specs.Calls.{Call, call_of}
use Rattle.vme_master.specs.declared.outcome.Outcome.{Outcome}
use Rattle.vme_master.specs.declared.outcome.Outcome.TheVariants as outcomes
use Rattle.vme_master.specs.declared.outcome.OutcomeRef.{OutcomeRef}
use Rattle.vme_master.specs.declared.outcome.OutcomeRef.TheVariants as refs
use Rattle.vme_master.specs.declared.todo.Todo.{Todo}
use Rattle.vme_master.specs.declared.todo.Todo.TheVariants as todos

-- the call of the event that a `Todo` states, if it states one
abbrev pub call_of_todo : Todo → Option Call
call_of_todo (todos.Call event) = Some (call_of event)
call_of_todo todos.Finished = None

-- the outcome whose bytes an `OutcomeRef` borrows
abbrev pub outcome_in : OutcomeRef → Outcome
outcome_in (refs.Read bytes) = outcomes.Read (record { items = bytes.now })
outcome_in refs.Done = outcomes.Done
outcome_in (refs.Old bytes) = outcomes.Old (record { items = bytes.now })
outcome_in (refs.Berr count bytes) = outcomes.Berr count (record { items = bytes.now })
outcome_in refs.Denied = outcomes.Denied
