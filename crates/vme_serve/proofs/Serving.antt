-- A line that is served by its task.
use Rattle.std.proofs.Common.{◌≡◌, ℕ, [], ◌∷◌, Option, None, ap, ◌∙◌}
use Rattle.std.specs.Prelude.{unwrap_or}
use Rattle.vme_core.specs.Runs.{Machine}
use Rattle.vme_core.specs.NextSteps.{NextStep, result_in}
use Rattle.vme_master.specs.Tables.{Inputs}
use Rattle.vme_shared.specs.declared.reply.LineReply.{LineReply}
use Rattle.vme_shared.specs.declared.reply.LineReply.TheVariants.{Unfinished}
use Rattle.vme_grammar.specs.declared.line.Line.{Line}
use Rattle.vme_script.specs.Configurations.{Configuration}
use Rattle.vme_line_task.specs.declared.task.LineTask.{LineTask}
use Rattle.vme_line_task.specs.Tables.{next_given_with}
use Rattle.vme_line_task.specs.Machine.{line_started_with}
use Rattle.vme_line_task.proofs.lemmas.Lines.{by_the_given_with}
use Rattle.vme_serve.specs.Calls.{calls_made, next_of_task}
use Rattle.vme_serve.specs.Services.{ServiceView, line_end, line_served}

-- a line's task does next what the table says, whatever it is given
by_the_table : (config : Configuration) (board : ℕ) (line : Line)
    → next_of_task (line_started_with config board 1 line) ≡ next_given_with config board 1 line
by_the_table config board line = λ i given. by_the_given_with config board 1 line given i

-- a line was served: its reply, and the service after it
pub record IsServed (service : ServiceView) (board : ℕ) (line : Line) (reply : LineReply) (machine : Machine) (left : ℕ) : Type 0 where
  pub reply_is : reply ≡ (line_served service board line).reply
  pub service_is : record { config = service.config; machine = machine; left = left } ≡ (line_served service board line).service

-- a line whose task has made its calls was served
pub line_is_served : (service : ServiceView) (board : ℕ) (line : Line) (task : LineTask) (result : Option LineReply) (reply : LineReply)
    (machine : Machine) (left : ℕ) → task ≡ line_started_with service.config board 1 line
    → machine ≡ (calls_made (next_of_task task) board service.left service.machine (None ∷ [])).machine
    → left ≡ (calls_made (next_of_task task) board service.left service.machine (None ∷ [])).left
    → result ≡ result_in (next_of_task task (calls_made (next_of_task task) board service.left service.machine (None ∷ [])).given)
    → reply ≡ unwrap_or result Unfinished → IsServed service board line reply machine left
unfolding line_served
line_is_served service board line task result reply machine left is machine_is left_is result_is reply_is =
    let table : next_of_task task ≡ next_given_with service.config board 1 line = ap next_of_task is ∙ by_the_table service.config board line in
    let made = calls_made (next_of_task task) board service.left service.machine (None ∷ []) in
    record {
      reply_is = reply_is ∙ ap (λ (r : Option LineReply). unwrap_or r Unfinished) result_is
          ∙ ap (λ (next : Inputs → NextStep LineReply). (line_end service next (calls_made next board service.left service.machine (None ∷ []))).reply) table;
      service_is =
          ap (λ (m : Machine). let one : ServiceView = record { config = service.config; machine = m; left = left } in one) machine_is
          ∙ ap (λ (n : ℕ). let one : ServiceView = record { config = service.config; machine = made.machine; left = n } in one) left_is
          ∙ ap (λ (next : Inputs → NextStep LineReply). (line_end service next (calls_made next board service.left service.machine (None ∷ []))).service) table;
    }
