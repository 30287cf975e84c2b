-- The status of a log that a reader gives in pieces.
use Rattle.std.proofs.Common.{◌≡◌, ℕ, Bool, true, List, Option, Some, None, Result, Ok, Err, IfOk, IfSome, ap, sym, ◌∙◌}
use Rattle.vme_judge.specs.declared.boards.Board.{Board}
use Rattle.vme_judge.specs.declared.fault.JudgeFault.{JudgeFault}
use Rattle.vme_judge.specs.declared.fault.Status.{Status}
use Rattle.vme_judge.specs.declared.options.Options.{Options}
use Rattle.vme_judge.specs.declared.run.Run.{Run}
use Rattle.vme_judge.specs.Logs.{status_of}
use Rattle.vme_judge.specs.Runs.{run_so_far}
use Rattle.vme_judge.specs.Verdicts.{is_log, log_of}
use Rattle.vme_judge.proofs.LogSaying.{status_first}
use Rattle.vme_judge.proofs.Pieces.{IsLogRead}

-- a status that is returned
pub log_status : (o : Options) (boards : List Board) (whole : Option (List ℕ)) (said : List ℕ) (run : Run) (result : Result Status JudgeFault)
    → IsLogRead o boards whole said run → IfOk result (λ status. status ≡ status_of (run_so_far run))
    → IfSome whole (λ text. is_log text ≡ true → IfOk result (λ status. status ≡ status_of (log_of o boards text)))
log_status o boards None said run result read is = tt
log_status o boards (Some text) said run (Err fault) read is = λ log. tt
log_status o boards (Some text) said run (Ok status) read is = λ log.
    is ∙ sym (status_first said (run_so_far run)) ∙ sym (ap status_of (read log).judged)
