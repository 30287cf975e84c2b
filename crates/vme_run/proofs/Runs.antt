-- What an engine wrote is the text of a run of the configuration that it read.
use Rattle.std.proofs.Common.{◌≡◌, ℕ, List, [], Option, Some, None, IfSome, Result, Ok, Err, OnErr, refl, ap, ◌∙◌, inl, inr}
use Rattle.std.specs.Io.KnownBytes.{Appends}
use Rattle.vme_io.specs.Prefixes.{AppendsPrefix}
use Rattle.vme_io.proofs.lemmas.Appending.{Appends-none}
use Rattle.vme_shared.specs.declared.status.Status.{Status}
use Rattle.vme_report.specs.Reports.{report_text, report_status}
use Rattle.vme_script.specs.Configurations.{Configuration}
use Rattle.vme_stepper.specs.Schedules.{file_turns}
use Rattle.vme_stepper.specs.Reports.{run_text}
use Rattle.vme_threads.specs.declared.report.Report.{Report}
use Rattle.vme_threads.specs.OneOrder.{IsReportOfOneOrder}
use Rattle.vme_threads.specs.ReportTexts.{texts_of_report}
use Rattle.vme_engines.specs.declared.fault.ProgramFault.{ProgramFault}
use Rattle.vme_engines.specs.Files.{Configures}
use Rattle.vme_engines.specs.Faults.{WritesPrefix}
use Rattle.vme_engines.proofs.lemmas.Lawful.{read_lawful}
use Rattle.vme_run.specs.RunTexts.{IsRunText, IsSomeRunText, IsStepText}
use Rattle.vme_run.proofs.lemmas.Reports.{report_of_turns}

-- the text and the status of a report of one order are those of some turns
run_text_of : (input : List ℕ) (config : Configuration) (report : Report) (status : Status) → Configures input config
    → IsReportOfOneOrder config report → status ≡ report_status (texts_of_report report)
    → IsRunText input (report_text (texts_of_report report)) status
run_text_of input config report status configures order status_is =
    let turns = report_of_turns config report (read_lawful input config configures) order in
    record {
      config = config;
      configures = configures;
      slots = turns.0;
      text_is = ap report_text turns.1.boards;
      status_is = status_is ∙ ap report_status turns.1.boards;
      report = report;
      order = order;
      state = turns.1;
    }

-- if the text of a report of one order was written, it is that of a run of the input
pub text_written : (reported old new : Option (List ℕ)) (config : Configuration) (report : Report) (status : Status)
    → IfSome reported (λ input. Configures input config)
    → IsReportOfOneOrder config report → status ≡ report_status (texts_of_report report)
    → Appends old new (report_text (texts_of_report report))
    → IfSome reported (λ input. (text : List ℕ) × IsRunText input text status × Appends old new text)
text_written None old new config report status configures order status_is written = tt
text_written (Some input) old new config report status configures order status_is written =
    (report_text (texts_of_report report), run_text_of input config report status configures order status_is, written)

-- if a prefix of the text of a report of one order was written before a fault, it is that of a run of the input
pub prefix_written : (reported old new : Option (List ℕ)) (end : Result Status ProgramFault) (config : Configuration) (report : Report)
    → IfSome reported (λ input. Configures input config) → IsReportOfOneOrder config report
    → AppendsPrefix old new (report_text (texts_of_report report))
    → IfSome reported (λ input. OnErr end (WritesPrefix (IsSomeRunText input) old new))
prefix_written None old new end config report configures order written = tt
prefix_written (Some input) old new (Ok status) config report configures order written = tt
prefix_written (Some input) old new (Err fault) config report configures order written =
    let status_is = report_status (texts_of_report report) in
    inr (report_text (texts_of_report report), (status_is, run_text_of input config report status_is configures order refl), written)

-- if a prefix of the text of the file's own turns was written before a fault, it is that of the run on one thread
pub step_prefix_written : (reported old new : Option (List ℕ)) (end : Result Status ProgramFault) (config : Configuration)
    → IfSome reported (λ input. Configures input config) → AppendsPrefix old new (run_text config (file_turns config))
    → IfSome reported (λ input. OnErr end (WritesPrefix (IsStepText input) old new))
step_prefix_written None old new end config configures written = tt
step_prefix_written (Some input) old new (Ok status) config configures written = tt
step_prefix_written (Some input) old new (Err fault) config configures written =
    inr (run_text config (file_turns config), record { config = config; configures = configures; text_is = refl }, written)

-- of a file whose bytes were read: a text that was written is that of a run
pub file_text_written : (input : List ℕ) (old new : Option (List ℕ)) (config : Configuration) (report : Report) (status : Status)
    → Configures input config → IsReportOfOneOrder config report → status ≡ report_status (texts_of_report report)
    → Appends old new (report_text (texts_of_report report)) → (text : List ℕ) × IsRunText input text status × Appends old new text
file_text_written input old new config report status configures order status_is written =
    text_written (Some input) old new config report status configures order status_is written

-- of a file whose bytes were read: a prefix that was written before a fault is that of the text of a run
pub file_prefix_written : (input : List ℕ) (old new : Option (List ℕ)) (end : Result Status ProgramFault) (config : Configuration)
    (report : Report) → Configures input config → IsReportOfOneOrder config report
    → AppendsPrefix old new (report_text (texts_of_report report)) → OnErr end (WritesPrefix (IsSomeRunText input) old new)
file_prefix_written input old new end config report configures order written =
    prefix_written (Some input) old new end config report configures order written

-- of a file whose bytes were read: a prefix that was written before a fault is that of the text of its own turns
pub step_file_prefix_written : (input : List ℕ) (old new : Option (List ℕ)) (end : Result Status ProgramFault) (config : Configuration)
    → Configures input config → AppendsPrefix old new (run_text config (file_turns config))
    → OnErr end (WritesPrefix (IsStepText input) old new)
step_file_prefix_written input old new end config configures written =
    step_prefix_written (Some input) old new end config configures written

-- before a fault without a write nothing was written
pub nothing_written : (IsText : List ℕ → Type 0) (old : Option (List ℕ)) (end : Result Status ProgramFault)
    → OnErr end (WritesPrefix IsText old old)
nothing_written IsText old (Ok status) = tt
nothing_written IsText old (Err fault) = inl (record { prefix = []; rest = []; split = refl; appends = Appends-none old })
