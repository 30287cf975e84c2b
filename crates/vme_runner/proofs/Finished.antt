-- No line ends with the reply `Unfinished`.
use Rattle.std.proofs.Common.{◌≡◌, ◌≢◌, ◌<◌, ℕ, Bool, true, false, if◌then◌else◌, List, [], ◌∷◌, length, slice_index_or, All, Result, Ok, Err, arith}
use Rattle.std.specs.Str.{bytes_eq}
use Rattle.std.proofs.lemmas.List.Elements.{All-nil, All-cons}
use Rattle.vme_object.specs.Each.{Each}
use Rattle.vme_cycle.specs.declared.fault.CycleFault.{CycleFault}
use Rattle.vme_core.specs.Runs.{Transition}
use Rattle.vme_core.specs.NextSteps.{NextStep, NotStarted, Invokes, Returns}
use Rattle.vme_master.specs.declared.outcome.Outcome.{Outcome}
use Rattle.vme_shared.specs.declared.outcome.SharedOutcome.{SharedOutcome}
use Rattle.vme_master.specs.declared.outcome.Outcome.TheVariants as outcomes
use Rattle.vme_master.specs.Tables.{Inputs, next_of}
use Rattle.vme_shared.specs.declared.reply.LineReply.{LineReply}
use Rattle.vme_shared.specs.declared.reply.LineReply.TheVariants.{Met, Timeout, Unfinished}
use Rattle.vme_shared.specs.Tables.{shared_next}
use Rattle.vme_grammar.specs.declared.line.Line.{Line}
use Rattle.vme_script.specs.Configurations.{Configuration}
use Rattle.vme_line_task.specs.Scripts.{Attempt, Transferring, Awaiting, Sharing, lines_at, line_attempt}
use Rattle.vme_line_task.specs.Tables.{transferring_next, awaiting_next, sharing_next, attempt_next, attempts_of, lawful_next, next_given}
use Rattle.vme_line_task.specs.Traces.{IsTrace}
use Rattle.vme_bus_objects.specs.Runs.{transitions_of}
use Rattle.vme_threads.specs.declared.report.Report.{Report}
use Rattle.vme_threads.specs.Rans.{replies_of_lines}
use Rattle.vme_threads.specs.OneOrder.{IsReportOfOneOrder}
use Rattle.vme_run.proofs.lemmas.Lists.{element_at}
use Rattle.vme_runner.specs.Finished.{AreFinished}

-- a transfer or a local command does not end with `Unfinished`
by_moves : (next : NextStep Outcome) (answer : LineReply) → transferring_next next ≡ Returns answer → answer ≢ Unfinished
by_moves NotStarted answer ends over = cc
by_moves (Invokes call) answer ends over = cc
by_moves (Returns outcome) answer ends over = cc

-- an awaited read that found its bytes, or not, does not end with `Unfinished`
by_bytes : (found : Bool) (answer : LineReply) → Returns (if found then Met else Timeout) ≡ Returns answer → answer ≢ Unfinished
by_bytes true answer ends over = cc
by_bytes false answer ends over = cc

-- an awaited read does not end with `Unfinished`
by_waits : (want : List ℕ) (next : NextStep Outcome) (answer : LineReply) → awaiting_next want next ≡ Returns answer
    → answer ≢ Unfinished
by_waits want NotStarted answer ends over = cc
by_waits want (Invokes call) answer ends over = cc
by_waits want (Returns (outcomes.Read bytes)) answer ends over = by_bytes (bytes_eq bytes.items want) answer ends over
by_waits want (Returns outcome) answer ends over = cc

-- a line of a lock or a mailbox does not end with `Unfinished`
by_shares : (next : NextStep SharedOutcome) (answer : LineReply) → sharing_next next ≡ Returns answer → answer ≢ Unfinished
by_shares NotStarted answer ends over = cc
by_shares (Invokes call) answer ends over = cc
by_shares (Returns outcome) answer ends over = cc

-- no attempt ends with `Unfinished`
by_attempt : (a : Attempt) (given : Inputs) (answer : LineReply) → attempt_next a given ≡ Returns answer → answer ≢ Unfinished
by_attempt (Transferring job) given answer ends over = by_moves (next_of job given) answer ends over
by_attempt (Awaiting job want) given answer ends over = by_waits want (next_of job given) answer ends over
by_attempt (Sharing s) given answer ends over = by_shares (shared_next s given) answer ends over

-- no line, rejected or attempted up to `tries` times, ends with `Unfinished`
by_line : (tries : ℕ) (attempt : Result Attempt CycleFault) (given : Inputs) (answer : LineReply)
    → lawful_next tries attempt given ≡ Returns answer
    → answer ≢ Unfinished
by_line tries (Ok a) given answer ends over = by_attempt a (attempts_of a tries given).given answer ends over
by_line tries (Err fault) given answer ends over = cc

-- no line of a script ends with `Unfinished`
by_table : (config : Configuration) (board : ℕ) (line : Line) (given : Inputs) (answer : LineReply)
    → next_given config board line given ≡ Returns answer
    → answer ≢ Unfinished
unfolding next_given
by_table config board line given answer ends over = by_line config.tries (line_attempt config board line) given answer ends over

-- no reply of the trace of a script is `Unfinished`
trace_finished : (config : Configuration) (board : ℕ) (ls : List Line) (run : List Transition) (answers : List LineReply)
    → IsTrace config board ls run answers → All (λ (answer : LineReply). answer ≢ Unfinished) answers
trace_finished config board [] run [] trace = All-nil (λ (answer : LineReply). answer ≢ Unfinished)
trace_finished config board [] run (answer ∷ answers) trace = absurd trace
trace_finished config board (line ∷ ls) run [] trace = absurd trace
trace_finished config board (line ∷ ls) run (answer ∷ answers) trace =
    All-cons (λ (answer : LineReply). answer ≢ Unfinished) answer answers (by_table config board line _ answer trace.3.ends)
    (trace_finished config board ls trace.1 answers trace.4)

-- no line of a report is unfinished
pub report_finished : (config : Configuration) (report : Report) → IsReportOfOneOrder config report
    → Each (λ who lines. AreFinished lines.items) report.lines.items
report_finished config report is who d below =
    let there : who < length config.boards = omega (arith, below, is.trace.count) in
    trace_finished config who (lines_at config who) (transitions_of who is.run)
    (replies_of_lines (slice_index_or report.lines.items who d).items)
    (is.trace.each who (element_at config.boards who there).0 d there)
