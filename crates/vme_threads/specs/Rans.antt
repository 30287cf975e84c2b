-- Defines what a processor has done when it has run its script.
use Rattle.std.specs.Prelude.{ℕ, ◌≡◌, List, length, map, All, Some, Result, Ok, Err, slice_get}
use Rattle.vme_core.specs.Runs.{Transition}
use Rattle.vme_shared.specs.declared.reply.LineReply.{LineReply}
use Rattle.vme_report.specs.declared.fault.RunFault.{RunFault}
use Rattle.vme_report.specs.declared.fault.RunFault.TheVariants.{Spent}
use Rattle.vme_bus_objects.specs.Runs.{run_of, MatchesKind}
use Rattle.vme_grammar.specs.declared.line.Line.{Line}
use Rattle.vme_script.specs.Configurations.{Configuration}
use Rattle.vme_line_task.specs.Scripts.{script_at, lines_at}
use Rattle.vme_line_task.specs.Traces.{LineTrace, IsTrace}
use Rattle.vme_threads.specs.declared.processor_pass.ProcessorPass.{ProcessorPass}
use Rattle.vme_threads.specs.declared.worker.Ran.{Ran}
use Rattle.vme_threads.specs.declared.ports.Ports.{Ports}
use Rattle.vme_threads.specs.ProcessorPasses.{MatchesPorts, AddsTransitions}

-- a processor made a run of transitions that is the trace of a line and gives its reply
pub record IsAnsweredBy (config : Configuration) (line : Line) (answer : LineReply) (before after : ProcessorPass) : Type 0 where
  pub run : List Transition
  pub made : AddsTransitions run before after
  pub trace : LineTrace config before.who line run answer

-- a processor made a run that gives the reply to the line at a place of its script
pub record AddsLine (config : Configuration) (place : ℕ) (answer : LineReply) (before after : ProcessorPass) : Type 0 where
  pub line : Line
  pub there : slice_get (lines_at config before.who) place ≡ Some line
  pub is : IsAnsweredBy config line answer before after

-- the line numbers in a list of numbered replies
abbrev pub numbers_in : List (ℕ × LineReply) → List ℕ
numbers_in lines = map (λ line. line.0) lines

-- the replies in a list of numbered replies
abbrev pub replies_of_lines : List (ℕ × LineReply) → List LineReply
replies_of_lines lines = map (λ line. line.1) lines

-- the run of a finished processor: the transitions that its pass made
abbrev pub run_made_by : Ran → List Transition
run_made_by ran = run_of ran.processor_pass.pass.mine

-- processor `who` ran its whole script: the run that its pass made is its own, is the script's trace and gives these
-- replies, and each call of it was of its object's kind
pub record HasRun (config : Configuration) (ports : Ports) (who : ℕ) (ran : Ran) : Type 0 where
  pub same : ran.processor_pass.who ≡ who
  pub fits : MatchesPorts ports ran.processor_pass
  pub whose : All (λ m. m.who ≡ who) (run_made_by ran)
  pub kinds : All (MatchesKind (length config.boards)) ran.processor_pass.pass.mine
  pub trace : IsTrace config who (lines_at config who) (run_made_by ran) (replies_of_lines ran.lines.items)
  pub numbers : numbers_in ran.lines.items ≡ map (λ one. one.number) (script_at config who)

-- how a worker ends: it has run its whole script, or it returns `Spent`
abbrev pub IsEndOfRun : Configuration → Ports → ℕ → Result Ran RunFault → Type 0
IsEndOfRun config ports who (Ok ran) = HasRun config ports who ran
IsEndOfRun config ports who (Err fault) = fault ≡ Spent
