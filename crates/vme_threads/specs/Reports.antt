-- Defines reports by one history for each object, and when a report can be gathered.
use Rattle.std.specs.Prelude.{ℕ, ◌≡◌, ◌<◌, List, length, map, All}
use Rattle.vme_object.specs.declared.history.Entry.{Entry}
use Rattle.vme_object.specs.History.{replay, IsLegal, own}
use Rattle.vme_object.specs.Each.{Each, AllAt}
use Rattle.vme_memory.specs.Locals.{board_step}
use Rattle.vme_arbiter.specs.Arbitration.{Arbitration, opening_bus, arbiter_step}
use Rattle.vme_core.specs.Runs.{Transition, IsReplyTo, board_part, bus_part}
use Rattle.vme_script.specs.declared.board.BoardConfig.{BoardConfig}
use Rattle.vme_script.specs.Configurations.{Configuration, opening_memory}
use Rattle.vme_line_task.specs.Scripts.{script_at, lines_at}
use Rattle.vme_line_task.specs.Traces.{IsTrace}
use Rattle.vme_threads.specs.declared.worker.Ran.{Ran}
use Rattle.vme_threads.specs.declared.ports.Ports.{Ports}
use Rattle.vme_threads.specs.declared.report.BoardReport.{BoardReport}
use Rattle.vme_threads.specs.declared.report.Report.{Report}
use Rattle.vme_threads.specs.Ports.{IsBuilt}
use Rattle.vme_threads.specs.Rans.{HasRun, numbers_in, replies_of_lines}

module _ {S C R : Type 0} (step : S → C → S × R) (start : S) where
  -- one legal history leads to the object: it has `steps` entries, and exactly the entries in `parts` of each caller,
  -- as many as `made` states
  pub record HasHistory (parts : List (List (Entry C R))) (object : S) (steps : ℕ) (made : List ℕ) : Type 0 where
    pub history : List (Entry C R)
    pub legal : IsLegal step start history
    pub replayed : object ≡ replay step start history
    pub counted : steps ≡ length history
    pub known : All (λ e. e.who < length parts) history
    pub owns : Each (λ who part. own who history ≡ part) parts
    pub makes : AllAt (λ who part n. n ≡ length part) parts made

-- the report's entry for board x: the parts of the board in these runs share one legal history from zero memory, whose
-- replay is the board's memory
pub record IsEndOf (runs : List (List Transition)) (x : ℕ) (own : BoardConfig) (end : BoardReport) : Type 0 where
  pub slot : end.slot ≡ own.slot
  pub history : HasHistory board_step (opening_memory own) (map (board_part x) runs) end.memory end.steps end.made.items

-- a report with one history for each object: each processor's run is the trace of its script and gives its replies, and
-- each board, and the arbiter of a free bus, has one legal history that the runs share
pub record IsReportOf (config : Configuration) (report : Report) : Type 0 where
  pub runs : List (List Transition)
  pub workers : length runs ≡ length config.boards
  pub whose : Each (λ who run. All (λ m. m.who ≡ who) run) runs
  pub fitting : All (λ run. All (λ m. IsReplyTo m.event m.reply) run) runs
  pub trace :
      AllAt (λ who run lines. IsTrace config who (lines_at config who) run (replies_of_lines lines.items)) runs report.lines.items
  pub numbers :
      Each (λ who lines. numbers_in lines.items ≡ map (λ one. one.number) (script_at config who)) report.lines.items
  pub boards : AllAt (IsEndOf runs) config.boards report.boards.items
  pub bus :
      (object : Arbitration)
      × HasHistory arbiter_step (opening_bus config.arbiter) (map bus_part runs) object report.arbiter_steps
      report.arbiter_made.items

-- finished workers in order: worker i has run the script of processor i
abbrev pub HaveRun : Configuration → Ports → List Ran → Type 0
HaveRun config ports rans = Each (HasRun config ports) rans

-- the ports were built from this configuration, and the workers are their finished workers, one for each board, in order
pub record CanGather (config : Configuration) (ports : Ports) (rans : List Ran) : Type 0 where
  pub built : IsBuilt config ports
  pub count : length rans ≡ length config.boards
  pub runs : HaveRun config ports rans
