-- The report of a run on threads, by one order of all its transitions.
use Rattle.std.specs.Prelude.{ℕ, ◌≡◌, ◌<◌, List, length, map, slice_index_or, All}
use Rattle.vme_object.specs.declared.history.Entry.{Entry}
use Rattle.vme_object.specs.History.{replay, IsLegal, own}
use Rattle.vme_object.specs.Each.{Each, AllAt}
use Rattle.vme_memory.specs.Locals.{board_step}
use Rattle.vme_arbiter.specs.Arbitration.{Arbitration, opening_bus, arbiter_step}
use Rattle.vme_core.specs.Runs.{Transition, IsReplyTo, board_part, bus_part}
use Rattle.vme_script.specs.declared.board.BoardConfig.{BoardConfig}
use Rattle.vme_script.specs.Configurations.{Configuration, opening_memory}
use Rattle.vme_line_task.specs.Scripts.{script_at, lines_at}
use Rattle.vme_line_task.specs.Events.{IsEventBelow}
use Rattle.vme_line_task.specs.Traces.{IsTrace}
use Rattle.vme_bus_objects.specs.Runs.{transitions_of}
use Rattle.vme_threads.specs.declared.report.BoardReport.{BoardReport}
use Rattle.vme_threads.specs.declared.report.Report.{Report}
use Rattle.vme_threads.specs.Rans.{numbers_in, replies_of_lines}

-- a legal history of k callers leads to an object: it has `steps` entries, and as many of each caller as `made` states
pub record LeadsTo {S C R : Type 0} (step : S → C → S × R) (start : S) (k : ℕ) (h : List (Entry C R)) (object : S) (steps : ℕ)
    (made : List ℕ) : Type 0 where
  pub legal : IsLegal step start h
  pub replayed : object ≡ replay step start h
  pub counted : steps ≡ length h
  pub process_count : length made ≡ k
  pub makes : (who d : ℕ) → who < k → slice_index_or made who d ≡ length (own who h)

-- the report's entry for board x: the board's part of the run leads from zero memory to its memory and its counts
pub record IsEntryOfBoard (config : Configuration) (run : List Transition) (x : ℕ) (own : BoardConfig) (end : BoardReport) :
    Type 0 where
  pub slot : end.slot ≡ own.slot
  pub leads :
      LeadsTo board_step (opening_memory own) (length config.boards) (board_part x run) end.memory end.steps
      end.made.items

-- a report of one order: one run of the transitions of all processors, in which those of each processor are the trace of
-- its script and give its replies; the part of each board leads from zero memory, and the part of the arbiter from a free
-- bus, to its entry
pub record IsReportOfOneOrder (config : Configuration) (report : Report) : Type 0 where
  pub run : List Transition
  pub known : All (λ m. m.who < length config.boards) run
  pub fitting : All (λ m. IsReplyTo m.event m.reply) run
  pub within : All (λ m. IsEventBelow (length config.boards) m.event) run
  pub trace :
      AllAt
      (λ who (own : BoardConfig) lines. IsTrace config who (lines_at config who) (transitions_of who run)
      (replies_of_lines lines.items))
      config.boards report.lines.items
  pub numbers :
      Each (λ who lines. numbers_in lines.items ≡ map (λ one. one.number) (script_at config who)) report.lines.items
  pub boards : AllAt (IsEntryOfBoard config run) config.boards report.boards.items
  pub bus :
      (object : Arbitration)
      × LeadsTo arbiter_step (opening_bus config.arbiter) (length config.boards) (bus_part run) object report.arbiter_steps
      report.arbiter_made.items
