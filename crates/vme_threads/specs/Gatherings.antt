-- The report that is gathered from a settled port array and the lines of all processors.
use Rattle.std.specs.Prelude.{ℕ, ◌≡◌, ◌<◌, List, length, map, slice_index_or}
use mathlib.Core.Option.{some}
use lib.ListN.{get_elem?}
use Rattle.std.specs.Global.{Vec}
use Rattle.vme_object.specs.Each.{Each, AllAt}
use Rattle.vme_memory.specs.Boards.{Board}
use Rattle.vme_core.specs.Runs.{board_part, bus_part}
use Rattle.vme_script.specs.declared.board.BoardConfig.{BoardConfig}
use Rattle.vme_script.specs.Configurations.{Configuration}
use Rattle.vme_line_task.specs.Scripts.{script_at, lines_at}
use Rattle.vme_line_task.specs.Traces.{IsTrace}
use Rattle.vme_port.specs.declared.home.Home.{Home}
use Rattle.vme_bus_objects.specs.declared.object.BusObject.{BusObject}
use Rattle.vme_bus_objects.specs.declared.object.BusObject.TheVariants as objects
use Rattle.vme_bus_objects.specs.Runs.{run_of}
use Rattle.vme_threads.specs.declared.worker.Ran.{Ran}
use Rattle.vme_threads.specs.declared.report.BoardReport.{BoardReport}
use Rattle.vme_threads.specs.declared.report.Report.{Report}
use Rattle.vme_threads.specs.Rans.{numbers_in, replies_of_lines}
use Rattle.vme_threads.specs.Settlements.{BusPass, IsSettled}

-- the object of a home is the memory of a board
abbrev pub IsBoardHome : Home BusObject → Type 0
IsBoardHome home = (memory : Board) × (home.object ≡ objects.Board memory)

-- the report's entry for board x: its slot, its memory, its steps and, by `counts`, the number of calls by each worker
pub record IsEntryOfHome (counts : List (Vec ℕ)) (x slot : ℕ) (home : Home BusObject) (end : BoardReport) : Type 0 where
  pub slot_is : end.slot ≡ slot
  pub memory : home.object ≡ objects.Board end.memory
  pub steps : end.steps ≡ home.count
  pub made : end.made.items ≡ map (λ own. slice_index_or own.items x 0) counts

-- the report's entry for board x: the board's slot, the memory and the steps of object x, and of each processor as many
-- steps as its pass made there
pub record IsGatheredBoard (passes : List BusPass) (homes : List (Home BusObject)) (x : ℕ) (own : BoardConfig)
    (end : BoardReport) : Type 0 where
  pub slot : end.slot ≡ own.slot
  pub home : Home BusObject
  pub there : get_elem? homes x ≡ some home
  pub memory : home.object ≡ objects.Board end.memory
  pub steps : end.steps ≡ home.count
  pub process_count : length end.made.items ≡ length passes
  pub makes :
      (who d : ℕ) (p : BusPass) → who < length passes
      → slice_index_or end.made.items who d ≡ length (board_part x (run_of (slice_index_or passes who p).mine))

-- a report is gathered from a settled port array: pass i is that of processor i, its calls are the trace of that
-- processor's script, and the entries for the boards and the arbiter have the steps of each object and of each pass there
pub record IsGathered (config : Configuration) (passes : List BusPass) (homes : List (Home BusObject)) (report : Report) :
    Type 0 where
  pub settled : IsSettled config passes homes
  pub whose : Each (λ i p. p.who ≡ i) passes
  pub trace :
      AllAt (λ who (p : BusPass) lines. IsTrace config who (lines_at config who) (run_of p.mine) (replies_of_lines lines.items))
      passes report.lines.items
  pub numbers :
      Each (λ who lines. numbers_in lines.items ≡ map (λ one. one.number) (script_at config who)) report.lines.items
  pub boards : AllAt (IsGatheredBoard passes homes) config.boards report.boards.items
  pub bus : Home BusObject
  pub bus_there : get_elem? homes (length config.boards) ≡ some bus
  pub bus_steps : report.arbiter_steps ≡ bus.count
  pub bus_process_count : length report.arbiter_made.items ≡ length passes
  pub bus_makes :
      (who d : ℕ) (p : BusPass) → who < length passes
      → slice_index_or report.arbiter_made.items who d ≡ length (bus_part (run_of (slice_index_or passes who p).mine))

-- a report is gathered from finished workers: its lines are theirs, and the array was settled with their passes
pub record IsGatheredFrom (config : Configuration) (rans : List Ran) (report : Report) : Type 0 where
  pub lines : report.lines.items ≡ map (λ r. r.lines) rans
  pub homes : List (Home BusObject)
  pub is : IsGathered config (map (λ r. r.processor_pass.pass) rans) homes report
