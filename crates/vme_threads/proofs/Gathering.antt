-- A report that is gathered from a settled port array is a report of one order.
use Rattle.std.proofs.Common.{◌≡◌, ℕ, ◌<◌, List, [], ◌∷◌, length, slice_index_or, refl, ap, sym, subst, ◌∙◌, arith}
use Rattle.std.proofs.lemmas.Option.{slice_get-get_or}
use Rattle.vme_object.specs.History.{replay, own}
use Rattle.vme_memory.specs.Boards.{Board}
use Rattle.vme_arbiter.specs.Arbitration.{opening_bus, arbiter_step}
use Rattle.vme_core.specs.Runs.{Transition, board_entry, bus_entry, board_part, bus_part}
use Rattle.vme_script.specs.declared.board.BoardConfig.{BoardConfig}
use Rattle.vme_script.specs.Configurations.{Configuration}
use Rattle.vme_line_task.specs.Scripts.{lines_at}
use Rattle.vme_line_task.specs.Traces.{IsTrace}
use Rattle.vme_port.specs.declared.home.Home.{Home}
use Rattle.vme_bus_objects.specs.declared.object.BusObject.{BusObject}
use Rattle.vme_bus_objects.specs.declared.object.BusObject.TheVariants as objects
use Rattle.vme_bus_objects.specs.Runs.{run_of, transitions_of}
use Rattle.vme_threads.specs.declared.report.BoardReport.{BoardReport}
use Rattle.vme_threads.specs.declared.report.Report.{Report}
use Rattle.vme_threads.specs.Rans.{replies_of_lines}
use Rattle.vme_threads.specs.OneOrder.{IsEntryOfBoard, IsReportOfOneOrder}
use Rattle.vme_threads.specs.Settlements.{BusPass, IsRunOfArray}
use Rattle.vme_threads.specs.Gatherings.{IsGathered}
use Rattle.vme_threads.proofs.lemmas.Parts.{part_of, board_whose, bus_whose}
use Rattle.vme_threads.proofs.Settlements.{run_of_array}

-- an element of a list that has a valid index
some_element : {X : Type 0} (xs : List X) (i : ℕ) → i < length xs → X
some_element [] i less = absurd (omega arith)
some_element (x ∷ xs) i less = x

-- an object is the memory of at most one board
one_board : (object : BusObject) (a b : Board) → object ≡ objects.Board a → object ≡ objects.Board b → a ≡ b
one_board object a b first then = let same : objects.Board a ≡ objects.Board b = sym first ∙ then in cc same

-- a gathered report is a report of one order
pub one_order_of : (config : Configuration) (passes : List BusPass) (homes : List (Home BusObject)) (report : Report)
    → IsGathered config passes homes report → IsReportOfOneOrder config report
one_order_of config passes homes report g = record {
  run = run;
  known = array.known;
  fitting = array.fitting;
  within = array.within;
  trace = record {
    count = g.trace.count ∙ count;
    each = λ who own lines less.
        let here : who < length passes = subst (λ n. who < n) (sym count) less in
        let p = some_element passes who here in
        subst (λ ms. IsTrace config who (lines_at config who) ms (replies_of_lines (slice_index_or report.lines.items who lines).items))
        (sym (transitions_are who p here)) (g.trace.each who p lines here);
  };
  numbers = g.numbers;
  boards = record { count = g.boards.count; each = λ x own end less. ended x own end less };
  bus = (
    replay arbiter_step (opening_bus config.arbiter) (bus_part run),
    let end_is = array.bus g.bus g.bus_there in
        record {
          legal = end_is.0;
          replayed = refl;
          counted = g.bus_steps ∙ end_is.2;
          process_count = g.bus_process_count ∙ count;
          makes = λ who d less.
              let here : who < length passes = subst (λ n. who < n) (sym count) less in
              let p = some_element passes who here in
              g.bus_makes who d p here ∙ ap (λ ms. length (bus_part ms)) (sym (transitions_are who p here))
              ∙ ap length (sym (part_of (λ m. bus_entry m.who m.event m.reply)
              (λ m e found. bus_whose m.who m.event m.reply e found) who run));
        },
  );
}
  where
    n : ℕ
    n = length config.boards

    run : List Transition
    run = run_of g.settled.settles.history

    array : IsRunOfArray config passes homes run
    array = run_of_array config passes homes g.settled

    count : length passes ≡ n
    count = g.settled.settles.all

    -- the transitions of a processor in the run are those of its pass
    transitions_are : (who : ℕ) (p : BusPass) → who < length passes
        → transitions_of who run ≡ run_of (slice_index_or passes who p).mine
    transitions_are who p less = ap (λ w. transitions_of w run) (sym (g.whose who p less)) ∙ array.made who p less

    -- the report's entry for a board
    ended : (x : ℕ) (own : BoardConfig) (end : BoardReport) → x < n
        → IsEntryOfBoard config run x (slice_index_or config.boards x own) (slice_index_or report.boards.items x end)
    ended x own end less =
        let here = g.boards.each x own end less in
        let end_is =
        array.boards x (slice_index_or config.boards x own) here.home (slice_get-get_or config.boards x own less) here.there in
        record {
          slot = here.slot;
          leads = record {
            legal = end_is.0;
            replayed = one_board here.home.object _ _ here.memory end_is.1;
            counted = here.steps ∙ end_is.2;
            process_count = here.process_count ∙ count;
            makes = λ who d below.
                let within : who < length passes = subst (λ n. who < n) (sym count) below in
                let p = some_element passes who within in
                here.makes who d p within ∙ ap (λ ms. length (board_part x ms)) (sym (transitions_are who p within))
                ∙ ap length (sym (part_of (λ m. board_entry x m.who m.event m.reply)
                (λ m e found. board_whose x m.who m.event m.reply e found) who run));
          };
        }
