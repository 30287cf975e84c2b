-- The report that is gathered from a settled port array has one order, and is that of the state after some turns.
use Rattle.std.proofs.Common.{◌≡◌, ℕ, ◌+◌, ◌<◌, List, [], ◌∷◌, length, map, slice_index_or, Option, Some, All, refl, ap, sym, subst, ◌∙◌, arith}
use Rattle.std.specs.Prelude.{filter_map}
use Rattle.std.proofs.lemmas.List.{length-map, get_or_default, get_or_append_left}
use Rattle.std.proofs.lemmas.List.Elements.{All-weaker}
use Rattle.std.proofs.Math.ListN.{get_or-map}
use Rattle.std.proofs.Math.Seq.{get_or-append_seam}
use mathlib.Core.Option.{some}
use lib.ListN.{get_elem?}
use Rattle.vme_object.specs.declared.history.Entry.{Entry}
use Rattle.vme_object.specs.History.{replay, own}
use Rattle.vme_port.specs.declared.home.Home.{Home}
use Rattle.vme_port_array.specs.Parts.{part}
use Rattle.vme_memory.specs.Locals.{board_step}
use Rattle.vme_arbiter.specs.Arbitration.{opening_bus, arbiter_step}
use Rattle.vme_core.specs.CountedStates.{CountedState, IsCountedReplay}
use Rattle.vme_core.specs.Runs.{Transition, IsReplyTo, board_entry, bus_entry, board_part, bus_part}
use Rattle.vme_script.specs.declared.board.BoardConfig.{BoardConfig}
use Rattle.vme_script.specs.Configurations.{Configuration, opening_memory}
use Rattle.vme_line_task.specs.Scripts.{lines_at}
use Rattle.vme_line_task.specs.Events.{IsEventBelow}
use Rattle.vme_line_task.specs.Traces.{IsTrace}
use Rattle.vme_bus_objects.specs.declared.object.BusObject.{BusObject}
use Rattle.vme_bus_objects.specs.declared.object.BusObject.TheVariants as objects
use Rattle.vme_bus_objects.specs.Objects.{bus_object_step}
use Rattle.vme_bus_objects.specs.Runs.{BusEntry, event_at, MatchesKind, run_of, transitions_of}
use Rattle.vme_bus_objects.proofs.lemmas.Histories.{board_history, arbiter_history, transitions_of_run}
use Rattle.vme_threads.specs.declared.report.BoardReport.{BoardReport}
use Rattle.vme_threads.specs.declared.report.Report.{Report}
use Rattle.vme_threads.specs.Rans.{replies_of_lines}
use Rattle.vme_threads.specs.Settlements.{BusPass, opening_objects}
use Rattle.vme_threads.specs.Gatherings.{IsGathered}
use Rattle.vme_threads.specs.OneOrder.{LeadsTo, IsEntryOfBoard, IsReportOfOneOrder}
use Rattle.vme_threads.proofs.lemmas.Parts.{part_of, board_whose, bus_whose}
use Rattle.vme_order.specs.ArrayOrders.{gathered_at, gathered, IsOneOrderOf}
use Rattle.vme_order.proofs.lemmas.Gathered.{one_order, gathered_count, gathered_is}
use Rattle.vme_order_laws.proofs.Orders.{history_kinds, opening_count, some_of}
use Rattle.vme_order_laws.proofs.EntryKinds.{known_event, run_all}

module _ (config : Configuration) (passes : List BusPass) (homes : List (Home BusObject)) (report : Report)
    (g : IsGathered config passes homes report) where
  -- the number of boards
  abbrev k : ℕ
  k = length config.boards

  -- the history of the port array
  abbrev h : List BusEntry
  h = g.settled.settles.history

  -- its run
  abbrev run : List Transition
  run = run_of h

  -- the history is one order of the calls of all passes
  pub order : IsOneOrderOf bus_object_step (opening_objects config) k passes (gathered passes homes) h
  order = one_order bus_object_step (opening_objects config) k passes homes g.settled.settles g.whose

  -- each entry is of its object's kind
  kinds : All (MatchesKind k) h
  kinds = history_kinds config passes homes g.settled

  -- the transitions of a processor are those of its pass
  transitions_are : (who : ℕ) (p : BusPass) → who < length passes
      → transitions_of who run ≡ run_of (slice_index_or passes who p).mine
  transitions_are who p less = transitions_of_run who h ∙ ap run_of (order.calls who p less)

  -- of an object's part of the run, each processor made as many entries as its pass
  own_made : {C R : Type 0} (f : Transition → Option (Entry C R))
      → ((m : Transition) (e : Entry C R) → f m ≡ Some e → e.who ≡ m.who)
      → (who : ℕ) (p : BusPass) → who < length passes
      → length (filter_map f (run_of (slice_index_or passes who p).mine)) ≡ length (own who (filter_map f run))
  own_made f whose who p less =
      ap length (sym (part_of f whose who run ∙ ap (filter_map f) (transitions_are who p less)))

  -- the object of a home is the replay of its part of the history from its opening, with that part's counts
  home_replays : (x : ℕ) (start : BusObject) (home : Home BusObject) → x < k + 1
      → slice_index_or (opening_objects config) x start ≡ start → get_elem? homes x ≡ some home
      → IsCountedReplay bus_object_step start (part x h) k (gathered_at passes x home)
  home_replays x start home less opens there =
      let below : x < length (opening_objects config) = subst (λ n. x < n) (sym (opening_count config)) less in
      let here : x < length homes =
      let a = order.objects.count in let b = gathered_count passes 0 homes in omega (arith, below, a, b) in
      let t : CountedState BusObject = gathered_at passes x home in
      let zero_more : 0 + x ≡ x = omega arith in
      subst (λ (t : CountedState BusObject). IsCountedReplay bus_object_step start (part x h) k t)
      (gathered_is passes 0 homes x t home there here ∙ ap (λ j. gathered_at passes j home) zero_more)
      (subst (λ s. IsCountedReplay bus_object_step s (part x h) k (slice_index_or (gathered passes homes) x t)) opens
      (order.objects.each x start t below))

  -- the opening object at the index of a board
  opening_board : (x : ℕ) (own : BoardConfig) → x < k
      → slice_index_or (opening_objects config) x (objects.Board (opening_memory (slice_index_or config.boards x own)))
      ≡ objects.Board (opening_memory (slice_index_or config.boards x own))
  opening_board x own less =
      let board = λ (own : BoardConfig). objects.Board (opening_memory own) in
      let one : BoardConfig = slice_index_or config.boards x own in
      get_or_append_left (map board config.boards) (objects.Arbiter (opening_bus config.arbiter) ∷ []) (board one) x
      (omega (arith, less, length-map config.boards board))
      ∙ get_or-map board config.boards x one
      ∙ ap board (get_or_default config.boards x one own less)

  -- the opening object after all boards
  opening_arbiter : slice_index_or (opening_objects config) k (objects.Arbiter (opening_bus config.arbiter)) ≡ objects.Arbiter
      (opening_bus config.arbiter)
  opening_arbiter =
      let board = λ (own : BoardConfig). objects.Board (opening_memory own) in
      let arbiter : BusObject = objects.Arbiter (opening_bus config.arbiter) in
      subst (λ n. slice_index_or (opening_objects config) n arbiter ≡ arbiter) (length-map config.boards board)
      (get_or-append_seam (map board config.boards) arbiter [] arbiter)

  -- the report's entry of a board
  board_entry_leads : (x : ℕ) (own : BoardConfig) (end : BoardReport) → x < k
      → IsEntryOfBoard config run x (slice_index_or config.boards x own) (slice_index_or report.boards.items x end)
  board_entry_leads x own end less =
      let here = g.boards.each x own end less in
      let memory = opening_memory (slice_index_or config.boards x own) in
      let at = home_replays x (objects.Board memory) here.home (omega (arith, less)) (opening_board x own less) here.there in
      let linked = board_history k x memory h less kinds at.legal in
      let same : objects.Board (slice_index_or report.boards.items x end).memory ≡ objects.Board (replay board_step memory
      (board_part x run)) =
      sym here.memory ∙ at.object ∙ linked.object in
      record {
        slot = here.slot;
        leads = record {
          legal = linked.legal;
          replayed = cc same;
          counted = here.steps ∙ at.steps ∙ linked.count;
          process_count = here.process_count ∙ g.settled.settles.all;
          makes = λ who d below.
              let there : who < length passes = subst (λ n. who < n) (sym g.settled.settles.all) below in
              let p = some_of passes who there in
              here.makes who d p there
              ∙ own_made (λ m. board_entry x m.who m.event m.reply)
              (λ m e found. board_whose x m.who m.event m.reply e found) who p there;
        };
      }

  -- the report's entry of the arbiter
  arbiter_leads : LeadsTo arbiter_step (opening_bus config.arbiter) k (bus_part run)
      (replay arbiter_step (opening_bus config.arbiter) (bus_part run)) report.arbiter_steps report.arbiter_made.items
  arbiter_leads =
      let at = home_replays k (objects.Arbiter (opening_bus config.arbiter)) g.bus (omega arith) opening_arbiter g.bus_there in
      let linked = arbiter_history k (opening_bus config.arbiter) h kinds at.legal in
      record {
        legal = linked.legal;
        replayed = refl;
        counted = g.bus_steps ∙ at.steps ∙ linked.count;
        process_count = g.bus_process_count ∙ g.settled.settles.all;
        makes = λ who d below.
            let there : who < length passes = subst (λ n. who < n) (sym g.settled.settles.all) below in
            let p = some_of passes who there in
            g.bus_makes who d p there
            ∙ own_made (λ m. bus_entry m.who m.event m.reply) (λ m e found. bus_whose m.who m.event m.reply e found) who p there;
      }

  -- a gathered report is one of one order
  pub report_of_one_order : IsReportOfOneOrder config report
  report_of_one_order = record {
    run = run;
    known = run_all (λ m. m.who < k) h order.known;
    fitting = run_all (λ m. IsReplyTo m.event m.reply) h
        (All-weaker (MatchesKind k) (λ e. IsReplyTo (event_at e.cmd.index e.cmd.cmd) e.reply)
        (λ e is. (known_event k e.cmd.index e.cmd.cmd e.reply is).fits) h kinds);
    within = run_all (λ m. IsEventBelow k m.event) h
        (All-weaker (MatchesKind k) (λ e. IsEventBelow k (event_at e.cmd.index e.cmd.cmd))
        (λ e is. (known_event k e.cmd.index e.cmd.cmd e.reply is).within) h kinds);
    trace = record {
      count = g.trace.count ∙ g.settled.settles.all;
      each = λ who own lines less.
          let there : who < length passes = subst (λ n. who < n) (sym g.settled.settles.all) less in
          let p = some_of passes who there in
          subst (λ ms. IsTrace config who (lines_at config who) ms (replies_of_lines
          (slice_index_or report.lines.items who lines).items))
          (sym (transitions_are who p there)) (g.trace.each who p lines there);
    };
    numbers = g.numbers;
    boards = record { count = g.boards.count; each = board_entry_leads };
    bus = (replay arbiter_step (opening_bus config.arbiter) (bus_part run), arbiter_leads);
  }
