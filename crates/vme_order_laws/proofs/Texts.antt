-- The gathered report has the texts and counts of the state after some turns.
use Rattle.std.proofs.Common.{◌≡◌, ℕ, suc, ◌+◌, ◌<◌, List, [], ◌∷◌, length, map, slice_index_or, Some, refl, ap, sym, subst, ◌∙◌, arith}
use Rattle.std.specs.Prelude.{slice_get}
use Rattle.std.specs.Global.{Vec}
use Rattle.std.proofs.lemmas.List.{length-map, get_or_default, ext_get_or}
use Rattle.std.proofs.lemmas.Option.{slice_get-get_or, get_or_from_slice_get}
use Rattle.std.proofs.Math.ListN.{get_or-map}
use mathlib.Core.Option.{some}
use lib.ListN.{get_elem?}
use Rattle.vme_memory.specs.Boards.{Board}
use Rattle.vme_port.specs.declared.home.Home.{Home}
use Rattle.vme_port_array.specs.Parts.{part}
use Rattle.vme_core.specs.CountedStates.{CountedState}
use Rattle.vme_core.specs.Runs.{Machine, board_part, bus_part}
use Rattle.vme_shared.specs.declared.reply.LineReply.{LineReply}
use Rattle.vme_report.specs.Reports.{report_text, report_status}
use Rattle.vme_script.specs.declared.board.BoardConfig.{BoardConfig}
use Rattle.vme_script.specs.declared.script.ScriptLine.{ScriptLine}
use Rattle.vme_script.specs.Configurations.{Configuration}
use Rattle.vme_script.specs.Lawful.{IsLawful}
use Rattle.vme_stepper.specs.Turns.{state_after}
use Rattle.vme_stepper.specs.Reports.{numbered_replies, texts_of_boards}
use Rattle.vme_bus_objects.specs.declared.object.BusObject.{BusObject}
use Rattle.vme_bus_objects.specs.declared.object.BusObject.TheVariants as objects
use Rattle.vme_bus_objects.specs.Runs.{BusEntry, run_of}
use Rattle.vme_threads.specs.declared.report.BoardReport.{BoardReport}
use Rattle.vme_threads.specs.declared.report.Report.{Report}
use Rattle.vme_threads.specs.Rans.{numbers_in, replies_of_lines}
use Rattle.vme_threads.specs.ReportTexts.{texts_of_ends, texts_of_report}
use Rattle.vme_threads.specs.Settlements.{BusPass}
use Rattle.vme_threads.specs.Gatherings.{IsGathered}
use Rattle.vme_engines.specs.Files.{Configures}
use Rattle.vme_engines.proofs.lemmas.Lawful.{read_lawful}
use Rattle.vme_run.specs.Orders.{IsReportOfState, ended_state}
use Rattle.vme_run.specs.RunTexts.{IsRunText}
use Rattle.vme_order.specs.ArrayOrders.{gathered_at, gathered}
use Rattle.vme_order.proofs.lemmas.Gathered.{gathered_count, gathered_is}
use Rattle.vme_order_laws.specs.Processors.{answers_in, ended_states}
use Rattle.vme_order_laws.specs.MachineObjects.{arbiter_object, machine_objects}
use Rattle.vme_order_laws.proofs.EntryKinds.{board_entries, arbiter_entries}
use Rattle.vme_order_laws.proofs.Machines.{found_board, found_last, objects_count}
use Rattle.vme_order_laws.proofs.Orders.{opening_count, some_of, gathered_by_turns}
use Rattle.vme_order_laws.proofs.Reports.{report_of_one_order, order}

-- lines with the numbers of a script are the numbered replies of that script
numbered : (script : List ScriptLine) (lines : List (ℕ × LineReply)) → numbers_in lines ≡ map (λ one. one.number) script
    → lines ≡ numbered_replies script (replies_of_lines lines)
numbered [] [] same = refl
numbered [] (line ∷ lines) same = absurd (cc same)
numbered (one ∷ script) [] same = absurd (cc same)
numbered (one ∷ script) (line ∷ lines) same =
    let number : line.0 ≡ one.number = cc same in
    let others : numbers_in lines ≡ map (λ one. one.number) script = cc same in
    let rest = numbered script lines others in
    λ i. (number i, line.1) ∷ rest i

-- the report's entry of a board, and its lines, are those of the board's state
record Agrees (own : BoardConfig) (script : List ScriptLine) (lines : Vec (ℕ × LineReply)) (end : BoardReport)
    (b : CountedState Board) : Type 0 where
  slot : end.slot ≡ own.slot
  numbers : numbers_in lines.items ≡ map (λ one. one.number) script
  memory : end.memory ≡ b.object
  steps : end.steps ≡ b.steps
  made : end.made.items ≡ b.made

-- the replies to all lines
abbrev answers_of : List (Vec (ℕ × LineReply)) → List (List LineReply)
answers_of lines = map (λ (own : Vec (ℕ × LineReply)). replies_of_lines own.items) lines

-- entries that agree have the same texts
texts_agree : (boards : List BoardConfig) (scripts : List (List ScriptLine)) (lines : List (Vec (ℕ × LineReply)))
    (ends : List BoardReport)
    (states : List (CountedState Board))
    → length scripts ≡ length boards → length lines ≡ length boards → length ends ≡ length boards → length states ≡ length boards
    → ((x : ℕ) (own : BoardConfig) (script : List ScriptLine) (l : Vec (ℕ × LineReply)) (end : BoardReport)
    (b : CountedState Board)
    → x < length boards
    → Agrees (slice_index_or boards x own) (slice_index_or scripts x script) (slice_index_or lines x l)
    (slice_index_or ends x end)
    (slice_index_or states x b))
    → texts_of_ends ends (map (λ (own : Vec (ℕ × LineReply)). own.items) lines)
    ≡ texts_of_boards boards scripts (ended_states (answers_of lines)) states
texts_agree [] scripts lines [] states a b c d each = refl
texts_agree [] scripts lines (end ∷ ends) states a b c d each = absurd (omega arith)
texts_agree (own ∷ boards) [] lines ends states a b c d each = absurd (omega arith)
texts_agree (own ∷ boards) (script ∷ scripts) [] ends states a b c d each = absurd (omega arith)
texts_agree (own ∷ boards) (script ∷ scripts) (l ∷ lines) [] states a b c d each = absurd (omega arith)
texts_agree (own ∷ boards) (script ∷ scripts) (l ∷ lines) (end ∷ ends) [] a b c d each = absurd (omega arith)
texts_agree (own ∷ boards) (script ∷ scripts) (l ∷ lines) (end ∷ ends) (t ∷ states) a b c d each =
    let one = each 0 own script l end t (omega arith) in
    let all = numbered script l.items one.numbers in
    let rest =
    texts_agree boards scripts lines ends states (omega arith) (omega arith) (omega arith) (omega arith)
    (λ x own script l end t less. each (suc x) own script l end t (omega arith)) in
    λ i. record {
      slot = one.slot i;
      lines = all i;
      bytes =
          (one.memory i).bytes;
      steps = one.steps i;
      made = one.made i;
    } ∷ rest i

module _ (config : Configuration) (lawful : IsLawful config) (passes : List BusPass) (homes : List (Home BusObject))
    (report : Report)
    (g : IsGathered config passes homes report) (machine : Machine) (shown : machine_objects machine
    ≡ gathered passes homes) where
  -- the number of boards
  abbrev k : ℕ
  k = length config.boards

  -- there are k objects and one more
  gathered_long : length (gathered passes homes) ≡ k + 1
  gathered_long = (order config passes homes report g).objects.count ∙ opening_count config

  -- the machine has k boards
  boards_long : length machine.boards ≡ k
  boards_long = let a = objects_count machine in let b = ap length shown in let c = gathered_long in omega (arith, a, b, c)

  -- the machine's object at an index is that of the home there
  object_is : (x : ℕ) (home : Home BusObject) → x < k + 1 → get_elem? homes x ≡ some home
      → slice_get (machine_objects machine) x ≡ Some (gathered_at passes x home)
  object_is x home less there =
      let t : CountedState BusObject = gathered_at passes x home in
      let below : x < length (gathered passes homes) = subst (λ n. x < n) (sym gathered_long) less in
      let here : x < length homes = subst (λ n. x < n) (gathered_count passes 0 homes) below in
      let zero_more : 0 + x ≡ x = omega arith in
      ap (λ (ts : List (CountedState BusObject)). slice_get ts x) shown
      ∙ slice_get-get_or (gathered passes homes) x t below
      ∙ ap Some (gathered_is passes 0 homes x t home there here ∙ ap (λ j. gathered_at passes j home) zero_more)

  -- counts of processors that are those of their passes are those of the object
  made_is : (x : ℕ) (made : List ℕ) (count : List BusEntry → ℕ) → length made ≡ length passes
      → ((who d : ℕ) (p : BusPass) → who < length passes → slice_index_or made who d ≡ count (slice_index_or passes who p).mine)
      → ((who : ℕ) (p : BusPass) → who < length passes
      → length (part x (slice_index_or passes who p).mine) ≡ count (slice_index_or passes who p).mine)
      → made ≡ map (λ (p : BusPass). length (part x p.mine)) passes
  made_is x made count long makes same =
      let counted = λ (p : BusPass). length (part x p.mine) in
      ext_get_or 0 made (map counted passes) (long ∙ sym (length-map passes counted))
      (λ who less.
      let there : who < length passes = subst (λ n. who < n) long less in
      let p = some_of passes who there in
      makes who 0 p there ∙ sym (same who p there)
      ∙ sym (get_or_default (map counted passes) who 0 (counted p) (omega (arith, there, length-map passes counted))
      ∙ get_or-map counted passes who p))

  -- the report's entry of each board agrees with the board's state
  agrees : (x : ℕ) (own : BoardConfig) (script : List ScriptLine) (l : Vec (ℕ × LineReply)) (end : BoardReport)
      (b : CountedState Board)
      → x < k
      → Agrees (slice_index_or config.boards x own) (slice_index_or config.scripts x script)
      (slice_index_or report.lines.items x l)
      (slice_index_or report.boards.items x end) (slice_index_or machine.boards x b)
  agrees x own script l end b less =
      let here = g.boards.each x own end less in
      let at = found_board machine.boards (arbiter_object machine.bus) x (gathered_at passes x here.home)
      (subst (λ n. x < n) (sym boards_long) less) (object_is x here.home (omega (arith, less)) here.there) in
      let is : slice_index_or machine.boards x b ≡ at.0 = get_or_from_slice_get machine.boards x at.0 b at.1 in
      let same : objects.Board (slice_index_or report.boards.items x end).memory ≡ objects.Board at.0.object =
      sym here.memory ∙ ap (λ (t : CountedState BusObject). t.object) (sym at.2) in
      let in_script : x < length config.scripts = subst (λ n. x < n) (sym lawful.scripts) less in
      let in_lines : x < length report.lines.items = subst (λ n. x < n) (sym (g.trace.count ∙ g.settled.settles.all)) less in
      subst (λ (b : CountedState Board). Agrees (slice_index_or config.boards x own) (slice_index_or config.scripts x script)
      (slice_index_or report.lines.items x l) (slice_index_or report.boards.items x end) b) (sym is)
      (record {
        slot = here.slot;
        numbers = g.numbers x l in_lines ∙ ap (λ (s : List ScriptLine). map (λ (one : ScriptLine). one.number) s)
            (get_or_default config.scripts x [] script in_script);
        memory = cc same;
        steps = here.steps ∙ ap (λ (t : CountedState BusObject). t.steps) (sym at.2);
        made =
            made_is x (slice_index_or report.boards.items x end).made.items (λ es. length (board_part x
            (run_of es))) here.process_count here.makes
            (λ who p there. board_entries k x less (slice_index_or passes who p).mine (g.settled.kinds who p there))
            ∙ ap (λ (t : CountedState BusObject). t.made) (sym at.2);
      })

  -- the arbiter's object is that of its home
  arbiter_is : arbiter_object machine.bus ≡ gathered_at passes k g.bus
  arbiter_is =
      found_last machine.boards (arbiter_object machine.bus) (gathered_at passes k g.bus)
      (subst (λ n. slice_get (machine_objects machine) n ≡ Some (gathered_at passes k g.bus)) (sym boards_long)
      (object_is k g.bus (omega arith) g.bus_there))

  -- the report is that of the machine with all replies
  pub reports_machine : IsReportOfState config report (ended_state machine (answers_in report))
  reports_machine = record {
    boards =
        texts_agree config.boards config.scripts report.lines.items report.boards.items machine.boards
        lawful.scripts (g.trace.count ∙ g.settled.settles.all) g.boards.count boards_long agrees;
    arbiter_steps = g.bus_steps ∙ ap (λ (t : CountedState BusObject). t.steps) (sym arbiter_is);
    arbiter_made =
        made_is k report.arbiter_made.items (λ es. length (bus_part (run_of es))) g.bus_process_count g.bus_makes
        (λ who p there. arbiter_entries k (slice_index_or passes who p).mine (g.settled.kinds who p there))
        ∙ ap (λ (t : CountedState BusObject). t.made) (sym arbiter_is);
  }

-- the report that is gathered is that of the state after some turns of slots
pub report_of_turns : (config : Configuration) (passes : List BusPass) (homes : List (Home BusObject)) (report : Report)
    → IsLawful config → IsGathered config passes homes report
    → (slots : List ℕ) × IsReportOfState config report (state_after config slots)
report_of_turns config passes homes report lawful g =
    let found = gathered_by_turns config lawful passes homes report g in (
      found.0,
      subst (IsReportOfState config report) (sym found.2)
          (reports_machine config lawful passes homes report g found.1 found.3),
    )

-- its text and status are those of a run of the input
pub run_text_of_gathered : (input : List ℕ) (config : Configuration) (passes : List BusPass) (homes : List (Home BusObject))
    (report : Report)
    → Configures input config → IsGathered config passes homes report
    → IsRunText input (report_text (texts_of_report report)) (report_status (texts_of_report report))
run_text_of_gathered input config passes homes report configures g =
    let found = report_of_turns config passes homes report (read_lawful input config configures) g in
    record {
      config = config;
      configures = configures;
      slots = found.0;
      text_is = ap report_text found.1.boards;
      status_is = ap report_status found.1.boards;
      report = report;
      order = report_of_one_order config passes homes report g;
      state = found.1;
    }
