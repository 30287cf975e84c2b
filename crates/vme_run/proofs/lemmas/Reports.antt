-- A report of one order is that of the state after some turns.
use Rattle.std.proofs.Common.{◌≡◌, ℕ, zero, suc, ◌<◌, List, [], ◌∷◌, length, map, replicate, slice_index_or, Some, refl, ap, sym, subst, ◌∙◌, arith}
use Rattle.std.specs.Prelude.{slice_get}
use Rattle.std.specs.Global.{Vec}
use Rattle.std.proofs.lemmas.List.{length-map, length-replicate, get_or-replicate, ext_get_or}
use Rattle.std.proofs.lemmas.Option.{same_Some, slice_get_within, get_or_from_slice_get}
use Rattle.vme_object.specs.History.{IsLegal, own}
use Rattle.vme_memory.specs.Boards.{Board}
use Rattle.vme_memory.specs.Locals.{board_step}
use Rattle.vme_core.specs.CountedStates.{CountedState, IsObjectRun, fresh_count}
use Rattle.vme_arbiter.specs.Arbitration.{opening_bus, arbiter_step}
use Rattle.vme_core.specs.Runs.{Machine, board_part, bus_part}
use Rattle.vme_shared.specs.declared.reply.LineReply.{LineReply}
use Rattle.vme_report.specs.Boards.{BoardText}
use Rattle.vme_script.specs.declared.board.BoardConfig.{BoardConfig}
use Rattle.vme_script.specs.declared.script.ScriptLine.{ScriptLine}
use Rattle.vme_script.specs.Configurations.{Configuration, opening_memory}
use Rattle.vme_script.specs.Lawful.{IsLawful}
use Rattle.vme_line_task.specs.Scripts.{script_at, lines_at}
use Rattle.vme_line_task.specs.Traces.{ScriptState, IsTrace}
use Rattle.vme_stepper.specs.Turns.{script_state, initial_state, state_after}
use Rattle.vme_stepper.specs.Reports.{numbered_replies, text_of_board, texts_of_boards, texts_of_system}
use Rattle.vme_bus_objects.specs.Runs.{transitions_of}
use Rattle.vme_threads.specs.declared.report.BoardReport.{BoardReport}
use Rattle.vme_threads.specs.declared.report.Report.{Report}
use Rattle.vme_threads.specs.Rans.{numbers_in, replies_of_lines}
use Rattle.vme_threads.specs.ReportTexts.{texts_of_ends, texts_of_report}
use Rattle.vme_run.specs.Orders.{performed, IsOneOrder, IsReportOfState, ended_state}
use Rattle.vme_threads.specs.OneOrder.{IsEntryOfBoard, IsReportOfOneOrder}
use Rattle.vme_run.proofs.lemmas.Lists.{element_at, map_at, same_elements, related_at}
use Rattle.vme_run.proofs.lemmas.Turns.{one_order}
use Rattle.vme_run.proofs.lemmas.MachineRuns.{Legal, IsPerformed, is_performed}

-- if the numbers are those of the script, the numbered replies of the lines are the lines
lines_are : (script : List ScriptLine) (lines : List (ℕ × LineReply)) → numbers_in lines ≡ map (λ one. one.number) script
    → numbered_replies script (replies_of_lines lines) ≡ lines
lines_are [] [] numbers = refl
lines_are [] (line ∷ lines) numbers = absurd (cc numbers)
lines_are (one ∷ script) [] numbers = absurd (cc numbers)
lines_are (one ∷ script) (line ∷ lines) numbers =
    let first : one.number ≡ line.0 = cc numbers in
    let rest : numbers_in lines ≡ map (λ one. one.number) script = cc numbers in
    let others = lines_are script lines rest in
    λ k. (first k, line.1) ∷ others k

-- the text of the board at an index, after turns
boards_at : (boards : List BoardConfig) (scripts : List (List ScriptLine)) (script_states : List ScriptState) (counted_states : List (CountedState Board)) (i : ℕ)
    (board : BoardConfig) (script : List ScriptLine) (c : ScriptState) (counted : CountedState Board)
    → slice_get boards i ≡ Some board → slice_get scripts i ≡ Some script
    → slice_get script_states i ≡ Some c → slice_get counted_states i ≡ Some counted
    → slice_get (texts_of_boards boards scripts script_states counted_states) i ≡ Some (text_of_board board script c counted)
boards_at [] scripts script_states counted_states i board script c counted a b d e = absurd (cc a)
boards_at (x ∷ boards) [] script_states counted_states i board script c counted a b d e = absurd (cc b)
boards_at (x ∷ boards) (y ∷ scripts) [] counted_states i board script c counted a b d e = absurd (cc d)
boards_at (x ∷ boards) (y ∷ scripts) (z ∷ script_states) [] i board script c counted a b d e = absurd (cc e)
boards_at (x ∷ boards) (y ∷ scripts) (z ∷ script_states) (w ∷ counted_states) zero board script c counted a b d e =
    let p = same_Some x board a in let q = same_Some y script b in let r = same_Some z c d in let s = same_Some w counted e in
    λ k. Some (text_of_board (p k) (q k) (r k) (s k))
boards_at (x ∷ boards) (y ∷ scripts) (z ∷ script_states) (w ∷ counted_states) (suc i) board script c counted a b d e =
    boards_at boards scripts script_states counted_states i board script c counted a b d e

-- there is a text for each board, after turns
boards_count : (boards : List BoardConfig) (scripts : List (List ScriptLine)) (script_states : List ScriptState) (counted_states : List (CountedState Board)) (n : ℕ)
    → length boards ≡ n → length scripts ≡ n → length script_states ≡ n → length counted_states ≡ n
    → length (texts_of_boards boards scripts script_states counted_states) ≡ n
boards_count [] scripts script_states counted_states n a b c d = a
boards_count (x ∷ boards) [] script_states counted_states n a b c d = absurd (omega arith)
boards_count (x ∷ boards) (y ∷ scripts) [] counted_states n a b c d = absurd (omega arith)
boards_count (x ∷ boards) (y ∷ scripts) (z ∷ script_states) [] n a b c d = absurd (omega arith)
boards_count (x ∷ boards) (y ∷ scripts) (z ∷ script_states) (w ∷ counted_states) n a b c d =
    let more =
    boards_count boards scripts script_states counted_states (length boards) refl (omega arith) (omega arith)
    (omega arith) in omega arith

-- the text of a report's entry of a board, with its lines
abbrev text_of_end : BoardReport → List (ℕ × LineReply) → BoardText
text_of_end end lines =
    record { slot = end.slot; lines = lines; bytes = end.memory.bytes; steps = end.steps; made = end.made.items }

-- the text of the report's entry at an index
ends_at : (ends : List BoardReport) (lines : List (List (ℕ × LineReply))) (i : ℕ) (end : BoardReport) (own : List (ℕ × LineReply))
    → slice_get ends i ≡ Some end
    → slice_get lines i ≡ Some own → slice_get (texts_of_ends ends lines) i ≡ Some (text_of_end end own)
ends_at [] lines i end own a b = absurd (cc a)
ends_at (x ∷ ends) [] i end own a b = absurd (cc b)
ends_at (x ∷ ends) (y ∷ lines) zero end own a b =
    let p = same_Some x end a in let q = same_Some y own b in
    λ k. Some (text_of_end (p k) (q k))
ends_at (x ∷ ends) (y ∷ lines) (suc i) end own a b = ends_at ends lines i end own a b

-- there is a text for each entry of the report
ends_count : (ends : List BoardReport) (lines : List (List (ℕ × LineReply))) (n : ℕ) → length ends ≡ n → length lines ≡ n
    → length (texts_of_ends ends lines) ≡ n
ends_count [] lines n a b = a
ends_count (x ∷ ends) [] n a b = absurd (omega arith)
ends_count (x ∷ ends) (y ∷ lines) n a b = let more = ends_count ends lines (length ends) refl (omega arith) in omega arith

module _ (config : Configuration) (report : Report) (lawful : IsLawful config) (is : IsReportOfOneOrder config report) where
  -- the number of boards
  abbrev k : ℕ
  k = length config.boards

  -- the machine before the first turn
  abbrev pub first : Machine
  first = (initial_state config).machine

  -- the machine has a board for each that is configured
  first_count : length first.boards ≡ k
  first_count = length-map (map opening_memory config.boards) (fresh_count k) ∙ length-map config.boards opening_memory

  -- the machine's board at an index before the first turn
  first_at : (x : ℕ) (own : BoardConfig) → slice_get config.boards x ≡ Some own
      → slice_get first.boards x ≡ Some (fresh_count k (opening_memory own))
  first_at x own found =
      map_at (fresh_count k) (map opening_memory config.boards) x (opening_memory own)
      (map_at opening_memory config.boards x own found)

  -- the report's entry of a board
  end_at : (x : ℕ) (own : BoardConfig) → slice_get config.boards x ≡ Some own
      → (end : BoardReport) × (slice_get report.boards.items x ≡ Some end) × IsEntryOfBoard config is.run x own end
  end_at x own found =
      let less = slice_get_within config.boards x own found in
      let end = element_at report.boards.items x (rw is.boards.count less) in
      (end.0, end.1, related_at (IsEntryOfBoard config is.run) config.boards report.boards.items x own end.0 is.boards found end.1)

  -- the part of each object in the run is legal from its initial state
  legal : Legal first is.run
  legal = record {
    boards = λ x b found.
        let less : x < k = subst (λ n. x < n) first_count (slice_get_within first.boards x b found) in
        let own = element_at config.boards x less in
        let end = end_at x own.0 own.1 in
        let same : fresh_count k (opening_memory own.0) ≡ b = same_Some _ _ (sym (first_at x own.0 own.1) ∙ found) in
        subst (λ (b : CountedState Board). IsLegal board_step b.object (board_part x is.run)) same end.2.leads.legal;
    bus = is.bus.1.legal;
  }

  -- the machine performs the run
  pub one : IsPerformed first is.run
  one = is_performed is.run first k first_count is.fitting is.within legal

  -- the machine after the run
  abbrev pub last : Machine
  last = performed first is.run

  -- the replies to all lines
  abbrev pub answers : List (List LineReply)
  answers = map (λ (lines : Vec (ℕ × LineReply)). replies_of_lines lines.items) report.lines.items

  -- the lines of the processor at an index
  pub lines_of : (x : ℕ) → x < k → (lines : Vec (ℕ × LineReply)) × (slice_get report.lines.items x ≡ Some lines)
  lines_of x less = element_at report.lines.items x (rw is.trace.count less)

  -- the run is one order of the transitions of all processors
  pub order : IsOneOrder config is.run answers last
  order = record {
    known = is.known;
    performed = one.performs;
    count = length-map report.lines.items (λ (lines : Vec (ℕ × LineReply)). replies_of_lines lines.items) ∙ is.trace.count;
    traces = λ b own found.
        let less : b < k =
        subst (λ n. b < n) (length-map report.lines.items (λ (lines : Vec (ℕ × LineReply)). replies_of_lines lines.items) ∙ is.trace.count)
        (slice_get_within answers b own found) in
        let lines = lines_of b less in
        let board = element_at config.boards b less in
        let same : replies_of_lines lines.0.items ≡ own =
        same_Some _ _ (sym (map_at (λ (lines : Vec (ℕ × LineReply)). replies_of_lines lines.items) report.lines.items b lines.0 lines.1) ∙ found) in
        subst (IsTrace config b (lines_at config b) (transitions_of b is.run)) same
        (related_at (λ who (own : BoardConfig) (lines : Vec (ℕ × LineReply)). IsTrace config who (lines_at config who) (transitions_of who is.run) (replies_of_lines lines.items))
        config.boards report.lines.items b board.0 lines.0 is.trace board.1 lines.1);
  }

  -- the text of each board's entry is that after the turns
  same_at : (x : ℕ) → x < k
      → slice_get (texts_of_report report) x ≡ slice_get (texts_of_system config (ended_state last answers)) x
  same_at x less =
      let board = element_at config.boards x less in
      let own : BoardConfig = board.0 in
      let lines = lines_of x less in
      let end = end_at x own board.1 in
      let e : BoardReport = end.0 in
      let script = element_at config.scripts x (rw lawful.scripts less) in
      let script_is : script_at config x ≡ script.0 = get_or_from_slice_get config.scripts x script.0 [] script.1 in
      let counted = element_at last.boards x (rw one.did.boards.count (rw first_count less)) in
      let t : CountedState Board = counted.0 in
      let went : IsObjectRun board_step (board_part x is.run) (fresh_count k (opening_memory own)) t =
      related_at (λ x b a. IsObjectRun board_step (board_part x is.run) b a) first.boards last.boards x
      (fresh_count k (opening_memory own)) t one.did.boards (first_at x own board.1) counted.1 in
      let memory : e.memory ≡ t.object = end.2.leads.replayed ∙ sym went.object in
      let steps : e.steps ≡ t.steps = let a = end.2.leads.counted in let b = went.steps in omega arith in
      let made : e.made.items ≡ t.made =
      ext_get_or 0 e.made.items t.made (end.2.leads.process_count ∙ sym (went.process_count ∙ length-replicate k 0))
      (λ w w<.
      let below : w < k = subst (λ n. w < n) end.2.leads.process_count w< in
      let a = end.2.leads.makes w 0 below in
      let b = went.made w (rw (length-replicate {A = ℕ} k 0) below) in
      let c : slice_index_or (replicate {A = ℕ} k 0) w 0 ≡ 0 = get_or-replicate k w 0 0 below in
      omega arith) in
      let numbers : numbers_in lines.0.items ≡ map (λ one. one.number) (script_at config x) =
      subst (λ (l : Vec (ℕ × LineReply)). numbers_in l.items ≡ map (λ one. one.number) (script_at config x))
      (get_or_from_slice_get report.lines.items x lines.0 lines.0 lines.1)
      (is.numbers x lines.0 (slice_get_within report.lines.items x lines.0 lines.1)) in
      let lines_same : numbered_replies script.0 (replies_of_lines lines.0.items) ≡ lines.0.items =
      lines_are script.0 lines.0.items (numbers ∙ ap (λ (s : List ScriptLine). map (λ one. one.number) s) script_is) in
      let texts : text_of_end e lines.0.items ≡ text_of_board own script.0 (script_state (replies_of_lines lines.0.items) []) t =
      λ i. record { slot = end.2.slot i; lines = sym lines_same i; bytes = (memory i).bytes; steps = steps i; made = made i } in
      let left : slice_get (texts_of_report report) x ≡ Some (text_of_end e lines.0.items) =
      ends_at report.boards.items (map (λ (lines : Vec (ℕ × LineReply)). lines.items) report.lines.items) x e lines.0.items end.1
      (map_at (λ (lines : Vec (ℕ × LineReply)). lines.items) report.lines.items x lines.0 lines.1) in
      let state_at : slice_get (map (λ own. script_state own []) answers) x ≡ Some (script_state (replies_of_lines lines.0.items) []) =
      map_at (λ own. script_state own []) answers x (replies_of_lines lines.0.items)
      (map_at (λ (lines : Vec (ℕ × LineReply)). replies_of_lines lines.items) report.lines.items x lines.0 lines.1) in
      let right : slice_get (texts_of_system config (ended_state last answers)) x ≡ Some (text_of_board own script.0 (script_state (replies_of_lines lines.0.items) []) t) =
      boards_at config.boards config.scripts (map (λ own. script_state own []) answers) last.boards x own script.0
      (script_state (replies_of_lines lines.0.items) []) t board.1 script.1 state_at counted.1 in
      left ∙ ap Some texts ∙ sym right

  -- the texts of all entries are those after the turns
  same_reported : texts_of_report report ≡ texts_of_system config (ended_state last answers)
  same_reported =
      let states_count : length (map (λ own. script_state own []) answers) ≡ k =
      length-map answers (λ own. script_state own []) ∙ order.count in
      let right : length (texts_of_system config (ended_state last answers)) ≡ k =
      boards_count config.boards config.scripts
      (map (λ own. script_state own []) answers) last.boards k refl lawful.scripts states_count
      (one.did.boards.count ∙ first_count) in
      let left : length (texts_of_report report) ≡ k =
      ends_count report.boards.items (map (λ (lines : Vec (ℕ × LineReply)). lines.items) report.lines.items) k is.boards.count
      (length-map report.lines.items (λ (lines : Vec (ℕ × LineReply)). lines.items) ∙ is.trace.count) in
      same_elements (texts_of_report report) (texts_of_system config (ended_state last answers)) (left ∙ sym right)
      (λ i less. same_at i (subst (λ n. i < n) right less))

  -- the arbiter's history in the run leads from a free bus to the arbiter after the run
  arbiter_run : IsObjectRun arbiter_step (bus_part is.run) (fresh_count k (opening_bus config.arbiter)) last.bus
  arbiter_run = one.did.bus

  -- the report's steps of the arbiter are those after the run
  arbiter_steps_same : report.arbiter_steps ≡ last.bus.steps
  arbiter_steps_same = let a = is.bus.1.counted in let b = arbiter_run.steps in omega arith

  -- the report's steps of each processor on the arbiter are those after the run
  arbiter_made_same : report.arbiter_made.items ≡ last.bus.made
  arbiter_made_same =
      ext_get_or 0 report.arbiter_made.items last.bus.made
      (is.bus.1.process_count ∙ sym (arbiter_run.process_count ∙ length-replicate k 0))
      (λ w w<.
      let below : w < k = subst (λ n. w < n) is.bus.1.process_count w< in
      let a = is.bus.1.makes w 0 below in
      let b = arbiter_run.made w (rw (length-replicate {A = ℕ} k 0) below) in
      let c : slice_index_or (replicate {A = ℕ} k 0) w 0 ≡ 0 = get_or-replicate k w 0 0 below in
      omega arith)

  -- the report is that of the state after the run
  ended : IsReportOfState config report (ended_state last answers)
  ended = record { boards = same_reported; arbiter_steps = arbiter_steps_same; arbiter_made = arbiter_made_same }

  -- a report of one order is that of the state after some turns
  pub report_of_turns : (slots : List ℕ) × IsReportOfState config report (state_after config slots)
  report_of_turns =
      let turns = one_order config is.run answers last lawful order in
      (turns.0, subst (IsReportOfState config report) (sym turns.1) ended)
