-- A report of one order is a report with one history for each object.
use Rattle.std.proofs.Common.{◌≡◌, ℕ, ◌<◌, List, [], ◌∷◌, length, map, Option, Some, None, All, refl, ap, sym, subst, ◌∙◌, arith, inl, inr, eq-eqb, ne_eqb}
use Rattle.std.specs.Prelude.{filter_map}
use Rattle.std.specs.Global.{Vec}
use Rattle.std.proofs.lemmas.Bool.{cases_eq}
use Rattle.std.proofs.lemmas.List.Elements.{All-nil, All-cons, All-head, All-tail}
use Rattle.vme_object.specs.declared.history.Entry.{Entry}
use Rattle.vme_object.specs.History.{own}
use Rattle.vme_memory.specs.Locals.{board_step}
use Rattle.vme_arbiter.specs.Arbitration.{opening_bus, arbiter_step}
use Rattle.vme_core.specs.Runs.{Transition, IsReplyTo, board_entry, bus_entry}
use Rattle.vme_shared.specs.declared.reply.LineReply.{LineReply}
use Rattle.vme_script.specs.declared.board.BoardConfig.{BoardConfig}
use Rattle.vme_script.specs.Configurations.{Configuration}
use Rattle.vme_line_task.specs.Scripts.{lines_at}
use Rattle.vme_line_task.specs.Traces.{IsTrace}
use Rattle.vme_bus_objects.specs.Runs.{transitions_of}
use Rattle.vme_threads.specs.declared.report.Report.{Report}
use Rattle.vme_threads.specs.Rans.{replies_of_lines}
use Rattle.vme_threads.specs.Reports.{HasHistory, IsReportOf}
use Rattle.vme_threads.specs.OneOrder.{LeadsTo, IsReportOfOneOrder}
use Rattle.vme_threads.proofs.lemmas.Parts.{part_of, board_whose, bus_whose}
use Rattle.vme_run.proofs.lemmas.Lists.{values, values_count, values_map, each_value, all_values, value_pairs}

-- the transitions of a processor are its own
pub transitions_whose : (who : ℕ) (run : List Transition) → All (λ m. m.who ≡ who) (transitions_of who run)
transitions_whose who [] = All-nil (λ (m : Transition). m.who ≡ who)
transitions_whose who (m ∷ run) = elim (cases_eq m.who who) [
  | inl same ↦ rw (eq-eqb m.who who same) (All-cons (λ (m : Transition). m.who ≡ who) m (transitions_of who run) same (transitions_whose who run))
  | inr other ↦ rw (ne_eqb m.who who other) (transitions_whose who run)
]

-- a fact of all transitions of a run is one of all transitions of a processor
pub transitions_all : (P : Transition → Type 0) (who : ℕ) (run : List Transition) → All P run → All P (transitions_of who run)
transitions_all P who [] all = All-nil P
transitions_all P who (m ∷ run) all = elim (cases_eq m.who who) [
  | inl same ↦ rw (eq-eqb m.who who same) (All-cons P m (transitions_of who run) (All-head P m run all) (transitions_all P who run (All-tail P m run all)))
  | inr other ↦ rw (ne_eqb m.who who other) (transitions_all P who run (All-tail P m run all))
]

module _ {C R : Type 0} (f : Transition → Option (Entry C R)) (whose : (m : Transition) (e : Entry C R) → f m ≡ Some e → e.who ≡ m.who) where
  -- the callers of a history are among the processors of the run
  pub known_of : (n : ℕ) (run : List Transition) → All (λ m. m.who < n) run → All (λ e. e.who < n) (filter_map f run)
  known_of n [] all = All-nil (λ (e : Entry C R). e.who < n)
  known_of n (m ∷ run) all =
      by_found (f m) refl (All-head (λ (m : Transition). m.who < n) m run all)
      (known_of n run (All-tail (λ (m : Transition). m.who < n) m run all))
    where
      by_found : (found : Option (Entry C R)) → f m ≡ found → m.who < n → All (λ e. e.who < n) (filter_map f run)
          → All (λ e. e.who < n) (filter_map f (m ∷ run))
      by_found None is less then = rw is then
      by_found (Some e) is less then =
          rw is (All-cons (λ (e : Entry C R). e.who < n) e (filter_map f run) (subst (λ w. w < n) (sym (whose m e is)) less) then)

  -- a history that leads to an object is shared by the runs of k processors
  shared_by : {S : Type 0} (step : S → C → S × R) (start : S) (k : ℕ) (run : List Transition) (object : S) (steps : ℕ) (made : List ℕ)
      → All (λ m. m.who < k) run
      → LeadsTo step start k (filter_map f run) object steps made
      → HasHistory step start (map (filter_map f) (values (λ who. transitions_of who run) 0 k)) object steps made
  shared_by step start k run object steps made known leads =
      let parts : List (List (Entry C R)) = values (λ who. filter_map f (transitions_of who run)) 0 k in
      let same : map (filter_map f) (values (λ who. transitions_of who run) 0 k) ≡ parts =
      values_map (filter_map f) (λ who. transitions_of who run) 0 k in
      rw same (record {
        history = filter_map f run;
        legal = leads.legal;
        replayed = leads.replayed;
        counted = leads.counted;
        known = subst (λ n. All (λ (e : Entry C R). e.who < n) (filter_map f run)) (sym (values_count (λ who. filter_map f (transitions_of who run)) 0 k)) (known_of k run known);
        owns = each_value (λ who part. own who (filter_map f run) ≡ part) (λ who. filter_map f (transitions_of who run)) k (λ who less. part_of f whose who run);
        makes = value_pairs (λ who (part : List (Entry C R)) n. n ≡ length part) (λ who. filter_map f (transitions_of who run)) made k leads.process_count
            (λ who d less. leads.makes who d less ∙ ap length (part_of f whose who run));
      })

-- a report of one order has one history for each object
pub is_report : (config : Configuration) (report : Report) → IsReportOfOneOrder config report → IsReportOf config report
is_report config report is =
    let k : ℕ = length config.boards in
    let runs : List (List Transition) = values (λ who. transitions_of who is.run) 0 k in record {
      runs = runs;
      workers = values_count (λ who. transitions_of who is.run) 0 k;
      whose = each_value (λ who run. All (λ (m : Transition). m.who ≡ who) run) (λ who. transitions_of who is.run) k (λ who less. transitions_whose who is.run);
      fitting = all_values (λ run. All (λ (m : Transition). IsReplyTo m.event m.reply) run) (λ who. transitions_of who is.run) 0 k (λ who. transitions_all (λ (m : Transition). IsReplyTo m.event m.reply) who is.run is.fitting);
      trace =
          value_pairs (λ who run (lines : Vec (ℕ × LineReply)). IsTrace config who (lines_at config who) run (replies_of_lines lines.items))
          (λ who. transitions_of who is.run) report.lines.items k is.trace.count
          (λ who d less. is.trace.each who (any_board who less) d less);
      numbers = is.numbers;
      boards = record {
        count = is.boards.count;
        each = λ x own end less.
            let ended = is.boards.each x own end less in
            record {
              slot = ended.slot;
              history = shared_by (λ m. board_entry x m.who m.event m.reply) (λ m e found. board_whose x m.who m.event m.reply e found) board_step _ k is.run _ _ _ is.known ended.leads;
            };
      };
      bus = (
        is.bus.0,
        shared_by (λ m. bus_entry m.who m.event m.reply) (λ m e found. bus_whose m.who m.event m.reply e found) arbiter_step
            (opening_bus config.arbiter) k is.run _ _ _ is.known is.bus.1,
      );
    }
  where
    -- a board of a list that is not empty
    some_board : (boards : List BoardConfig) (who : ℕ) → who < length boards → BoardConfig
    some_board [] who less = absurd (omega arith)
    some_board (b ∷ boards) who less = b

    -- a board of the configuration, if there is a processor
    any_board : (who : ℕ) → who < length config.boards → BoardConfig
    any_board who less = some_board config.boards who less
