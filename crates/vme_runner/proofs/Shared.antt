-- The processors of a report share the history of each board in its one order.
use Rattle.std.proofs.Common.{◌≡◌, ℕ, ◌+◌, ◌-◌, ◌≤◌, ◌<◌, List, [], ◌∷◌, length, map, take, drop, replicate, slice_index_or, ap, sym, subst, ◌∙◌, arith, inl, inr, eq-eqb, ne_eqb}
use Rattle.std.specs.Prelude.{All, slice_range}
use Rattle.std.proofs.lemmas.Bool.{cases_eq}
use Rattle.std.proofs.lemmas.List.{get_or-map, length-map, take-replicate, drop-replicate, length-replicate}
use Rattle.std.proofs.lemmas.Option.{slice_get-get_or}
use Rattle.vme_object.specs.declared.history.Entry.{Entry}
use Rattle.vme_object.specs.History.{own}
use Rattle.vme_object.specs.Each.{Each}
use Rattle.vme_memory.specs.declared.command.BoardCmd.{BoardCmd}
use Rattle.vme_memory.specs.declared.reply.Reply.{Reply}
use Rattle.vme_memory.specs.Boards.{zeros}
use Rattle.vme_core.specs.Runs.{Transition, board_entry, board_part}
use Rattle.vme_shared.specs.Layout.{mailbox_len}
use Rattle.vme_shared.specs.MailboxSteps.{BoardMailbox, LiesIn, IsNewMailbox, end_of}
use Rattle.vme_shared.specs.declared.reply.LineReply.{LineReply}
use Rattle.vme_script.specs.declared.board.BoardConfig.{BoardConfig}
use Rattle.vme_script.specs.Configurations.{Configuration, opening_memory}
use Rattle.vme_script.specs.Lawful.{IsLawful}
use Rattle.vme_line_task.specs.Scripts.{lines_at}
use Rattle.vme_line_task.specs.Traces.{IsTrace}
use Rattle.vme_mailbox_laws.specs.Runs.{AllFittingReplies, ShareHistory}
use Rattle.vme_bus_objects.specs.Runs.{transitions_of}
use Rattle.vme_threads.specs.declared.report.Report.{Report}
use Rattle.vme_threads.specs.Rans.{replies_of_lines}
use Rattle.vme_threads.specs.OneOrder.{IsReportOfOneOrder}
use Rattle.vme_threads.proofs.lemmas.Parts.{part_of, board_whose}
use Rattle.vme_run.proofs.lemmas.Lists.{values, values_count, each_value, value_pairs}
use Rattle.vme_run.proofs.lemmas.Histories.{known_of}
use Rattle.vme_run.proofs.lemmas.Reports.{order}
use Rattle.vme_runner.proofs.Granted.{run_turned}

-- if all replies of a run satisfy `IsFittingReply`, so do those of one processor's transitions
fitting_own : (who : ℕ) (run : List Transition) → AllFittingReplies run → AllFittingReplies (transitions_of who run)
fitting_own who [] fitting_replies = tt
fitting_own who (m ∷ run) fitting_replies = elim (cases_eq m.who who) [
  | inl same ↦ rw (eq-eqb m.who who same) (fitting_replies.0, fitting_own who run fitting_replies.1)
  | inr other ↦ rw (ne_eqb m.who who other) (fitting_own who run fitting_replies.1)
]

-- the replies to a report's lines, by processor
abbrev pub replies_in_report : Report → List (List LineReply)
replies_in_report report = map (λ lines. replies_of_lines lines.items) report.lines.items

module _ (config : Configuration) (report : Report) (lawful : IsLawful config) (is : IsReportOfOneOrder config report) where
  -- the transitions of each processor in the report's order
  abbrev pub own_runs : List (List Transition)
  own_runs = values (λ who. transitions_of who is.run) 0 (length config.boards)

  -- the processors share the history of each board
  pub share : (board : ℕ) → ShareHistory config board (board_part board is.run) own_runs (replies_in_report report)
  share board =
      let k : ℕ = length config.boards in
      let one = order config report lawful is in
      record {
        known = subst (λ (n : ℕ). All (λ (e : Entry BoardCmd Reply). e.who < n) (board_part board is.run))
            (sym (values_count (λ who. transitions_of who is.run) 0 k))
            (known_of (λ m. board_entry board m.who m.event m.reply) (λ m e found. board_whose board m.who m.event m.reply e found) k is.run is.known);
        owns = each_value (λ who run. own who (board_part board is.run) ≡ board_part board run) (λ who. transitions_of who is.run) k
            (λ who less. part_of (λ m. board_entry board m.who m.event m.reply) (λ m e found. board_whose board m.who m.event m.reply e found) who is.run);
        trace = value_pairs (λ who run reported. IsTrace config who (lines_at config who) run reported) (λ who. transitions_of who is.run) (replies_in_report report) k
            one.count
            (λ who d less. one.traces who (slice_index_or (replies_in_report report) who d)
            (slice_get-get_or (replies_in_report report) who d (subst (λ (n : ℕ). who < n) (sym one.count) less)));
        fitting_replies = each_value (λ who run. AllFittingReplies run) (λ who. transitions_of who is.run) k (λ who less. fitting_own who is.run (run_turned config report lawful is));
      }

-- the zero memory of a board has the board's size
zeros_len : (size : ℕ) → length (zeros size) ≡ size
unfolding zeros
zeros_len size = length-replicate size 0

-- any range of a zero memory is zero
zeros_at : (size at len : ℕ) → at + len ≤ size → slice_range (zeros size) at (at + len) ≡ zeros len
unfolding zeros
zeros_at size at len within =
    let count : at + len - at ≡ len = omega arith in
    ap (λ n. take n (drop at (replicate size 0))) count ∙ ap (take len) (drop-replicate at size 0)
    ∙ take-replicate len (size - at) 0 (omega arith)

-- a mailbox in the zero memory of a board is new
pub new_mailbox : (there : BoardConfig) (m : BoardMailbox) → LiesIn (opening_memory there) m
    → IsNewMailbox (opening_memory there) m
new_mailbox there m lies =
    let inside : end_of m ≤ there.entry.size = subst (λ n. end_of m ≤ n) (zeros_len there.entry.size) lies.within in
    record { lies = lies; zero = zeros_at there.entry.size m.offset (mailbox_len m.slots) inside }

-- what holds for each processor's replies holds for the replies in each processor's lines of the report
pub reported_each : (report : Report) (P : ℕ → List LineReply → Type 0) → Each P (replies_in_report report)
    → Each (λ who lines. P who (replies_of_lines lines.items)) report.lines.items
reported_each report P each who d below =
    subst (P who) (get_or-map (λ lines. replies_of_lines lines.items) report.lines.items who d [] below)
    (each who [] (subst (λ (n : ℕ). who < n) (sym (length-map report.lines.items (λ lines. replies_of_lines lines.items))) below))
