-- A mailbox that only the lines that name it touch is a queue in every report.
use Rattle.std.proofs.Common.{◌≡◌, ℕ, ◌+◌, ◌≤◌, ◌<◌, List, length, slice_index_or, ◌∙◌, arith}
use Rattle.vme_object.specs.declared.history.Entry.{Entry}
use Rattle.vme_object.specs.History.{IsLegal, IsPrefix}
use Rattle.vme_object.specs.Each.{Each}
use Rattle.vme_memory.specs.declared.command.BoardCmd.{BoardCmd}
use Rattle.vme_memory.specs.declared.reply.Reply.{Reply}
use Rattle.vme_memory.specs.Locals.{board_step}
use Rattle.vme_core.specs.Runs.{board_part}
use Rattle.vme_shared.specs.MailboxSteps.{BoardMailbox, LiesIn}
use Rattle.vme_shared.specs.Phases.{IsProper}
use Rattle.vme_shared.specs.Words.{put_by, taken_by, words_put, words_taken, all_idle}
use Rattle.vme_shared.proofs.lemmas.Opening.{is_queue}
use Rattle.vme_script.specs.declared.board.BoardConfig.{BoardConfig}
use Rattle.vme_script.specs.Configurations.{Configuration, opening_memory}
use Rattle.vme_script.specs.Lawful.{IsLawful}
use Rattle.vme_line_task.specs.Scripts.{lines_at}
use Rattle.vme_mailbox_laws.specs.Names.{lines_put, lines_taken, IsMailboxOf}
use Rattle.vme_mailbox_laws.specs.Groups.{own_words_put, own_words_taken}
use Rattle.vme_mailbox_laws.proofs.lemmas.Groups.{own_words}
use Rattle.vme_mailbox_laws.proofs.lemmas.Shared.{proper, put_by_outcome, taken_by_outcome}
use Rattle.vme_threads.specs.declared.report.Report.{Report}
use Rattle.vme_threads.specs.Rans.{replies_of_lines}
use Rattle.vme_threads.specs.OneOrder.{IsReportOfOneOrder}
use Rattle.vme_run.proofs.lemmas.Lists.{element_at}
use Rattle.vme_runner.proofs.Shared.{own_runs, share, new_mailbox, replies_in_report, reported_each}

-- a history is proper for a mailbox: there the mailbox is a queue, and each processor's words are those that the
-- report's lines show
pub record IsQueue (config : Configuration) (report : Report) (box : ℕ) (m : BoardMailbox) (h : List (Entry BoardCmd Reply))
    : Type 0 where
  pub is_proper : IsProper m h
  pub order : IsPrefix (words_taken m h) (words_put m h)
  pub capacity : length (words_put m h) ≤ length (words_taken m h) + m.slots
  pub put :
      Each (λ who lines. own_words_put who m h ≡ lines_put box (lines_at config who) (replies_of_lines lines.items))
      report.lines.items
  pub taken :
      Each (λ who lines. own_words_taken who m h ≡ lines_taken box (lines_at config who) (replies_of_lines lines.items))
      report.lines.items

-- if only the lines that name a mailbox touch its bytes, it is a queue in the history of its board
pub queue : (config : Configuration) (report : Report) (lawful : IsLawful config) (is : IsReportOfOneOrder config report)
    (box board : ℕ) (m : BoardMailbox) (own : BoardConfig) → board < length config.boards
    → IsMailboxOf config box board m → LiesIn (opening_memory (slice_index_or config.boards board own)) m
    → IsQueue config report box m (board_part board is.run)
queue config report lawful is box board m own below mailbox lies =
    let there = slice_index_or config.boards board own in
    let memory = opening_memory there in
    let h = board_part board is.run in
    let runs = own_runs config report lawful is in
    let end = element_at report.boards.items board (omega (arith, below, is.boards.count)) in
    let legal : IsLegal board_step memory h = (is.boards.each board own end.0 below).leads.legal in
    let new = new_mailbox there m lies in
    let shared = share config report lawful is board in
    let is_proper = proper config box board m memory h runs (replies_in_report report) mailbox new legal shared in
    let fifo = is_queue memory m h new legal is_proper in
    record {
      is_proper = is_proper;
      order = fifo.order;
      capacity = fifo.capacity;
      put = reported_each report (λ who reported. own_words_put who m h ≡ lines_put box (lines_at config who) reported)
          (λ who d less. own_words who put_by m all_idle h
          ∙ put_by_outcome config box board m memory h runs (replies_in_report report) mailbox new legal shared who d less);
      taken = reported_each report (λ who reported. own_words_taken who m h ≡ lines_taken box (lines_at config who) reported)
          (λ who d less. own_words who taken_by m all_idle h
          ∙ taken_by_outcome config box board m memory h runs (replies_in_report report) mailbox new legal shared who d less);
    }
